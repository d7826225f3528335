-- The values so far are as wanted.
use Rattle.std.proofs.Common.{take}
use Rattle.tis_base.specs.Prefix.{IsPrefixOf}
use Rattle.tis_grade.proofs.follow.first_wrong.Given as goal

abbrev pub invariant-loop-index : goal.invariant-loop-index
invariant-loop-index l = record { before : IsPrefixOf (take l.index l.taken.items) l.wanted.items }
