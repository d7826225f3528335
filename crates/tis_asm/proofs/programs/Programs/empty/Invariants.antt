use Rattle.std.proofs.Common.{◌≡◌, [], replicate}
use Rattle.tis_asm.proofs.programs.Programs.empty.Given as goal

abbrev pub invariant-loop : goal.invariant-loop
invariant-loop l = l.programs.items ≡ replicate l.counter []
