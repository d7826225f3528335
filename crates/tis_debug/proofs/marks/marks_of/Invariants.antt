-- Each mark so far is that of its instruction.
use Rattle.std.proofs.Common.{◌≡◌, ℕ, ◌<◌, false, length, get_or}
use Rattle.tis_debug.specs.Sessions.{is_marked_in}
use Rattle.tis_debug.proofs.marks.marks_of.Given as goal

abbrev pub invariant-loop-instruction : goal.invariant-loop-instruction
invariant-loop-instruction l = (length l.marks ≡ 15) × ((k : ℕ) → k < l.instruction → get_or l.marks k false ≡ is_marked_in l.program k)
