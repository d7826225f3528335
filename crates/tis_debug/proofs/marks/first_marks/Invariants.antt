-- The marks of each tile so far are those of its program.
use Rattle.std.proofs.Common.{◌≡◌, ℕ, ◌<◌, [], length, get_or}
use Rattle.tis_debug.specs.Sessions.{marks_in}
use Rattle.tis_debug.proofs.marks.first_marks.Given as goal

abbrev pub invariant-loop-tile : goal.invariant-loop-tile
invariant-loop-tile l = (length l.marks ≡ 12) × ((k : ℕ) → k < l.tile → get_or l.marks k [] ≡ marks_in (get_or l.programs.programs k []))
