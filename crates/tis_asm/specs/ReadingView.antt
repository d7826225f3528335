-- What is seen of lines of code that are read.
use Rattle.std.specs.Prelude.{ℕ, List, map}
use Rattle.std.specs.Borrow.{Bor}
use Rattle.tis_asm.specs.declared.reading.NamedJump.{NamedJump as HeldJump}
use Rattle.tis_asm.specs.declared.reading.Reading.{Reading}
use Rattle.tis_asm.specs.ReadCode.{NamedJump, ReadCode, Labels}

abbrev pub jump_view : HeldJump → NamedJump
jump_view jump = record { line = jump.line; place = jump.place; mark = jump.mark; jump = jump.jump; label = jump.label.now }

-- the labels and what they stand above, with their bytes
abbrev pub labels_view : List (Bor (List ℕ) × ℕ) → Labels
labels_view entries = map (λ e. (e.0.now, e.1)) entries

abbrev pub reading_view : Reading → ReadCode
reading_view reading = record { program = reading.program; jumps = map jump_view reading.jumps.items; labels = labels_view reading.labels.entries }
