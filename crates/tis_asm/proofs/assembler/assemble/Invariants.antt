-- What was taken, and then what is left, spells what all lines do.
use Rattle.std.proofs.Common.{◌≡◌}
use Rattle.tis_base.specs.Lines.{text_lines}
use Rattle.tis_asm.specs.Assembling.{assembled_lines}
use Rattle.tis_asm.specs.Gathering.{assembled_with}
use Rattle.tis_asm.proofs.assembler.assemble.Given as goal

abbrev pub invariant-loop-line : goal.invariant-loop-line
invariant-loop-line l = (goal.iterator-loop-line).can_next l.line-iterator × (goal.iterator-loop-line).is_finite l.line-iterator × (assembled_with l.assembler l.line-iterator ≡ assembled_lines (text_lines l.text))
