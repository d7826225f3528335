-- What is left is refused as all lines are.
use Rattle.std.proofs.Common.{◌≡◌, ◌+◌, false, length, replicate}
use Rattle.tis_base.specs.Lines.{text_lines}
use Rattle.tis_save.specs.Heads.{first_flagged_fault}
use Rattle.tis_save.proofs.heads.check_lines.Given as goal

abbrev pub invariant-loop-line : goal.invariant-loop-line
invariant-loop-line l = (goal.iterator-loop-line).can_next l.line-iterator × (goal.iterator-loop-line).is_finite l.line-iterator × (l.at + length l.line-iterator ≡ length (text_lines l.text)) × (first_flagged_fault l.count l.heads (l.at + 1) l.line-iterator ≡ first_flagged_fault l.count (record { seen = replicate 48 false; any = false }) 1 (text_lines l.text))
