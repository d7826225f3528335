-- The lines so far and those that are left are all lines.
use Rattle.std.proofs.Common.{◌≡◌, ◌+◌, length}
use Rattle.tis_base.specs.Lines.{text_lines}
use Rattle.tis_words.proofs.lines.line_count.Given as goal

abbrev pub invariant-loop : goal.invariant-loop
invariant-loop l = (goal.iterator-loop).can_next l.iterator' × (goal.iterator-loop).is_finite l.iterator' × (l.count + length l.iterator' ≡ length (text_lines l.text))
