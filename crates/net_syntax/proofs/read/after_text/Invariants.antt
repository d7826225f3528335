-- The lines so far and those that are left are all lines.
use Rattle.std.proofs.Common.{◌≡◌, length}
use Rattle.net_syntax.specs.Reading.{after_lines}
use Rattle.net_syntax.specs.ReaderView.{configuration_view}
use Rattle.net_syntax.specs.Forms.{lines_up_to}
use Rattle.net_syntax.proofs.read.after_text.Given as goal

abbrev pub invariant-lines : goal.invariant-lines
invariant-lines l =
    record {
      lines : after_lines (configuration_view l.initial.sofar) (lines_up_to l.most l.initial.lines) ≡ after_lines (configuration_view l.sofar) (lines_up_to l.left l.lines);
    }

abbrev pub decreases-lines : goal.decreases-lines
decreases-lines l = length l.lines
