-- Only blank lines were passed, and lines can still be counted.
use Rattle.std.proofs.Common.{◌≡◌, ◌+◌, ◌^◌, ◌<◌, length}
use Rattle.tis_words.specs.Lines.{non_blank_from}
use Rattle.tis_words.proofs.lines.NonBlankLines.next.Given as goal

abbrev pub invariant-lines : goal.invariant-lines
invariant-lines l =
    record {
      lines : non_blank_from l.initial.self-inside.comments (l.initial.self-inside.passed + 1) l.initial.self-inside.left ≡ non_blank_from l.self-inside.comments (l.self-inside.passed + 1) l.self-inside.left;
      fits : l.self-inside.passed + length l.self-inside.left < 2 ^ 64;
    }

abbrev pub decreases-lines : goal.decreases-lines
decreases-lines l = length l.self-inside.left
