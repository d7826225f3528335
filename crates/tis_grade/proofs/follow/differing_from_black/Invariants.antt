-- What was counted, and what is left.
use Rattle.std.proofs.Common.{◌≡◌, ◌+◌, ◌-◌, ◌≤◌, drop, replicate}
use Rattle.tis_grade.specs.Following.{differences}
use Rattle.tis_grade.proofs.follow.differing_from_black.Given as goal

abbrev pub invariant-loop-index : goal.invariant-loop-index
invariant-loop-index l =
    record {
      counted : l.differing + differences (drop l.index l.wanted.items) (replicate (l.points - l.index) 0) ≡ differences l.wanted.items (replicate l.points 0);
      few : l.differing ≤ l.index;
    }
