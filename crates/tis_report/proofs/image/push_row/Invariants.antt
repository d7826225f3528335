-- The points so far are written.
use Rattle.std.proofs.Common.{◌≡◌, ◌++◌, map}
use Rattle.std.specs.List.{range_with_len}
use Rattle.tis_report.specs.Outputs.{point_digit}
use Rattle.tis_report.proofs.image.push_row.Given as goal

abbrev pub invariant-loop-x : goal.invariant-loop-x
invariant-loop-x l = l.out.items ≡ l.fn.out.items ++ map (point_digit l.console.colours l.y) (range_with_len 0 l.x)
