-- The rows so far are written.
use Rattle.std.proofs.Common.{◌≡◌, ◌++◌}
use Rattle.std.specs.Prelude.{flat_map}
use Rattle.std.specs.List.{range_with_len}
use Rattle.tis_report.specs.Outputs.{row_text}
use Rattle.tis_report.proofs.image.push_rows.Given as goal

abbrev pub invariant-loop-y : goal.invariant-loop-y
invariant-loop-y l = l.out.items ≡ l.fn.out.items ++ flat_map (row_text l.console.colours) (range_with_len 0 l.y)
