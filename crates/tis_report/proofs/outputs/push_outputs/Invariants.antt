-- The outputs so far are written.
use Rattle.std.proofs.Common.{◌≡◌, ◌++◌}
use Rattle.std.specs.Prelude.{flat_map}
use Rattle.std.specs.List.{range_with_len}
use Rattle.tis_grid.specs.Puzzle.{puzzle_of}
use Rattle.tis_report.specs.Outputs.{text_at}
use Rattle.tis_report.proofs.outputs.push_outputs.Given as goal

abbrev pub invariant-loop-position : goal.invariant-loop-position
invariant-loop-position l = l.out.items ≡ l.fn.out.items ++ flat_map (text_at (puzzle_of l.puzzle) l.state.state) (range_with_len 0 l.position)
