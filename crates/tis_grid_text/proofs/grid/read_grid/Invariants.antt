use Rattle.std.proofs.Common.{◌≡◌, length}
use Rattle.tis_grid.specs.Puzzle.{puzzle_of}
use Rattle.tis_grid_text.specs.GridText.{with_lines, grid_of}
use Rattle.tis_grid_text.proofs.grid.read_grid.Given as goal

abbrev pub invariant-lines : goal.invariant-lines
invariant-lines l = with_lines (puzzle_of l.puzzle) l.lines ≡ grid_of l.text

abbrev pub decreases-lines : goal.decreases-lines
decreases-lines l = length l.lines
