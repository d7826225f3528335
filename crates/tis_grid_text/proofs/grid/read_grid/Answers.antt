use Rattle.std.proofs.Common.{List, sym, ap, ◌∙◌, arith}
use Rattle.tis_words.specs.Lines.{NonBlank}
use Rattle.tis_grid.specs.Puzzle.{puzzle_of}
use Rattle.tis_grid_text.specs.GridText.{with_lines}
use Rattle.tis_grid_text.proofs.Puzzles.{grids_are_puzzles}
use Rattle.tis_words.proofs.Counting.{lines_fit}
use Rattle.tis_grid_text.proofs.grid.read_grid.Goals as goal

pub overflow_add-line_count : goal.overflow_add-line_count
overflow_add-line_count c = omega (arith, lines_fit c.args.text.now, c.line_count.ensures)

pub returns-clause-puzzle : goal.returns-clause-puzzle
returns-clause-puzzle c =
    grids_are_puzzles c.args.text.now (puzzle_of c.lines.puzzle) (sym c.lines.invariant ∙ ap (λ (lines : List NonBlank). with_lines (puzzle_of c.lines.puzzle) lines) c.in_default.ensures.line.0)
