-- A grid as the program holds it.
use Rattle.std.specs.Prelude.{◌≡◌, ℕ, ◌<◌, ℤ, Bool, List, Option, Some, None, if◌then◌else◌, get_or, position, ◌==◌}
use Rattle.tis_asm.specs.declared.program.MarkedInstr.{MarkedInstr}
use Rattle.tis_asm.specs.Programs.{Programs}
use Rattle.tis_grid.specs.declared.puzzle.Puzzle as declared
use Rattle.tis_grid.specs.declared.puzzle.InputAt.{InputAt}
use Rattle.tis_grid.specs.Puzzle.{Puzzle, puzzle_of, has_input, values_at}
use Rattle.tis_grid.specs.State.{IsGrid}
use Rattle.tis_grid.specs.Events.{works_on}
use Rattle.tis_grid.specs.TileSets.{has}

-- the index of the input at a position, where one stands
abbrev pub place_of : List InputAt → ℕ → Option ℕ
place_of inputs at = position (λ input. input.position == at) inputs

-- the values of the input at a position, where one stands
abbrev pub input_values : Puzzle → ℕ → Option (List ℤ)
input_values puzzle at = if has_input puzzle.inputs at then Some (values_at puzzle.inputs at) else None

-- it is a grid, its programs are for the puzzle's tiles, they stand there once more decoded, the input of each position is found in one step, and of each tile it is kept whether it has a node with a program
pub record IsHeldGrid (puzzle : declared.Puzzle) (programs : Programs) (decoded : List (List MarkedInstr)) (input_at : List (Option ℕ)) (working : List Bool) : Type 0 where
  pub is_grid : IsGrid (record { puzzle = puzzle_of puzzle; programs = programs.programs })
  pub tiles : programs.tiles ≡ puzzle.tiles
  pub same : decoded ≡ programs.programs
  pub inputs : (at : ℕ) → at < 4 → get_or input_at at None ≡ place_of puzzle.inputs.items at
  pub works : (tile : ℕ) → has working tile ≡ works_on puzzle.tiles.kinds programs.programs tile
