-- What a grid's text gives.
use Rattle.std.specs.Prelude.{◌≡◌, ℕ, List, Ok, IsTrue}
use Rattle.tis_grid.specs.Puzzle.{Puzzle, IsPuzzle}
use Rattle.tis_grid_text.specs.GridText.{is_grid_text, grid_of}

-- each text that is a grid gives a puzzle: its ports stand at columns, no two of one side at the same one, and what comes in are values of the machine
abbrev pub GridsArePuzzles : Type 0
GridsArePuzzles = (text : List ℕ) (puzzle : Puzzle) → grid_of text ≡ Ok puzzle → IsPuzzle puzzle

-- each text that gives a puzzle is the text of a grid by its first line
abbrev pub GridsHaveHeads : Type 0
GridsHaveHeads = (text : List ℕ) (puzzle : Puzzle) → grid_of text ≡ Ok puzzle → IsTrue (is_grid_text text)
