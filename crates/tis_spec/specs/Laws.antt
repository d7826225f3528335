-- Laws of specifications.
use Rattle.std.specs.Prelude.{◌≡◌, ℕ, List, Result, Ok}
use Rattle.tis_grid.specs.Puzzle.{Puzzle, IsPuzzle}
use Rattle.tis_grid_text.specs.GridText.{grid_of}
use Rattle.tis_spec.specs.Specification.{Refusal, Specifies}

-- each text gives something with each seed: a puzzle, or why there is none
abbrev pub EachGives : Type 0
EachGives = (text : List ℕ) (seed : ℕ) → (given : Result Puzzle Refusal) × Specifies text seed given

-- and nothing else
abbrev pub EachGivesOne : Type 0
EachGivesOne = (text : List ℕ) (seed : ℕ) (one other : Result Puzzle Refusal) → Specifies text seed one → Specifies text seed other → one ≡ other

-- what is given is a puzzle: a grid can be made of it
abbrev pub GivenArePuzzles : Type 0
GivenArePuzzles = (text : List ℕ) (seed : ℕ) (puzzle : Puzzle) → Specifies text seed (Ok puzzle) → IsPuzzle puzzle

-- each text that is read as a grid gives that grid, with every seed
abbrev pub GridsAreGiven : Type 0
GridsAreGiven = (text : List ℕ) (seed : ℕ) (puzzle : Puzzle) → grid_of text ≡ Ok puzzle → Specifies text seed (Ok puzzle)
