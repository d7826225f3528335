-- What the calls answer.
use Rattle.std.specs.Prelude.{◌≡◌, ℕ, ℤ, List, Option, option_map, Result, Ok, Err}
use Rattle.tis_base.specs.Tiles.{Tiles}
use Rattle.tis_base.specs.declared.tiles.TileKind.{TileKind}
use Rattle.tis_base.specs.declared.values.Values.{Values}
use Rattle.tis_grid.specs.Puzzle.{Puzzle, puzzle_of, bare}
use Rattle.tis_grid.specs.declared.puzzle.Puzzle as held
use Rattle.tis_puzzle.specs.declared.error.PuzzleError.{PuzzleError}
use Rattle.tis_puzzle.specs.declared.error.PuzzleError.TheVariants as error
use Rattle.tis_puzzle.specs.Entries.{Refusal, BadStreams, SamePlace}

-- the first wrong entry, and what is wrong with it; want of memory says nothing
abbrev pub RefusesEntry : PuzzleError → Result Puzzle Refusal → Type 0
RefusesEntry (error.BadStreams index) ports = ports ≡ Err (BadStreams index)
RefusesEntry (error.SamePlace index) ports = ports ≡ Err (SamePlace index)
RefusesEntry (error.BadLayout index) ports = ⊥
RefusesEntry (error.NoFunction _) ports = ⊥
RefusesEntry (error.Lua _ _) ports = ⊥
RefusesEntry error.NoMemory ports = Unit {0}

-- the puzzle with the ports, or the first wrong entry
abbrev pub AnswersPorts : Result held.Puzzle PuzzleError → Result Puzzle Refusal → Type 0
AnswersPorts (Ok made) ports = ports ≡ Ok (puzzle_of made)
AnswersPorts (Err error) ports = RefusesEntry error ports

-- an entry adds its port, so that this is the puzzle, or it is refused
abbrev pub AddsEntry : Result (Unit {0}) PuzzleError → held.Puzzle → Result Puzzle Refusal → Type 0
AddsEntry (Ok done) new wanted = wanted ≡ Ok (puzzle_of new)
AddsEntry (Err error) new wanted = RefusesEntry error wanted

-- the values of a list, where it is there
abbrev pub values_there : Option Values → Option (List ℤ)
values_there values = option_map (λ (v : Values). v.items) values

-- the tiles of these kinds, or the number of the first other value
abbrev pub AnswersTiles : Result Tiles ℕ → Result (List TileKind) ℕ → Type 0
AnswersTiles (Ok tiles) (Ok kinds) = tiles ≡ (bare kinds).tiles
AnswersTiles (Err index) (Err other) = index ≡ other
AnswersTiles _ _ = ⊥
