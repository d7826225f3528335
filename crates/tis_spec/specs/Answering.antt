-- What the reader of specifications answers.
use Rattle.std.specs.Prelude.{Result, Ok, Err}
use Rattle.lua_syntax.specs.Refusal as chunk
use Rattle.lua_syntax.specs.declared.error.LuaSyntax.TheVariants as held_chunk
use Rattle.tis_grid.specs.Puzzle.{Puzzle, puzzle_of}
use Rattle.tis_grid.specs.declared.puzzle.Puzzle as held
use Rattle.tis_grid_text.specs.GridText as text
use Rattle.tis_grid_text.specs.declared.error.GridTextError.TheVariants as held_text
use Rattle.tis_puzzle.specs.Calling.{RefusesPuzzle}
use Rattle.tis_spec.specs.declared.error.SpecError.{SpecError}
use Rattle.tis_spec.specs.declared.error.SpecError.TheVariants as error
use Rattle.tis_spec.specs.Specification.{Refusal, NoGrid, NoChunk, NoPuzzle, refused_by}

-- why there is no puzzle; want of memory says nothing
abbrev pub RefusesSpec : SpecError → (Result Puzzle Refusal → Type 0) → Type 0
RefusesSpec (error.Grid (held_text.BadLine line)) Gives = Gives (Err (NoGrid (text.BadLine line)))
RefusesSpec (error.Grid (held_text.SamePlace line)) Gives = Gives (Err (NoGrid (text.SamePlace line)))
RefusesSpec (error.Grid held_text.NoMemory) Gives = Unit {0}
RefusesSpec (error.Syntax (held_chunk.Syntax line)) Gives = Gives (Err (NoChunk (chunk.Syntax line)))
RefusesSpec (error.Syntax (held_chunk.TooDeep line)) Gives = Gives (Err (NoChunk (chunk.TooDeep line)))
RefusesSpec (error.Syntax held_chunk.NoMemory) Gives = Unit {0}
RefusesSpec (error.Puzzle why) Gives = RefusesPuzzle why (λ puzzle. Gives (refused_by NoPuzzle puzzle))

-- the puzzle that is given, or why there is none
abbrev pub AnswersSpec : Result held.Puzzle SpecError → (Result Puzzle Refusal → Type 0) → Type 0
AnswersSpec (Ok made) Gives = Gives (Ok (puzzle_of made))
AnswersSpec (Err why) Gives = RefusesSpec why Gives
