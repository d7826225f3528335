-- What the readers of texts answer.
use Rattle.std.specs.Prelude.{◌≡◌, ℕ, ℤ, List, [], Option, option_map, Result, Ok, Err}
use Rattle.tis_base.specs.Tiles.{Tiles}
use Rattle.tis_words.specs.Lines.{NonBlank}
use Rattle.tis_base.specs.declared.memory.NoMemory.{NoMemory}
use Rattle.tis_base.specs.declared.values.Values.{Values}
use Rattle.std.specs.declared.vec.Vec.{Vec}
use Rattle.tis_grid.specs.declared.event.Event.{Event}
use Rattle.tis_grid.specs.declared.puzzle.Puzzle as held
use Rattle.tis_grid.specs.Puzzle.{Puzzle, Port, puzzle_of}
use Rattle.tis_grid_text.specs.declared.error.EventsError.{EventsError}
use Rattle.tis_grid_text.specs.declared.error.EventsError.TheVariants as event
use Rattle.tis_grid_text.specs.declared.error.GridTextError.{GridTextError}
use Rattle.tis_grid_text.specs.declared.error.GridTextError.TheVariants as grid
use Rattle.tis_grid_text.specs.GridText.{Refusal, BadLine, SamePlace, with_line, with_lines, grid_lines}

-- the number of a line is that of the first wrong one; want of memory says nothing
abbrev pub RefusesEvents : EventsError → Result (List Event) ℕ → Type 0
RefusesEvents (event.Bad line) events = events ≡ Err line
RefusesEvents event.NoMemory events = Unit {0}

-- the events of the text, or why it has none
abbrev pub AnswersEvents : {A : Type 0} → Result (Vec Event A) EventsError → Result (List Event) ℕ → Type 0
AnswersEvents (Ok read) events = events ≡ Ok read.items
AnswersEvents (Err error) events = RefusesEvents error events

-- the first wrong line, and what is wrong with it; want of memory says nothing
abbrev pub RefusesGrid : GridTextError → Result Puzzle Refusal → Type 0
RefusesGrid (grid.BadLine line) puzzle = puzzle ≡ Err (BadLine line)
RefusesGrid (grid.SamePlace line) puzzle = puzzle ≡ Err (SamePlace line)
RefusesGrid grid.NoMemory puzzle = Unit {0}

-- the puzzle of the text, or why it has none
abbrev pub AnswersGrid : Result held.Puzzle GridTextError → Result Puzzle Refusal → Type 0
AnswersGrid (Ok read) puzzle = puzzle ≡ Ok (puzzle_of read)
AnswersGrid (Err error) puzzle = RefusesGrid error puzzle

-- a call gives these values where there are any, unless memory ran out
abbrev pub GivesSome : Result (Option Values) NoMemory → Option (List ℤ) → Type 0
GivesSome (Ok read) values = option_map (λ (v : Values). v.items) read ≡ values
GivesSome (Err e) values = Unit {0}

-- a line adds its port to the puzzle, or it is refused; want of memory says nothing
abbrev pub AddsLine : held.Puzzle → Result (Unit {0}) GridTextError → held.Puzzle → ℕ → Option Port → Type 0
AddsLine old (Ok done) new number port = with_line (puzzle_of old) number port ≡ Ok (puzzle_of new)
AddsLine old (Err error) new number port = RefusesGrid error (with_line (puzzle_of old) number port)

-- the first two lines give these tiles, behind which the ports follow, or the first wrong one is refused; want of memory says nothing
abbrev pub ReadsHead : ℕ → List NonBlank → Result Tiles GridTextError → List NonBlank → Type 0
ReadsHead missing lines (Ok tiles) left = grid_lines missing lines ≡ with_lines (record { tiles = tiles; inputs = []; outputs = [] }) left
ReadsHead missing lines (Err error) left = RefusesGrid error (grid_lines missing lines)
