-- The scripts of a debugger: one command a line, and what a session prints that does them one after the other.
use Rattle.std.specs.Prelude.{ℕ, List, [], ◌∷◌, ◌++◌, Option, Some, None, option_map, option_and_then, Result, Ok, Err, codes, if◌then◌else◌}
use Rattle.std.specs.Str.{bytes_eq}
use Rattle.tis_words.specs.declared.comments.Comments.TheVariants.{Never}
use Rattle.tis_words.specs.Words.{Words}
use Rattle.tis_words.specs.Lines.{NonBlank, non_blank_lines}
use Rattle.tis_words.specs.Numerals.{number_of}
use Rattle.tis_grid.specs.State.{Grid}
use Rattle.tis_debug.specs.declared.script.Action.{Action}
use Rattle.tis_debug.specs.declared.script.Action.TheVariants as act
use Rattle.tis_debug.specs.declared.session.Stop.{Stop}
use Rattle.tis_debug.specs.declared.session.Stop.TheVariants.{Break, Rest, Limit}
use Rattle.tis_debug.specs.declared.error.DebugError.{DebugError}
use Rattle.tis_debug.specs.declared.error.DebugError.TheVariants.{NoHistory, NoSuchNode, NoSuchLine}
use Rattle.tis_debug.specs.Sessions.{Session, first_session, moved, step_count, go_count, go_stop, back_answer, after_back, mark_answer, after_mark}
use Rattle.tis_debug.specs.Shown.{numbered, line_of, cycle_text, shown}

-- ---- reading

-- how many cycles a line tells
abbrev pub count_of : List ℕ → Option ℕ
count_of word = number_of 1000000 word

-- the number of a tile or of an instruction that a line tells
abbrev pub index_of : List ℕ → Option ℕ
index_of word = number_of 255 word

abbrev pub alone : List ℕ → Option Action
alone name = if bytes_eq name (codes "go") then Some act.Go else (if bytes_eq name (codes "show") then Some act.Show else None)

abbrev pub with_count : List ℕ → List ℕ → Option Action
with_count name count =
    if bytes_eq name (codes "step") then option_map (λ n. act.Step n) (count_of count)
    else (if bytes_eq name (codes "back") then option_map (λ n. act.Back n) (count_of count) else None)

abbrev pub with_place : List ℕ → List ℕ → List ℕ → Option Action
with_place name tile instruction =
    if bytes_eq name (codes "break") then option_and_then (λ t. option_map (λ i. act.Break t i) (index_of instruction)) (index_of tile) else None

-- the command that the words of a line are; they are written exactly so
abbrev pub action_of : Words → Option Action
action_of [] = None
action_of (name ∷ []) = alone name
action_of (name ∷ count ∷ []) = with_count name count
action_of (name ∷ tile ∷ instruction ∷ []) = with_place name tile instruction
action_of (name ∷ tile ∷ instruction ∷ more ∷ words) = None

-- a command before the others, or the number of its line, where it is none
abbrev pub action_before : Option Action → ℕ → Result (List Action) ℕ → Result (List Action) ℕ
action_before None number actions = Err number
action_before (Some action) number (Ok actions) = Ok (action ∷ actions)
action_before (Some action) number (Err later) = Err later

abbrev pub actions_in : List NonBlank → Result (List Action) ℕ
actions_in [] = Ok []
actions_in (line ∷ lines) = action_before (action_of line.words) line.number (actions_in lines)

-- the commands of a script, one a line that isn't blank, or the number of the first line that is none; there are no comments
abbrev pub script_of : List ℕ → Result (List Action) ℕ
script_of text = actions_in (non_blank_lines Never text)

-- ---- doing

-- the session after a command
abbrev pub after_action : Session → Action → Session
after_action session (act.Step count) = moved session (step_count session count)
after_action session act.Go = moved session (go_count session)
after_action session (act.Break tile instruction) = after_mark session tile instruction
after_action session (act.Back count) = after_back session count
after_action session act.Show = session

-- why a call is refused
abbrev pub error_text : DebugError → List ℕ
error_text (NoHistory kept) = line_of (codes "no history ") kept
error_text (NoSuchNode tile) = line_of (codes "no node ") tile
error_text (NoSuchLine instruction) = line_of (codes "no line ") instruction

-- what is printed where a call went well, or why it was refused
abbrev pub or_error : Result (Unit {0}) DebugError → List ℕ → List ℕ
or_error (Ok done) text = text
or_error (Err error) text = error_text error

-- what stopped `go`, and the cycle
abbrev pub stop_text : Stop → ℕ → List ℕ
stop_text (Break tile) cycle = numbered (codes "stop ") tile.number ++ line_of (codes " cycle ") cycle
stop_text Rest cycle = line_of (codes "rest cycle ") cycle
stop_text Limit cycle = line_of (codes "limit cycle ") cycle

-- what a command prints
abbrev pub action_text : Session → Action → List ℕ
action_text session (act.Step count) = cycle_text (after_action session (act.Step count)).cycle
action_text session act.Go = stop_text (go_stop session) (after_action session act.Go).cycle
action_text session (act.Break tile instruction) = or_error (mark_answer session tile instruction) (numbered (codes "break ") tile ++ line_of (codes " ") instruction)
action_text session (act.Back count) = or_error (back_answer session count) (cycle_text (after_back session count).cycle)
action_text session act.Show = shown session

-- what commands print, one after the other
abbrev pub script_text : Session → List Action → List ℕ
script_text session [] = []
script_text session (action ∷ actions) = action_text session action ++ script_text (after_action session action) actions

-- what a script prints over a grid from its start
abbrev pub debug_text : Grid → List Action → List ℕ
debug_text grid actions = script_text (first_session grid) actions
