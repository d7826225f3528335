-- What `run`, `order`, `replay`, `debug` and `grade` come to over the texts that they fetch: the first refusal, or the report of what the grid did.
use Rattle.std.specs.Prelude.{ℕ, zero, suc, ◌+◌, List, [], ◌∷◌, ◌++◌, length, Option, Some, None, unwrap_or, Result, Ok, Err}
use Rattle.tis_asm.specs.Programs.{Programs}
use Rattle.tis_save.specs.Reading as save
use Rattle.tis_grid.specs.declared.event.Event.{Event}
use Rattle.tis_grid.specs.declared.running.Ended.TheVariants.{Rest, Limit}
use Rattle.tis_grid.specs.Puzzle.{Puzzle}
use Rattle.tis_grid.specs.State.{Grid, State, start}
use Rattle.tis_grid.specs.Events.{step}
use Rattle.tis_grid.specs.Orders.{after}
use Rattle.tis_grid.specs.Choices.{enabled_events}
use Rattle.tis_grid.specs.Drawn.{drawn}
use Rattle.tis_clock.specs.Cycle.{cycle_events, after_cycle}
use Rattle.tis_grid_text.specs.GridText as text
use Rattle.tis_grid_text.specs.EventsText.{events_of}
use Rattle.tis_grade.specs.declared.cases.Case.{Case}
use Rattle.tis_grade.specs.declared.cases.Failed.{Failed}
use Rattle.tis_grade.specs.Reports.{graded}
use Rattle.tis_report.specs.Reports.{ended_text, replayed_text, not_enabled_text}
use Rattle.tis_debug.specs.declared.script.Action.{Action}
use Rattle.tis_debug.specs.Scripts.{script_of, debug_text}
use Rattle.tis_cli.specs.declared.status.Refusal.TheVariants.{Save, Grid as Grid_text, Events, Script}
use Rattle.tis_spec.specs.Specification.{Refusal as SpecRefusal}
use Rattle.tis_cli.specs.Refusals.{save_error, grid_error, spec_refusal}
use Rattle.tis_cli.specs.Answers.{Completion, Answer, Refuses, Makes, AllDone, Limited, Stopped, Failed as Fails}

-- ---- texts

-- the grid of a puzzle and these programs
abbrev pub grid_of : Puzzle → Programs → Grid
grid_of puzzle programs = record { puzzle = puzzle; programs = programs.programs }

-- what follows over the programs of a save, or its refusal
abbrev pub over_programs : Result Programs save.SaveRefusal → (Programs → Answer) → Answer
over_programs (Err refusal) next = Refuses (Save (save_error refusal))
over_programs (Ok programs) next = next programs

-- what follows over the puzzle of a grid text, or its refusal
abbrev pub over_puzzle : Result Puzzle text.Refusal → (Puzzle → Answer) → Answer
over_puzzle (Err refusal) next = Refuses (Grid_text (grid_error refusal))
over_puzzle (Ok puzzle) next = next puzzle

-- what follows over the puzzle that a specification gives, or its refusal
abbrev pub over_given : Result Puzzle SpecRefusal → (Puzzle → Answer) → Answer
over_given (Err refusal) next = Refuses (spec_refusal refusal)
over_given (Ok puzzle) next = next puzzle

-- what follows over the events of a text, or its first line that names none
abbrev pub over_events : Result (List Event) ℕ → (List Event → Answer) → Answer
over_events (Err line) next = Refuses (Events line)
over_events (Ok events) next = next events

-- what follows over the commands of a script, or its first line that is none
abbrev pub over_script : Result (List Action) ℕ → (List Action → Answer) → Answer
over_script (Err line) next = Refuses (Script line)
over_script (Ok actions) next = next actions

-- what follows over the grid of a save and of what a specification gives; the save is read over the tiles of the specification, which is looked at first
abbrev pub over_grid : List ℕ → Result Puzzle SpecRefusal → (Grid → Answer) → Answer
over_grid saved given next = over_given given (λ puzzle. over_programs (save.save_of saved puzzle.tiles) (λ programs. next (grid_of puzzle programs)))

-- ---- the clock

-- the end of so many events or cycles in this state: at rest where this list, of what can happen or of the next cycle, is empty, and else at the limit
abbrev pub ended_by : ℕ → Puzzle → State → List Event → Answer
ended_by done puzzle state [] = Makes AllDone (ended_text (Rest done) puzzle state)
ended_by done puzzle state (event ∷ events) = Makes (Limited done) (ended_text (Limit done) puzzle state)

-- at rest, where a cycle has no event, and else what follows
abbrev pub or_at_rest : ℕ → Puzzle → State → List Event → Answer → Answer
or_at_rest done puzzle state [] next = Makes AllDone (ended_text (Rest done) puzzle state)
or_at_rest done puzzle state (event ∷ events) next = next

-- a grid from a state on, after so many cycles, up to so many more
abbrev pub clocked_from : Grid → ℕ → ℕ → State → Answer
clocked_from grid done zero state = ended_by done grid.puzzle state (cycle_events grid state)
clocked_from grid done (suc more) state = or_at_rest done grid.puzzle state (cycle_events grid state) (clocked_from grid (done + 1) more (after_cycle grid state))

-- a grid from its start, cycle by cycle, up to so many
abbrev pub clocked : ℕ → Grid → Answer
clocked cycles grid = clocked_from grid 0 cycles (start grid)

-- ---- an order that is drawn

-- the state after an order, which is legal
abbrev pub state_after : Grid → List Event → State
state_after grid events = unwrap_or (after grid (start grid) events) (start grid)

-- a grid from its start, in the order that is drawn with this seed, up to so many events
abbrev pub ordered : ℕ → ℕ → Grid → Answer
ordered seed limit grid =
    let events = drawn grid (start grid) seed limit in
    ended_by (length events) grid.puzzle (state_after grid events) (enabled_events grid (state_after grid events))

-- ---- an order that is handed in

-- the next event, where it can happen, or the end at the event with this index
abbrev pub replayed_at : Puzzle → State → ℕ → Option State → (State → Answer) → Answer
replayed_at puzzle state index None next = Makes (Stopped index) (not_enabled_text index puzzle state)
replayed_at puzzle state index (Some after) next = next after

-- a grid from a state on, by the events of an order, the first of which has this index
abbrev pub replayed_from : Grid → ℕ → List Event → State → Answer
replayed_from grid index [] state = Makes AllDone (replayed_text index grid.puzzle state)
replayed_from grid index (event ∷ events) state = replayed_at grid.puzzle state index (step grid state event) (λ next. replayed_from grid (index + 1) events next)

abbrev pub replayed : Result (List Event) ℕ → Grid → Answer
replayed order grid = over_events order (λ events. replayed_from grid 0 events (start grid))

-- ---- grades

-- what follows over these cases and those of a save and of what a specification gives with further seeds, each of which is made before the next
abbrev pub over_cases : List ℕ → (ℕ → Result Puzzle SpecRefusal) → List Case → List ℕ → (List Case → Answer) → Answer
over_cases saved given cases [] next = next cases
over_cases saved given cases (seed ∷ seeds) next = over_grid saved (given seed) (λ grid. over_cases saved given (cases ++ record { seed = seed; grid = grid } ∷ []) seeds next)

-- how a grade ends: all is done where each seed is passed, and else at the first that isn't
abbrev pub grade_completion : Option Failed → Completion
grade_completion None = AllDone
grade_completion (Some failed) = Fails failed.seed failed.verdict

-- the grades of cases, and the report that tells them
abbrev pub grades : ℕ → List Case → Answer
grades limit cases = Makes (grade_completion (graded limit cases).failed) (graded limit cases).report

-- ---- a session of the debugger

-- what a script prints over a grid from its start; the whole script is looked at before anything is done
abbrev pub debugged : Result (List Action) ℕ → Grid → Answer
debugged script grid = over_script script (λ actions. Makes AllDone (debug_text grid actions))

-- ---- the commands, over what their specification gives

unfoldable pub run_answer : List ℕ → Result Puzzle SpecRefusal → ℕ → Answer
run_answer saved given cycles = over_grid saved given (clocked cycles)

unfoldable pub order_answer : List ℕ → Result Puzzle SpecRefusal → ℕ → ℕ → Answer
order_answer saved given order_seed limit = over_grid saved given (ordered order_seed limit)

unfoldable pub replay_answer : List ℕ → Result Puzzle SpecRefusal → List ℕ → Answer
replay_answer saved given events = over_grid saved given (replayed (events_of events))

-- the puzzle is made and the save read for each seed before the first is graded
unfoldable pub grade_answer : List ℕ → (ℕ → Result Puzzle SpecRefusal) → ℕ → List ℕ → Answer
grade_answer saved given limit seeds = over_cases saved given [] seeds (grades limit)

unfoldable pub debug_answer : List ℕ → Result Puzzle SpecRefusal → List ℕ → Answer
debug_answer saved given script = over_grid saved given (debugged (script_of script))
