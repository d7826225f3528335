-- What a run over texts answers, beside what the texts come to.
use Rattle.std.specs.Prelude.{◌≡◌, List, Option, Some, None, Result, Ok, Err}
use Rattle.tis_grid.specs.Puzzle.{Puzzle, puzzle_of}
use Rattle.tis_grid.specs.declared.puzzle.Puzzle as held
use Rattle.tis_grid.specs.State.{Grid}
use Rattle.tis_grid.specs.declared.running.Ended.{Ended}
use Rattle.tis_grid.specs.declared.running.Ended.TheVariants as ended
use Rattle.tis_grade.specs.declared.cases.Case.{Case}
use Rattle.tis_grade.specs.declared.cases.Failed.{Failed}
use Rattle.tis_cli.specs.declared.status.Status.{Status}
use Rattle.tis_cli.specs.declared.status.Status.TheVariants.{Done, NotPassed, Words, Refused, Missing, StoreFault, SinkFault, NoMemory, Limit}
use Rattle.tis_cli.specs.declared.runs.Run.{Run}
use Rattle.tis_cli.specs.Answers.{Completion, Answer, Refuses, Makes, completion_status}

-- the status of a run that ended so
abbrev pub ended_status : Ended → Status
ended_status (ended.Rest done) = Done
ended_status (ended.Limit done) = Limit done

-- a status that the texts come to before a report is made
abbrev pub Stops : Status → Answer → Type 0
Stops (Refused refusal) answer = answer ≡ Refuses refusal
Stops NoMemory answer = Unit {0}
Stops Missing answer = ⊥
Stops StoreFault answer = ⊥
Stops Done answer = ⊥
Stops (NotPassed seed verdict) answer = ⊥
Stops Words answer = ⊥
Stops SinkFault answer = ⊥
Stops (Limit done) answer = ⊥

-- what an end over two or three texts that were fetched is: the answer that they come to
abbrev pub Ends : Result Run Status → Answer → Type 0
Ends (Ok run) answer = (completion : Completion) × (answer ≡ Makes completion run.report.items) × (run.status ≡ completion_status completion)
Ends (Err status) answer = Stops status answer

-- a grid that was read, over which the rest is looked at, or why there is none
abbrev pub Opens : Result Grid Status → Answer → (Grid → Answer) → Type 0
Opens (Ok grid) answer next = answer ≡ next grid
Opens (Err status) answer next = Stops status answer

-- the puzzle of a specification, over which the rest is looked at, or why there is none
abbrev pub OpensPuzzle : Result held.Puzzle Status → Answer → (Puzzle → Answer) → Type 0
OpensPuzzle (Ok puzzle) answer next = answer ≡ next (puzzle_of puzzle)
OpensPuzzle (Err status) answer next = Stops status answer

-- the status of a solution that is passed for each seed, or fails at one
abbrev pub grade_status : Option Failed → Status
grade_status None = Done
grade_status (Some failed) = NotPassed failed.seed failed.verdict

-- cases that were read, over which the rest is looked at, or why there are none
abbrev pub OpensCases : {X : Type 0} → (X → List Case) → Result X Status → Answer → (List Case → Answer) → Type 0
OpensCases cases (Ok read) answer next = answer ≡ next (cases read)
OpensCases cases (Err status) answer next = Stops status answer

-- what follows comes to the same as before, or there is a status that stands before it
abbrev pub Continues : {X : Type 0} → Result X Status → Answer → Answer → Type 0
Continues (Ok done) whole rest = whole ≡ rest
Continues (Err status) whole rest = Stops status whole
