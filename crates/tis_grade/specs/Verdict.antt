-- What a grade says: the first number of cycles at which the outputs decide it, and how.
use Rattle.std.specs.Prelude.{ℕ, zero, suc, ◌+◌, ℤ, pos, Bool, true, false, ◌&&◌, List, [], ◌∷◌, length, map, Option, Some, None, option_and_then, ◌==◌, nat_lt, if◌then◌else◌}
use Rattle.std.specs.List.{find, list_all, range_with_len}
use Rattle.std.specs.Option.{option_or}
use Rattle.std.specs.Ordering.{int_eq}
use Rattle.tis_devices.specs.Picture.{picture}
use Rattle.tis_grid.specs.declared.puzzle.OutKind.{OutKind}
use Rattle.tis_grid.specs.declared.puzzle.OutKind.TheVariants.{Stream, Image}
use Rattle.tis_grid.specs.Puzzle.{Output}
use Rattle.tis_grid.specs.declared.event.Event.{Event}
use Rattle.tis_grid.specs.State.{Grid, State, outs, start}
use Rattle.tis_grid.specs.Choices.{enabled_events}
use Rattle.tis_clock.specs.Cycle.{after_cycle}
use Rattle.tis_grade.specs.declared.verdict.Verdict.{Verdict}
use Rattle.tis_grade.specs.declared.verdict.Verdict.TheVariants.{Passed, Wrong, Extra, Stuck, Late}

-- ---- one output

-- the first value that came and is another than the one wanted in its place, from an index on
abbrev pub first_wrong : ℕ → ℕ → List ℤ → List ℤ → Option Verdict
first_wrong position index [] taken = None
first_wrong position index (want ∷ wanted) [] = None
first_wrong position index (want ∷ wanted) (got ∷ taken) =
    if int_eq want got then first_wrong position (index + 1) wanted taken else Some (Wrong position index want got)

-- more values came than are wanted
abbrev pub extra : ℕ → List ℤ → List ℤ → Option Verdict
extra position wanted taken = if nat_lt (length wanted) (length taken) then Some (Extra position) else None

-- what is wrong with an output already, whatever comes; a picture may still become another one
abbrev pub fault_by : OutKind → ℕ → List ℤ → List ℤ → Option Verdict
fault_by Stream position wanted taken = option_or (first_wrong position 0 wanted taken) (extra position wanted taken)
fault_by Image position wanted taken = None

-- whether the same values stand in two lists
abbrev pub are_same : List ℤ → List ℤ → Bool
are_same [] [] = true
are_same [] (value ∷ values) = false
are_same (value ∷ values) [] = false
are_same (one ∷ ones) (other ∷ others) = int_eq one other && are_same ones others

-- whether an output is as wanted: a stream has the wanted values, a picture the wanted colours, row by row
abbrev pub is_done_by : OutKind → List ℤ → List ℤ → Bool
is_done_by Stream wanted taken = are_same wanted taken
is_done_by Image wanted taken = are_same wanted (map pos (picture taken).colours)

abbrev pub is_done : State → Output → Bool
is_done state output = is_done_by output.kind output.expected (outs state output.position)

-- ---- all outputs

-- the output at a position, where one stands
abbrev pub output_at : List Output → ℕ → Option Output
output_at outputs position = find (λ output. output.position == position) outputs

-- what is wrong with the output at a position, where one stands that took these values
abbrev pub fault_with : List Output → ℕ → List ℤ → Option Verdict
fault_with outputs position taken = option_and_then (λ output. fault_by output.kind position output.expected taken) (output_at outputs position)

abbrev pub fault_at : List Output → State → ℕ → Option Verdict
fault_at outputs state position = fault_with outputs position (outs state position)

-- what is wrong at the first of these positions at which something is
abbrev pub first_fault_at : List Output → State → List ℕ → Option Verdict
first_fault_at outputs state [] = None
first_fault_at outputs state (position ∷ positions) = option_or (fault_at outputs state position) (first_fault_at outputs state positions)

-- the positions below the columns, ascending
abbrev pub all_positions : Grid → List ℕ
all_positions grid = range_with_len 0 grid.puzzle.tiles.shape.columns

abbrev pub first_fault : Grid → State → Option Verdict
first_fault grid state = first_fault_at grid.puzzle.outputs state (all_positions grid)

-- whether each output is as wanted
abbrev pub are_done : Grid → State → Bool
are_done grid state = list_all (is_done state) grid.puzzle.outputs

-- ---- verdicts

-- nothing can happen
abbrev pub is_none : List Event → Bool
is_none [] = true
is_none (event ∷ events) = false

-- a verdict where a test holds
abbrev pub where_holds : Bool → Verdict → Option Verdict
where_holds test verdict = if test then Some verdict else None

-- what the state after so many cycles decides: first what is wrong, then that all is as wanted, then that nothing more can happen
abbrev pub decided : Grid → State → ℕ → Option Verdict
decided grid state cycles =
    option_or (first_fault grid state)
    (option_or (where_holds (are_done grid state) (Passed cycles))
    (where_holds (is_none (enabled_events grid state)) (Stuck cycles)))

-- the verdict of a state, or else what follows
abbrev pub or_later : Option Verdict → Verdict → Verdict
or_later None later = later
or_later (Some verdict) later = verdict

-- the first verdict from the state after so many cycles on, with so many cycles more allowed; where none of these states decides, it is too late
abbrev pub verdict_from : Grid → ℕ → State → ℕ → ℕ → Verdict
verdict_from grid limit state cycles zero = or_later (decided grid state cycles) (Late limit)
verdict_from grid limit state cycles (suc more) = or_later (decided grid state cycles) (verdict_from grid limit (after_cycle grid state) (cycles + 1) more)

-- the verdict of a grid: the states after 0, 1, 2 cycles and so on are looked at, up to the limit, and the first that decides gives it
abbrev pub verdict_of : Grid → ℕ → Verdict
verdict_of grid limit = verdict_from grid limit (start grid) 0 limit
