-- A debugger's session: which cycle of a grid it stands at, how far it can go back, and what each of its calls comes to.
use Rattle.std.specs.Prelude.{ℕ, zero, suc, ◌+◌, ◌-◌, min, Bool, false, true, ◌&&◌, ◌||◌, not, List, [], ◌∷◌, length, map, slice_set, get_or, slice_get, Option, Some, None, is_some, option_map, unwrap_or, Result, Ok, Err, nat_lt, nat_le, ◌==◌, if◌then◌else◌}
use Rattle.std.specs.List.{find, range_with_len}
use Rattle.tis_asm.specs.declared.program.MarkedInstr.{MarkedInstr}
use Rattle.tis_grid.specs.State.{Grid, State, node_at, start}
use Rattle.tis_grid.specs.Events.{program_of, is_compute_at}
use Rattle.tis_grid.specs.TileSteps.{steps_of}
use Rattle.tis_clock.specs.Cycle.{is_ready, cycle_events, after_cycles, all_tiles}
use Rattle.tis_debug.specs.declared.session.Stop.{Stop}
use Rattle.tis_debug.specs.declared.session.Stop.TheVariants.{Break, Rest, Limit}
use Rattle.tis_debug.specs.declared.error.DebugError.{DebugError}
use Rattle.tis_debug.specs.declared.error.DebugError.TheVariants.{NoHistory, NoSuchNode, NoSuchLine}

-- the grid, how many cycles were done from its start, how many of these can be taken back, and of each tile which instructions are marked
pub record Session : Type 0 where
  pub grid : Grid
  pub cycle : ℕ
  pub kept : ℕ
  pub marks : List (List Bool)

-- how many cycles can be taken back at most
abbrev pub MOST_KEPT : ℕ
MOST_KEPT = 64

-- the cycle that no session goes past
unfoldable pub LAST_CYCLE : ℕ
LAST_CYCLE = 1000000000

-- how many cycles one `go` does at most
unfoldable pub GO_CYCLES : ℕ
GO_CYCLES = 100000

-- how many instructions of a tile can be marked
abbrev pub MOST_LINES : ℕ
MOST_LINES = 15

-- the state of a grid so many cycles after its start
abbrev pub state_at : Grid → ℕ → State
state_at grid cycle = after_cycles grid (start grid) cycle

-- ---- marks

-- whether a program marks the instruction with this number; where it has none, nothing is marked
abbrev pub is_marked_in : List MarkedInstr → ℕ → Bool
is_marked_in program instruction = unwrap_or (option_map (λ marked. marked.mark) (slice_get program instruction)) false

-- which instructions a program marks
unfoldable pub marks_in : List MarkedInstr → List Bool
marks_in program = map (is_marked_in program) (range_with_len 0 MOST_LINES)

-- which instructions of each tile the programs mark
abbrev pub first_marks : Grid → List (List Bool)
first_marks grid = map marks_in grid.programs

-- whether an instruction of a tile is marked
abbrev pub is_marked : List (List Bool) → ℕ → ℕ → Bool
is_marked marks tile instruction = get_or (get_or marks tile []) instruction false

-- the marks with one more
abbrev pub with_mark : List (List Bool) → ℕ → ℕ → List (List Bool)
with_mark marks tile instruction = slice_set marks tile (slice_set (get_or marks tile []) instruction true)

-- ---- sessions

-- at the start of a grid, with the marks of its programs and nothing to go back to
abbrev pub first_session : Grid → Session
first_session grid = record { grid = grid; cycle = 0; kept = 0; marks = first_marks grid }

-- so many cycles later; of the cycles the last 64 can be taken back
abbrev pub moved : Session → ℕ → Session
moved session done = record session { cycle = session.cycle + done; kept = min MOST_KEPT (session.kept + done) }

-- so many cycles earlier; the later ones are forgotten
abbrev pub moved_back : Session → ℕ → Session
moved_back session count = record session { cycle = session.cycle - count; kept = session.kept - count }

-- the least number that passes a test, where one below this bound does, and else the bound
abbrev pub first_where : (ℕ → Bool) → ℕ → ℕ
first_where test zero = 0
first_where test (suc bound) = if test 0 then 0 else suc (first_where (λ n. test (suc n)) bound)

abbrev pub is_nil : {X : Type 0} → List X → Bool
is_nil [] = true
is_nil (x ∷ xs) = false

-- whether nothing can happen, so that a cycle has no event
abbrev pub is_resting : Grid → State → Bool
is_resting grid state = is_nil (cycle_events grid state)

-- ---- step

-- whether no cycle follows where a session stands: the grid is at rest, or it is the last cycle
abbrev pub stands_still : Session → Bool
stands_still session = is_resting session.grid (state_at session.grid session.cycle) || session.cycle == LAST_CYCLE

-- how many cycles a step of so many does: all of them, or those up to the first after which none follows
abbrev pub step_count : Session → ℕ → ℕ
step_count session count = first_where (λ done. stands_still (moved session done)) count

-- ---- go

-- whether the node of a tile made a step in the last cycle: it did an instruction, took a value or gave one
abbrev pub has_acted : Session → ℕ → Bool
has_acted session tile =
    let before = state_at session.grid (session.cycle - 1) in
    not (is_nil (steps_of session.grid before (cycle_events session.grid before) tile))

-- whether the node of a tile is ready at a marked instruction
abbrev pub is_at_mark : Session → ℕ → Bool
is_at_mark session tile =
    let node = node_at (state_at session.grid session.cycle) tile in
    is_ready node.mode && is_marked session.marks tile node.pc

-- the least tile whose node made a step in the last cycle, and is ready at a marked instruction now
abbrev pub break_here : Session → Option ℕ
break_here session = find (λ tile. is_at_mark session tile && has_acted session tile) (all_tiles session.grid)

-- the tile that a call of `go` stops at after so many cycles of its own; before any it stops at none
abbrev pub break_after : Session → ℕ → Option ℕ
break_after session zero = None
break_after session (suc done) = break_here (moved session (suc done))

-- where no node stops a call that has done so many cycles: at rest, or else where these are all that one call does, or it is the last cycle
abbrev pub end_here : Session → ℕ → Option Stop
end_here session done =
    if is_resting session.grid (state_at session.grid session.cycle) then Some Rest
    else (if done == GO_CYCLES || session.cycle == LAST_CYCLE then Some Limit else None)

abbrev pub break_or : Option ℕ → Option Stop → Option Stop
break_or None ends = ends
break_or (Some tile) ends = Some (Break (record { number = tile }))

-- what a call of `go` answers after so many cycles, where it stops there
abbrev pub stop_after : Session → ℕ → Option Stop
stop_after session done = break_or (break_after session done) (end_here (moved session done) done)

-- how many cycles a call of `go` does: the fewest after which it stops
abbrev pub go_count : Session → ℕ
go_count session = first_where (λ done. is_some (stop_after session done)) GO_CYCLES

-- and what it answers
abbrev pub go_stop : Session → Stop
go_stop session = unwrap_or (stop_after session (go_count session)) Limit

-- ---- back

-- so many cycles are taken back, or the number of those that can be, where that is too many
abbrev pub back_answer : Session → ℕ → Result (Unit {0}) DebugError
back_answer session count = if nat_le count session.kept then Ok tt else Err (NoHistory session.kept)

abbrev pub after_back : Session → ℕ → Session
after_back session count = if nat_le count session.kept then moved_back session count else session

-- ---- marks that are set

-- whether a tile has a node with a program
abbrev pub has_program : Grid → ℕ → Bool
has_program grid tile = is_compute_at grid tile && nat_lt 0 (length (program_of grid tile))

-- an instruction of a tile is marked, counted from 0; the tile has no node with a program, or its program no such instruction
abbrev pub mark_answer : Session → ℕ → ℕ → Result (Unit {0}) DebugError
mark_answer session tile instruction =
    if has_program session.grid tile then (if nat_lt instruction (length (program_of session.grid tile)) then Ok tt else Err (NoSuchLine instruction))
    else Err (NoSuchNode tile)

abbrev pub after_mark : Session → ℕ → ℕ → Session
after_mark session tile instruction =
    if has_program session.grid tile && nat_lt instruction (length (program_of session.grid tile)) then record session { marks = with_mark session.marks tile instruction } else session
