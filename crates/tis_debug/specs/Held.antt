-- A session as the program holds it.
use Rattle.std.specs.Prelude.{◌≡◌, ℕ, ◌-◌, ◌<◌, ◌≤◌, Bool, ◌||◌, List, length, map, ◌==◌, Option, Some, None, Result, Ok, Err}
use Rattle.std.specs.List.{range_with_len}
use Rattle.std.specs.declared.vec.Vec.{Vec}
use Rattle.circular_buffer.specs.Buffer.{Buffer}
use Rattle.tis_grid.specs.declared.event.Event.{Event}
use Rattle.tis_grid.specs.declared.event.Event.TheVariants.{Local, Meet, In, Out, Push, Pop}
use Rattle.tis_grid.specs.State.{Grid, IsGrid, State}
use Rattle.tis_grid.specs.Events.{bottom_of, reached}
use Rattle.tis_grid.specs.Points.{Point, point_of, returned}
use Rattle.tis_grid.specs.HeldState.{HeldState}
use Rattle.tis_clock.specs.Cycle.{cycle_events}
use Rattle.tis_debug.specs.declared.error.ScriptError.{ScriptError}
use Rattle.tis_debug.specs.declared.error.ScriptError.TheVariants as script
use Rattle.tis_debug.specs.declared.script.Action.{Action}
use Rattle.tis_debug.specs.Sessions.{Session, MOST_KEPT, LAST_CYCLE, state_at, moved}

-- the points of so many states of a grid, from that of a cycle on
abbrev pub points_from : Grid → ℕ → ℕ → List Point
points_from grid cycle count = map (λ c. point_of (state_at grid c)) (range_with_len cycle count)

-- the state is that of the cycle, and the points are those of the states before the last cycles
pub record IsSession (grid : Grid) (held : HeldState) (cycle : ℕ) (kept_points : Buffer Point) : Type 0 where
  pub is_grid : IsGrid grid
  pub state : held.state ≡ state_at grid cycle
  pub within : cycle ≤ LAST_CYCLE
  pub capacity : kept_points.capacity ≡ MOST_KEPT
  pub few : length kept_points.items ≤ MOST_KEPT
  pub reach : length kept_points.items ≤ cycle
  pub points : kept_points.items ≡ points_from grid (cycle - length kept_points.items) (length kept_points.items)

-- the numbers of a session keep within their bounds
pub record IsBounded (session : Session) : Type 0 where
  pub few : session.kept ≤ MOST_KEPT
  pub reach : session.kept ≤ session.cycle
  pub within : session.cycle ≤ LAST_CYCLE

-- some cycles of a call were done, and no more than it would have done
abbrev pub IsCutShort : Session → ℕ → Session → Type 0
IsCutShort session whole end = (done : ℕ) × (done ≤ whole) × (end ≡ moved session done)

-- a state that is brought back to a point, where there is one
abbrev pub returned_where : Option Point → State → State
returned_where None state = state
returned_where (Some point) state = returned state point

-- whether the node of a tile takes part in an event
abbrev pub takes_part : Grid → Event → ℕ → Bool
takes_part grid (Local at) tile = at.number == tile
takes_part grid (Meet at dir) tile = at.number == tile || reached grid at.number dir == tile
takes_part grid (In position) tile = position == tile
takes_part grid (Out position) tile = bottom_of grid position == tile
takes_part grid (Push at dir) tile = at.number == tile
takes_part grid (Pop at dir) tile = at.number == tile

-- the events are those of the cycle that led to where the session stands
abbrev pub IsLastCycle : Session → List Event → Type 0
IsLastCycle session events = events ≡ cycle_events session.grid (state_at session.grid (session.cycle - 1))

-- the number of a line is that of the first wrong one; want of memory says nothing
abbrev pub RefusesScript : ScriptError → Result (List Action) ℕ → Type 0
RefusesScript (script.Bad line) actions = actions ≡ Err line
RefusesScript script.NoMemory actions = Unit {0}

-- the commands of the text, or why it has none
abbrev pub AnswersScript : {A : Type 0} → Result (Vec Action A) ScriptError → Result (List Action) ℕ → Type 0
AnswersScript (Ok read) actions = actions ≡ Ok read.items
AnswersScript (Err error) actions = RefusesScript error actions

-- the tile that an event names stands on the grid
abbrev pub StandsOnGrid : Grid → Event → Type 0
StandsOnGrid grid (Local at) = Unit {0}
StandsOnGrid grid (Meet at dir) = at.number < length grid.puzzle.tiles.kinds
StandsOnGrid grid (In position) = Unit {0}
StandsOnGrid grid (Out position) = Unit {0}
StandsOnGrid grid (Push at dir) = Unit {0}
StandsOnGrid grid (Pop at dir) = Unit {0}
