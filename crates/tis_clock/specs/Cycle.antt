-- The clock: which events happen in one cycle. It is one order among all that can be, and this project's own choice.
use Rattle.std.specs.Prelude.{ℕ, zero, suc, Bool, false, true, ◌&&◌, not, List, [], ◌∷◌, ◌++◌, length, filter, map, flat_map, Option, Some, None, ◌==◌, if◌then◌else◌}
use Rattle.std.specs.List.{find, range_with_len}
use Rattle.tis_base.specs.Tiles.{opposite}
use Rattle.tis_base.specs.declared.tiles.Dir.{Dir}
use Rattle.tis_base.specs.declared.tiles.Dir.TheVariants.{Left, Right, Up, Down}
use Rattle.tis_asm.specs.Node.{Mode, Ready, Writing}
use Rattle.tis_grid.specs.declared.event.Event.{Event}
use Rattle.tis_grid.specs.declared.event.Event.TheVariants.{Local, Meet, In, Out, Push, Pop}
use Rattle.tis_grid.specs.State.{Grid, State, node_at}
use Rattle.tis_grid.specs.Events.{next_tile, bottom_of, is_enabled, after_event}

-- whether a node writes, or is ready
abbrev pub is_writing : Mode → Bool
is_writing Ready = false
is_writing (Writing value toward) = true

abbrev pub is_ready : Mode → Bool
is_ready mode = not (is_writing mode)

-- which tiles are writing in a state
abbrev pub writers : State → ℕ → Bool
writers state tile = is_writing (node_at state tile).mode

-- the four directions, in the order in which they are tried
abbrev pub directions : List Dir
directions = Left ∷ Right ∷ Up ∷ Down ∷ []

-- ---- a tile that is ready

-- a value from the neighbour in a direction
abbrev pub from_neighbour : Option ℕ → Dir → List Event
from_neighbour None dir = []
from_neighbour (Some neighbour) dir = Meet (record { number = neighbour }) (opposite dir) ∷ []

-- a value from above the top row
abbrev pub from_above : ℕ → Dir → List Event
from_above tile Up = In tile ∷ []
from_above tile Left = []
from_above tile Right = []
from_above tile Down = []

-- the ways in which a value can come from a direction: of the three at most one can happen
abbrev pub ways_to_take : Grid → ℕ → Dir → List Event
ways_to_take grid tile dir = from_neighbour (next_tile grid tile dir) dir ++ Pop (record { number = tile }) dir ∷ from_above tile dir

-- what a tile that is ready can do, in the order in which it is tried
abbrev pub ways_of_ready : Grid → ℕ → List Event
ways_of_ready grid tile = Local (record { number = tile }) ∷ flat_map (ways_to_take grid tile) directions

-- of a meeting, whether the giver was writing when the cycle began; other events are let through
abbrev pub gives_old : (ℕ → Bool) → Event → Bool
gives_old was_writing (Meet giver dir) = was_writing giver.number
gives_old was_writing (Local tile) = true
gives_old was_writing (In position) = true
gives_old was_writing (Out position) = true
gives_old was_writing (Push tile dir) = true
gives_old was_writing (Pop tile dir) = true

-- the first of these that can happen now: a value that was first written in this cycle isn't taken in it
abbrev pub first_way : Grid → (ℕ → Bool) → State → List Event → Option Event
first_way grid was_writing now ways = find (λ event. gives_old was_writing event && is_enabled grid now event) ways

-- what a tile does that was ready when the cycle began
abbrev pub reads_or_steps : Grid → (ℕ → Bool) → State → ℕ → Option Event
reads_or_steps grid was_writing now tile = if not (was_writing tile) then first_way grid was_writing now (ways_of_ready grid tile) else None

-- ---- a tile that writes

-- to below the bottom row: an output whose column ends in this tile
abbrev pub to_below : Grid → ℕ → Dir → List Event
to_below grid tile Down = map (λ position. Out position) (filter (λ position. bottom_of grid position == tile) (range_with_len 0 grid.puzzle.tiles.shape.columns))
to_below grid tile Left = []
to_below grid tile Right = []
to_below grid tile Up = []

-- the ways in which a tile that writes can give in a direction without a reader: to a stack, or to an output
abbrev pub ways_to_give : Grid → ℕ → Dir → List Event
ways_to_give grid tile dir = Push (record { number = tile }) dir ∷ to_below grid tile dir

-- what a tile gives that was writing when the cycle began: the first of these that can happen now, and nothing where its value was taken in this cycle
abbrev pub gives_out : Grid → (ℕ → Bool) → State → ℕ → Option Event
gives_out grid was_writing now tile = if was_writing tile then find (is_enabled grid now) (flat_map (ways_to_give grid tile) directions) else None

-- ---- a cycle

-- the state after events, whether or not they can happen; for those of a cycle this is the state that the order leads to
abbrev pub state_after : Grid → State → List Event → State
state_after grid state [] = state
state_after grid state (event ∷ events) = state_after grid (after_event grid state event) events

-- an event, or none, and then what follows from the state after it
abbrev pub and_then : Grid → State → Option Event → (State → List Event) → List Event
and_then grid now None rest = rest now
and_then grid now (Some event) rest = event ∷ rest (after_event grid now event)

-- the events of these tiles, one after the other: each tile does what it chooses in the state that it finds, or nothing
abbrev pub in_turn : Grid → (State → ℕ → Option Event) → State → List ℕ → List Event
in_turn grid choose now [] = []
in_turn grid choose now (tile ∷ tiles) = and_then grid now (choose now tile) (λ next. in_turn grid choose next tiles)

abbrev pub all_tiles : Grid → List ℕ
all_tiles grid = range_with_len 0 (length grid.puzzle.tiles.kinds)

-- what the tiles do in reading order that were ready when the cycle began
abbrev pub first_half : Grid → State → List Event
first_half grid state = in_turn grid (reads_or_steps grid (writers state)) state (all_tiles grid)

-- and then those that were writing when it began and whose values weren't taken
abbrev pub second_half : Grid → State → State → List Event
second_half grid before now = in_turn grid (gives_out grid (writers before)) now (all_tiles grid)

-- the events of one cycle from a state
abbrev pub cycle_events : Grid → State → List Event
cycle_events grid state = first_half grid state ++ second_half grid state (state_after grid state (first_half grid state))

-- the state after one cycle
abbrev pub after_cycle : Grid → State → State
after_cycle grid state = state_after grid state (cycle_events grid state)

-- the events of so many cycles from a state, one after the other; at rest a cycle has none
abbrev pub cycles_events : Grid → State → ℕ → List Event
cycles_events grid state zero = []
cycles_events grid state (suc more) = cycle_events grid state ++ cycles_events grid (after_cycle grid state) more

-- the state after so many cycles
abbrev pub after_cycles : Grid → State → ℕ → State
after_cycles grid state zero = state
after_cycles grid state (suc more) = after_cycles grid (after_cycle grid state) more
