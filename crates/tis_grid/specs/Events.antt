-- What can happen on a grid: when each event is enabled, and what it does.
use Rattle.std.specs.Prelude.{ℕ, ◌+◌, ◌-◌, ◌*◌, ℤ, pos, Bool, false, ◌&&◌, [], ◌∷◌, ◌++◌, List, length, get_or, Option, Some, None, is_some, unwrap_or, option_map, slice_set, nat_lt, IsTrue, if◌then◌else◌}
use Rattle.tis_base.specs.Tiles.{is_compute, is_memory, neighbour_of, opposite}
use Rattle.tis_base.specs.declared.tiles.Dir.{Dir}
use Rattle.tis_base.specs.declared.tiles.Dir.TheVariants.{Up, Down}
use Rattle.tis_base.specs.declared.tiles.TileKind.{TileKind}
use Rattle.tis_base.specs.declared.tiles.TileKind.TheVariants.{Damaged}
use Rattle.tis_asm.specs.declared.program.MarkedInstr.{MarkedInstr}
use Rattle.tis_asm.specs.Programs.{program_at}
use Rattle.tis_asm.specs.Node.{Node, can_local, local_step, wants, take_value, offers, gave}
use Rattle.tis_devices.specs.Stack.{ROOM, newest, without_newest}
use Rattle.tis_grid.specs.declared.event.Event.{Event}
use Rattle.tis_grid.specs.declared.event.Event.TheVariants.{Local, Meet, In, Out, Push, Pop}
use Rattle.tis_grid.specs.Puzzle.{has_output}
use Rattle.tis_grid.specs.State.{Grid, State, node_at, stack_at, left_at, outs, next_value}

-- the program of a tile
abbrev pub program_of : Grid → ℕ → List MarkedInstr
program_of grid tile = program_at grid.programs tile

-- the tile that is next in a direction
abbrev pub next_tile : Grid → ℕ → Dir → Option ℕ
next_tile grid tile dir = neighbour_of grid.puzzle.tiles.shape tile dir

-- the tile at the bottom of a column
abbrev pub bottom_of : Grid → ℕ → ℕ
bottom_of grid position = position + grid.puzzle.tiles.shape.columns * (grid.puzzle.tiles.shape.rows - 1)

-- ---- when an event is enabled

-- whether a tile is there and is of a kind
abbrev pub is_compute_at : Grid → ℕ → Bool
is_compute_at grid tile = is_compute (get_or grid.puzzle.tiles.kinds tile Damaged)

abbrev pub is_memory_at : Grid → ℕ → Bool
is_memory_at grid tile = is_memory (get_or grid.puzzle.tiles.kinds tile Damaged)

-- whether a tile is there, computes, and has a program
abbrev pub works_on : List TileKind → List (List MarkedInstr) → ℕ → Bool
works_on kinds programs tile = is_compute (get_or kinds tile Damaged) && nat_lt 0 (length (program_at programs tile))

abbrev pub works : Grid → ℕ → Bool
works grid tile = works_on grid.puzzle.tiles.kinds grid.programs tile

-- whether a compute tile waits for a value from this port
abbrev pub is_waiting : Grid → State → ℕ → Dir → Bool
is_waiting grid state tile dir = is_compute_at grid tile && wants (program_of grid tile) (node_at state tile) dir

-- whether a compute tile gives a value to this port
abbrev pub is_giving : Grid → State → ℕ → Dir → Bool
is_giving grid state tile dir = is_compute_at grid tile && is_some (offers (node_at state tile) dir)

-- whether a stack takes one more value, or has one to give
abbrev pub has_room : Grid → State → ℕ → Bool
has_room grid state tile = is_memory_at grid tile && nat_lt (length (stack_at state tile)) ROOM

abbrev pub has_value : Grid → State → ℕ → Bool
has_value grid state tile = is_memory_at grid tile && nat_lt 0 (length (stack_at state tile))

-- whether a tile is next in a direction and passes a test
abbrev pub is_next : Grid → ℕ → Dir → (ℕ → Bool) → Bool
is_next grid tile dir test = unwrap_or (option_map test (next_tile grid tile dir)) false

-- whether an event can happen next
abbrev pub is_enabled : Grid → State → Event → Bool
-- a compute tile can do an instruction without a port
is_enabled grid state (Local tile) = is_compute_at grid tile.number && can_local (program_of grid tile.number) (node_at state tile.number)
-- a compute tile gives to its neighbour, which waits for it
is_enabled grid state (Meet tile dir) = is_giving grid state tile.number dir && is_next grid tile.number dir (λ reader. is_waiting grid state reader (opposite dir))
-- an input has a value left, and the tile below it, in the top row, waits for it
is_enabled grid state (In position) = nat_lt position grid.puzzle.tiles.shape.columns && (nat_lt 0 (left_at state position) && is_waiting grid state position Up)
-- the tile above an output, in the bottom row, gives to it
is_enabled grid state (Out position) = nat_lt position grid.puzzle.tiles.shape.columns && (has_output grid.puzzle.outputs position && is_giving grid state (bottom_of grid position) Down)
-- a compute tile gives to a stack that isn't full
is_enabled grid state (Push tile dir) = is_giving grid state tile.number dir && is_next grid tile.number dir (has_room grid state)
-- a compute tile waits for a value from a stack that isn't empty
is_enabled grid state (Pop tile dir) = is_waiting grid state tile.number dir && is_next grid tile.number dir (has_value grid state)

abbrev pub IsEnabled : Grid → State → Event → Type 0
IsEnabled grid state event = IsTrue (is_enabled grid state event)

-- ---- what an event does, where it is enabled

-- the value that a tile gives to a port
abbrev pub offered : State → ℕ → Dir → ℤ
offered state tile dir = unwrap_or (offers (node_at state tile) dir) (pos 0)

-- the tile that stands there
abbrev pub reached : Grid → ℕ → Dir → ℕ
reached grid tile dir = unwrap_or (next_tile grid tile dir) tile

abbrev pub with_node : State → ℕ → Node → State
with_node state tile node = record state { nodes = slice_set state.nodes tile node }

-- a tile took a value from a port
abbrev pub took : Grid → State → ℕ → Dir → ℤ → State
took grid state tile dir value = with_node state tile (take_value (program_of grid tile) (node_at state tile) dir value)

-- a tile gave its value to a port
abbrev pub given : Grid → State → ℕ → Dir → State
given grid state tile dir = with_node state tile (gave (program_of grid tile) (node_at state tile) dir)

abbrev pub with_stack : State → ℕ → List ℤ → State
with_stack state tile values = record state { stacks = slice_set state.stacks tile values }

-- the state after an event
abbrev pub after_event : Grid → State → Event → State
after_event grid state (Local tile) = with_node state tile.number (local_step (program_of grid tile.number) (node_at state tile.number))
after_event grid state (Meet tile dir) = given grid (took grid state (reached grid tile.number dir) (opposite dir) (offered state tile.number dir)) tile.number dir
after_event grid state (In position) = record (took grid state position Up (next_value grid state position)) { left = slice_set state.left position (Some (left_at state position - 1)) }
after_event grid state (Out position) = record (given grid state (bottom_of grid position) Down) { outs = slice_set state.outs position (Some (outs state position ++ offered state (bottom_of grid position) Down ∷ [])) }
after_event grid state (Push tile dir) = with_stack (given grid state tile.number dir) (reached grid tile.number dir) (stack_at state (reached grid tile.number dir) ++ offered state tile.number dir ∷ [])
after_event grid state (Pop tile dir) = with_stack (took grid state tile.number dir (newest (stack_at state (reached grid tile.number dir)))) (reached grid tile.number dir) (without_newest (stack_at state (reached grid tile.number dir)))

-- the state after an event, where it is enabled
abbrev pub step : Grid → State → Event → Option State
step grid state event = if is_enabled grid state event then Some (after_event grid state event) else None
