-- An order of events, seen from one tile.
use Rattle.std.specs.Prelude.{ℕ, ◌-◌, ℤ, List, [], ◌∷◌, ◌++◌, length, drop, ◌==◌, if◌then◌else◌}
use Rattle.tis_base.specs.Tiles.{opposite}
use Rattle.tis_base.specs.declared.tiles.Dir.TheVariants.{Up, Down}
use Rattle.tis_asm.specs.PortRuns.{Step, Took, Gave}
use Rattle.tis_asm.specs.PortRuns as port
use Rattle.tis_grid.specs.declared.event.Event.{Event}
use Rattle.tis_grid.specs.declared.event.Event.TheVariants.{Local, Meet, In, Out, Push, Pop}
use Rattle.tis_grid.specs.Puzzle.{values_at}
use Rattle.tis_grid.specs.State.{Grid, State, stack_at, left_at, next_value}
use Rattle.tis_devices.specs.Stack.{newest}
use Rattle.tis_grid.specs.Events.{bottom_of, reached, offered, after_event}

-- the step, where it is one of this tile
abbrev pub step_at : ℕ → ℕ → Step → List Step
step_at tile other step = if other == tile then step ∷ [] else []

-- what an event is for the node of one tile
abbrev pub steps_in : Grid → State → Event → ℕ → List Step
steps_in grid state (Local at) tile = step_at tile at.number port.Local
steps_in grid state (Meet at dir) tile = step_at tile at.number (Gave dir (offered state at.number dir)) ++ step_at tile (reached grid at.number dir) (Took (opposite dir) (offered state at.number dir))
steps_in grid state (In position) tile = step_at tile position (Took Up (next_value grid state position))
steps_in grid state (Out position) tile = step_at tile (bottom_of grid position) (Gave Down (offered state (bottom_of grid position) Down))
steps_in grid state (Push at dir) tile = step_at tile at.number (Gave dir (offered state at.number dir))
steps_in grid state (Pop at dir) tile = step_at tile at.number (Took dir (newest (stack_at state (reached grid at.number dir))))

-- what an order is for the node of one tile
abbrev pub steps_of : Grid → State → List Event → ℕ → List Step
steps_of grid state [] tile = []
steps_of grid state (event ∷ events) tile = steps_in grid state event tile ++ steps_of grid (after_event grid state event) events tile

-- the values of an input that are left
abbrev pub values_left : Grid → State → ℕ → List ℤ
values_left grid state position = drop (length (values_at grid.puzzle.inputs position) - left_at state position) (values_at grid.puzzle.inputs position)
