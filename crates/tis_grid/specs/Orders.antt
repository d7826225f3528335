-- Orders of events, and states that come to rest.
use Rattle.std.specs.Prelude.{◌≡◌, ℕ, ◌≤◌, List, [], ◌∷◌, length, All, Option, Some, is_some, option_and_then, IsSome}
use Rattle.tis_base.specs.Saturation.{IsValue}
use Rattle.tis_asm.specs.Node.{FitsProgram}
use Rattle.tis_grid.specs.declared.event.Event.{Event}
use Rattle.tis_grid.specs.Puzzle.{values_at, has_input, has_output}
use Rattle.tis_grid.specs.State.{Grid, State, node_at, input_left, left_at, output_taken, stack_at}
use Rattle.tis_devices.specs.Stack.{ROOM}
use Rattle.tis_grid.specs.Events.{IsEnabled, step, program_of}

-- the state that an order of events leads to; none, where an event of it can't happen when its turn comes
abbrev pub after : Grid → State → List Event → Option State
after grid state [] = Some state
after grid state (event ∷ events) = option_and_then (λ next. after grid next events) (step grid state event)

-- the order leads to a state
abbrev pub IsLegal : Grid → State → List Event → Type 0
IsLegal grid state events = IsSome (after grid state events)

-- no event can happen
abbrev pub IsAtRest : Grid → State → Type 0
IsAtRest grid state = (event : Event) → IsEnabled grid state event → ⊥

-- a state of this grid: it has a node of its program and a stack for each tile, a count where an input stands and a list where an output does; what is left of an input is no more than came with it; a stack has at most fifteen values, and they are values of the machine. What stands for a tile of another kind is never looked at
pub record Fits (grid : Grid) (state : State) : Type 0 where
  pub nodes : length state.nodes ≡ length grid.puzzle.tiles.kinds
  pub stacks : length state.stacks ≡ length grid.puzzle.tiles.kinds
  pub left : length state.left ≡ grid.puzzle.tiles.shape.columns
  pub outs : length state.outs ≡ grid.puzzle.tiles.shape.columns
  pub inputs : (position : ℕ) → is_some (input_left state position) ≡ has_input grid.puzzle.inputs position
  pub outputs : (position : ℕ) → is_some (output_taken state position) ≡ has_output grid.puzzle.outputs position
  pub each : (tile : ℕ) → FitsProgram (program_of grid tile) (node_at state tile)
  pub within : (position : ℕ) → left_at state position ≤ length (values_at grid.puzzle.inputs position)
  pub room : (tile : ℕ) → length (stack_at state tile) ≤ ROOM
  pub values : (tile : ℕ) → All IsValue (stack_at state tile)
