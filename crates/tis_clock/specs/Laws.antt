-- Laws of cycles, on every grid.
use Rattle.std.specs.Prelude.{◌≡◌, ◌↔◌, ℕ, ◌≤◌, [], length, Some}
use Rattle.tis_grid.specs.State.{Grid, IsGrid, State}
use Rattle.tis_grid.specs.Orders.{after, Fits, IsAtRest}
use Rattle.tis_grid.specs.TileSteps.{steps_of}
use Rattle.tis_clock.specs.Cycle.{cycle_events, after_cycle, cycles_events, after_cycles}

-- the events of a cycle are a legal order, which leads to the state after the cycle
abbrev pub CyclesAreLegal : Type 0
CyclesAreLegal = (grid : Grid) (state : State) → after grid state (cycle_events grid state) ≡ Some (after_cycle grid state)

-- so are those of many cycles
abbrev pub RunsAreLegal : Type 0
RunsAreLegal = (grid : Grid) (state : State) (cycles : ℕ) → after grid state (cycles_events grid state cycles) ≡ Some (after_cycles grid state cycles)

-- a cycle has no event exactly at rest
abbrev pub RestHasNoCycle : Type 0
RestHasNoCycle = (grid : Grid) (state : State) → IsGrid grid → IsAtRest grid state ↔ (cycle_events grid state ≡ [])

-- each compute tile makes one step in a cycle at most, so that no value crosses two nodes
abbrev pub TilesActOnce : Type 0
TilesActOnce = (grid : Grid) (state : State) → IsGrid grid → Fits grid state → (tile : ℕ) → length (steps_of grid state (cycle_events grid state) tile) ≤ 1
