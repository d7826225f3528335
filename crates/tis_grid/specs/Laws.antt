-- Laws of every grid, whatever its programs and whatever the order.
use Rattle.std.specs.Prelude.{◌≡◌, ◌↔◌, ℕ, ◌<◌, ◌≤◌, false, List, [], ◌++◌, length, sum_by, Some, Contains}
use Rattle.std.specs.List.{range_with_len}
use Rattle.tis_base.specs.Prefix.{IsPrefixOf}
use Rattle.tis_base.specs.Tiles.{IsCompute, opposite}
use Rattle.tis_base.specs.declared.tiles.Dir.{Dir}
use Rattle.tis_base.specs.declared.tiles.Dir.TheVariants.{Up, Down}
use Rattle.tis_asm.specs.PortRuns.{IsPortRun, after_steps, taken_from, given_to}
use Rattle.tis_grid.specs.declared.event.Event.{Event}
use Rattle.tis_base.specs.declared.tiles.TileKind.{TileKind}
use Rattle.tis_grid.specs.Puzzle.{Puzzle, IsPuzzle, Port, IsPort, is_taken, with_port, bare}
use Rattle.tis_grid.specs.State.{Grid, IsGrid, State, node_at, outs, start}
use Rattle.tis_grid.specs.Events.{program_of, next_tile, bottom_of, IsEnabled}
use Rattle.tis_grid.specs.Orders.{Fits, after, IsLegal, IsAtRest}
use Rattle.tis_grid.specs.Choices.{enabled_events}
use Rattle.tis_grid.specs.Drawn.{drawn}
use Rattle.tis_grid.specs.Points.{point_of, returned, CanReturn}
use Rattle.tis_grid.specs.TileSteps.{steps_of, values_left}

-- the start is a state of its grid
abbrev pub StartFits : Type 0
StartFits = (grid : Grid) → IsGrid grid → Fits grid (start grid)

-- a legal order of events from a state of a grid, and the state that it leads to
pub record IsOrder (grid : Grid) (state : State) (events : List Event) (end : State) : Type 0 where
  pub is_grid : IsGrid grid
  pub fits : Fits grid state
  pub leads : after grid state events ≡ Some end

-- it is a state of the grid too
abbrev pub OrdersKeepFitting : Type 0
OrdersKeepFitting = (grid : Grid) (state : State) (events : List Event) (end : State) → IsOrder grid state events end → Fits grid end

-- seen from one tile, an order is steps that its node can make, and leads to the node that these steps lead to
abbrev pub OrdersAreRuns : Type 0
OrdersAreRuns = (grid : Grid) (state : State) (events : List Event) (end : State) → IsOrder grid state events end → (tile : ℕ) →
    IsPortRun (program_of grid tile) (node_at state tile) (steps_of grid state events tile)
    × (after_steps (program_of grid tile) (node_at state tile) (steps_of grid state events tile) ≡ node_at end tile)

-- what one end of a link gave is what the other end took
abbrev pub LinksPassAll : Type 0
LinksPassAll = (grid : Grid) (state : State) (events : List Event) (end : State) → IsOrder grid state events end → (tile : ℕ) (dir : Dir) (reader : ℕ) →
    next_tile grid tile dir ≡ Some reader → IsCompute grid.puzzle.tiles tile → IsCompute grid.puzzle.tiles reader →
    given_to dir (steps_of grid state events tile) ≡ taken_from (opposite dir) (steps_of grid state events reader)

-- what was left of an input is what the tile below it took from above, and then what is left
abbrev pub InputsPassAll : Type 0
InputsPassAll = (grid : Grid) (state : State) (events : List Event) (end : State) → IsOrder grid state events end → (position : ℕ) → position < grid.puzzle.tiles.shape.columns →
    values_left grid state position ≡ taken_from Up (steps_of grid state events position) ++ values_left grid end position

-- an output has what it had, and then what the tile above it gave downwards
abbrev pub OutputsPassAll : Type 0
OutputsPassAll = (grid : Grid) (state : State) (events : List Event) (end : State) → IsOrder grid state events end → (position : ℕ) → position < grid.puzzle.tiles.shape.columns →
    outs end position ≡ outs state position ++ given_to Down (steps_of grid state events (bottom_of grid position))

-- each event is a step of some tile
abbrev pub StepsCountEvents : Type 0
StepsCountEvents = (grid : Grid) (state : State) (events : List Event) (end : State) → IsOrder grid state events end →
    length events ≤ sum_by (λ tile. length (steps_of grid state events tile)) (range_with_len 0 (length grid.puzzle.tiles.kinds))

-- an event is listed exactly where it is enabled
abbrev pub EnabledAreListed : Type 0
EnabledAreListed = (grid : Grid) (state : State) (event : Event) → IsGrid grid → IsEnabled grid state event ↔ Contains (enabled_events grid state) event

-- none is listed exactly at rest
abbrev pub RestListsNone : Type 0
RestListsNone = (grid : Grid) (state : State) → IsGrid grid → IsAtRest grid state ↔ (enabled_events grid state ≡ [])

-- the order is legal, keeps to the limit, and comes to rest where it stays below it
pub record IsMaximalWithin (grid : Grid) (state : State) (most : ℕ) (events : List Event) : Type 0 where
  pub legal : IsLegal grid state events
  pub few : length events ≤ most
  pub rests : length events < most → (end : State) → after grid state events ≡ Some end → IsAtRest grid end

-- an order that is drawn is legal, and ends at its limit or at rest
abbrev pub DrawnOrdersAreLegal : Type 0
DrawnOrdersAreLegal = (grid : Grid) (state : State) (seed most : ℕ) → IsGrid grid → IsMaximalWithin grid state most (drawn grid state seed most)

-- with a higher limit the same order goes on
abbrev pub DrawnOrdersGrow : Type 0
DrawnOrdersGrow = (grid : Grid) (state : State) (seed few most : ℕ) → few ≤ most → IsPrefixOf (drawn grid state seed few) (drawn grid state seed most)

-- a state of a grid that is brought back to the point of another one is a state of the grid
abbrev pub ReturnsFit : Type 0
ReturnsFit = (grid : Grid) (state earlier : State) → Fits grid state → Fits grid earlier → Fits grid (returned state (point_of earlier))

-- what an order led to can be brought back to the point of the state before it, and is then that state
abbrev pub PointsBringBack : Type 0
PointsBringBack = (grid : Grid) (state : State) (events : List Event) (end : State) → IsOrder grid state events end →
    CanReturn end (point_of state) × (returned end (point_of state) ≡ state)

-- twelve tiles without a port are a puzzle
abbrev pub BareArePuzzles : Type 0
BareArePuzzles = (kinds : List TileKind) → length kinds ≡ 12 → IsPuzzle (bare kinds)

-- a puzzle with one more port, at a position where none stands on its side, is a puzzle
abbrev pub PortsMakePuzzles : Type 0
PortsMakePuzzles = (puzzle : Puzzle) (port : Port) → IsPuzzle puzzle → IsPort puzzle.tiles.shape.columns port → is_taken puzzle port ≡ false → IsPuzzle (with_port puzzle port)
