-- What it means that a grid carries a network, whatever the order of its events.
use Rattle.std.specs.Prelude.{◌≡◌, ℕ, ◌≤◌, List, length, All, Some}
use Rattle.tis_base.specs.Prefix.{IsPrefixOf}
use Rattle.tis_asm.specs.Programs.{Programs}
use Rattle.tis_grid.specs.declared.event.Event.{Event}
use Rattle.tis_grid.specs.Puzzle.{Puzzle, IsPuzzle, HasOutput, values_at}
use Rattle.tis_grid.specs.State.{Grid, State, outs, start}
use Rattle.tis_grid.specs.Orders.{after, IsAtRest}
use Rattle.net_rules.specs.Numbers.{NumberedNet}
use Rattle.net_rules.specs.Kahn.{kahn_at, bound}

-- the network can stand in the puzzle: the tiles are the same, and where the network has an output, the puzzle has one of either kind
pub record FitsNet (puzzle : Puzzle) (net : NumberedNet) : Type 0 where
  pub tiles : puzzle.tiles ≡ net.tiles
  pub outputs : All (λ position. HasOutput puzzle.outputs position) net.outputs

-- the grid of a puzzle and these programs
abbrev pub grid_with : Puzzle → Programs → Grid
grid_with puzzle programs = record { puzzle = puzzle; programs = programs.programs }

-- an order of events, and the state that it leads to: the outputs are prefixes of the network's Kahn streams over the inputs of the grid, the order is no longer than the bound, and where no event can happen the outputs are those streams whole
pub record FollowsNet (grid : Grid) (net : NumberedNet) (events : List Event) (end : State) : Type 0 where
  pub prefixes : (position : ℕ) → IsPrefixOf (outs end position) (kahn_at net (values_at grid.puzzle.inputs) position)
  pub bounded : length events ≤ bound net (values_at grid.puzzle.inputs)
  pub whole : IsAtRest grid end → (position : ℕ) → outs end position ≡ kahn_at net (values_at grid.puzzle.inputs) position

-- for every puzzle that fits, with any inputs, every legal order from the start follows the network
abbrev pub Carries : Programs → NumberedNet → Type 0
Carries programs net =
    (puzzle : Puzzle) → IsPuzzle puzzle → FitsNet puzzle net →
    (events : List Event) (end : State) → after (grid_with puzzle programs) (start (grid_with puzzle programs)) events ≡ Some end → FollowsNet (grid_with puzzle programs) net events end
