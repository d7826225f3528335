use Rattle.std.proofs.Common.{◌≡◌, ℕ, ◌-◌, ◌≤◌, take, length, Some}
use Rattle.std.specs.Prelude.{IsTrue}
use Rattle.tis_grid.specs.Puzzle.{has_output}
use Rattle.tis_grid.specs.HeldState.{spare_at}
use Rattle.tis_grid.specs.Orders.{Fits, after}
use Rattle.tis_grid.proofs.grid.Grid.run_order.Given as goal

abbrev pub invariant-loop-index : goal.invariant-loop-index
invariant-loop-index l =
    record {
      fits : Fits l.self l.state.state;
      leads : after l.self l.fn.state.state (take l.index l.events) ≡ Some l.state.state;
      room : (position : ℕ) → IsTrue (has_output l.self.puzzle.outputs position) → length l.events - l.index ≤ spare_at l.state.spares position;
    }
