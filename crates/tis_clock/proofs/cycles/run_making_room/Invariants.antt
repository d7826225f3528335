-- So many cycles were done, and the grid wasn't at rest before any.
use Rattle.std.proofs.Common.{◌≡◌, ℕ, ◌≤◌}
use Rattle.std.specs.Prelude.{IsTrue}
use Rattle.tis_grid.specs.Puzzle.{has_output}
use Rattle.tis_grid.specs.HeldState.{spare_at}
use Rattle.tis_grid.specs.Orders.{Fits}
use Rattle.tis_clock.specs.Cycle.{after_cycles, writers}
use Rattle.tis_clock.specs.Sleepers.{AreAsleep}
use Rattle.tis_clock.specs.Runs.{WorksBefore}
use Rattle.tis_clock.proofs.cycles.run_making_room.Given as goal

abbrev pub invariant-loop-done : goal.invariant-loop-done
invariant-loop-done l = record {
  fits : Fits l.grid l.state.state;
  led : l.state.state ≡ after_cycles l.grid l.initial.state.state l.done;
  asleep : AreAsleep l.grid (writers l.state.state) l.state.state l.asleep;
  works : WorksBefore l.grid l.initial.state.state l.done;
  room : (position : ℕ) → IsTrue (has_output l.grid.puzzle.outputs position) → l.room ≤ spare_at l.state.spares position;
}
