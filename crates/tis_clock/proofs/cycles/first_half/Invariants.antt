-- The tiles so far had their turn, and gave to no output; those that sleep are not among the others.
use Rattle.std.proofs.Common.{◌≡◌, ℕ, ◌≤◌, ◌-◌, true, false, [], length}
use Rattle.tis_grid.specs.Orders.{Fits}
use Rattle.tis_grid.specs.TileSets.{has}
use Rattle.tis_clock.specs.Cycle.{reads_or_steps}
use Rattle.tis_clock.specs.Sleepers.{AreAsleep}
use Rattle.tis_clock.specs.Turns.{kept_at}
use Rattle.tis_clock.proofs.Halves.{Done}
use Rattle.tis_clock.proofs.Visiting.{AreLeft, turns_first}
use Rattle.tis_clock.proofs.cycles.first_half.Given as goal

abbrev pub invariant-loop-tile : goal.invariant-loop-tile
invariant-loop-tile l = record {
  fits : Fits l.grid l.state.state;
  spares : l.state.spares ≡ l.initial.state.spares;
  within : l.passed ≤ 12;
  few : l.count ≤ l.passed;
  left : AreLeft (turns_first l.grid (kept_at l.writing) (kept_at l.initial.asleep)) l.passed l.left;
  asleep : AreAsleep l.grid (kept_at l.writing) l.state.state l.asleep;
  stay : (tile : ℕ) → has l.initial.asleep tile ≡ true → has l.asleep tile ≡ true;
  awake : (tile : ℕ) → has l.left tile ≡ true → has l.asleep tile ≡ false;
  done : Done l.grid (reads_or_steps l.grid (kept_at l.writing)) l.kept l.initial.state.state [] (length l.grid.puzzle.tiles.kinds) l.passed l.trace l.count l.state.state;
}

abbrev pub decreases-loop-tile : goal.decreases-loop-tile
decreases-loop-tile l = 12 - l.passed
