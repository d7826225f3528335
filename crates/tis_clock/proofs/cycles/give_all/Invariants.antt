-- The tiles so far had their turn, and gave to the outputs below them at most.
use Rattle.std.proofs.Common.{◌≡◌, ◌≤◌, ◌-◌, [], length}
use Rattle.tis_grid.specs.Orders.{Fits}
use Rattle.tis_clock.specs.Cycle.{gives_out}
use Rattle.tis_clock.specs.Turns.{kept_at}
use Rattle.tis_clock.proofs.Halves.{Done}
use Rattle.tis_clock.proofs.Room.{IsLeft}
use Rattle.tis_clock.proofs.Visiting.{AreLeft}
use Rattle.tis_clock.proofs.cycles.give_all.Given as goal

abbrev pub invariant-loop-tile : goal.invariant-loop-tile
invariant-loop-tile l = record {
  fits : Fits l.grid l.state.state;
  room : IsLeft l.grid l.passed l.initial.state.spares l.state.spares;
  within : l.passed ≤ 12;
  few : l.count ≤ l.passed;
  left : AreLeft (kept_at l.writing) l.passed l.left;
  done : Done l.grid (gives_out l.grid (kept_at l.writing)) l.kept l.initial.state.state l.initial.trace (length l.grid.puzzle.tiles.kinds) l.passed l.trace l.count l.state.state;
}

abbrev pub decreases-loop-tile : goal.decreases-loop-tile
decreases-loop-tile l = 12 - l.passed
