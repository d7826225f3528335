use Rattle.std.proofs.Common.{ℕ, ◌<◌}
use Rattle.tis_grid.specs.HeldChoices.{AreAround, IsMarked}
use Rattle.tis_grid.proofs.grid.Grid.givers.Given as goal

abbrev pub invariant-loop-number : goal.invariant-loop-number
invariant-loop-number l =
    record {
      around : AreAround l.self l.givers;
      marked : (tile : ℕ) → tile < l.number → IsMarked l.self l.state.state l.givers.marks tile;
    }
