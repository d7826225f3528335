use Rattle.tis_grid.specs.Orders.{Fits}
use Rattle.tis_grid.specs.Drawn.{generator_of}
use Rattle.tis_grid.specs.HeldChoices.{AreChoices, AreGivers}
use Rattle.tis_grid.proofs.Drawing.{Drew}
use Rattle.tis_grid.proofs.grid.Grid.run_seeded.Given as goal

abbrev pub invariant-loop-done : goal.invariant-loop-done
invariant-loop-done l =
    record {
      fits : Fits l.self l.state.state;
      right : AreChoices l.self l.state.state l.choices;
      givers : AreGivers l.self l.state.state l.givers;
      drew : Drew l.self l.fn.state.state (generator_of l.fn.seed) l.fn.limit l.done l.state.state l.generator;
    }
