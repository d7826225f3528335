use Rattle.std.proofs.Common.{sym, subst}
use Rattle.tis_grid.specs.State.{State}
use Rattle.tis_grid.specs.Orders.{Fits}
use Rattle.tis_grid.proofs.Enabled.{enabled_parts}
use Rattle.tis_grid.proofs.Fitting.{event_fitting}
use Rattle.tis_grid.proofs.grid.Grid.apply.Goals as goal

pub returns-clause-fits : goal.returns-clause-fits
returns-clause-fits c =
    subst (λ (s : State). Fits c.args.self.now s) (sym c.act.ensures.state)
    (event_fitting c.args.self.now c.args.state.now.state c.args.event c.puzzle.ensures.grid c.requires.fits (enabled_parts c.args.self.now c.args.state.now.state c.args.event c.requires.enabled))
