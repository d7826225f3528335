use Rattle.std.proofs.Common.{sym, subst}
use Rattle.tis_grid.specs.State.{IsGrid, State}
use Rattle.tis_grid.specs.Orders.{Fits}
use Rattle.tis_grid.proofs.Fitting.{start_fitting}
use Rattle.tis_grid.proofs.Starting.{start_is, twelve_tiles}
use Rattle.tis_grid.proofs.grid.Grid.start.Goals as goal

pub returns-clause-state : goal.returns-clause-state
returns-clause-state c =
    let is_grid : IsGrid c.args.self.now = subst IsGrid c.self.view_is c.self.invariant.is_grid in
    start_is c.args.self.now _ _ _ _ _ _ _ _ _ _ (twelve_tiles c.args.self.now is_grid) is_grid.puzzle.tiles.allowed.0 c.fresh.ensures c.no_stacks.ensures
    c.input_len.ensures c.input_len-2.ensures c.input_len-3.ensures c.input_len-4.ensures
    c.no_values.ensures c.no_values-2.ensures c.no_values-3.ensures c.no_values-4.ensures

pub returns-clause-fits : goal.returns-clause-fits
returns-clause-fits c =
    let is_grid : IsGrid c.args.self.now = subst IsGrid c.self.view_is c.self.invariant.is_grid in
    subst (λ (s : State). Fits c.args.self.now s) (sym (start_is c.args.self.now _ _ _ _ _ _ _ _ _ _ (twelve_tiles c.args.self.now is_grid) is_grid.puzzle.tiles.allowed.0 c.fresh.ensures c.no_stacks.ensures
    c.input_len.ensures c.input_len-2.ensures c.input_len-3.ensures c.input_len-4.ensures
    c.no_values.ensures c.no_values-2.ensures c.no_values-3.ensures c.no_values-4.ensures)) (start_fitting c.args.self.now is_grid)
