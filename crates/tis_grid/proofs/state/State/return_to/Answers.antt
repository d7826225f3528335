-- What comes back is a state of the grid.
use Rattle.std.proofs.Common.{◌≡◌, map, option_map, sym, subst, ap, ◌∙◌, rules}
use Rattle.tis_base.specs.declared.values.Values.{Values}
use Rattle.tis_node.specs.NodeView.{node_view}
use Rattle.tis_grid.specs.Orders.{Fits}
use Rattle.tis_grid.specs.State.{State}
use Rattle.tis_grid.specs.Points.{returned}
use Rattle.tis_grid.proofs.Returning.{returns_fit}
use Rattle.tis_grid.proofs.state.State.return_to.Goals as goal

pub returns-clause-fits : goal.returns-clause-fits
returns-clause-fits c = λ grid earlier fits before is.
    let new : State = record { nodes = map node_view c.copy_nodes-self-inside.result; stacks = c.copy_stacks-self-inside.result; left = c.point.inside.left; outs = map (option_map (λ (v : Values). v.items)) c.cut_all.new.outs } in
    let same : new ≡ returned c.args.self.now.state c.args.point.now = search rules in
    subst (Fits grid) (sym (same ∙ ap (returned c.args.self.now.state) is)) (returns_fit grid c.args.self.now.state earlier fits before)
