-- What is kept of the node is whether it writes now.
use Rattle.std.proofs.Common.{◌≡◌, ◌<◌, length, map, ap, ◌∙◌, arith}
use Rattle.tis_node.specs.NodeView.{node_view}
use Rattle.tis_grid.specs.HeldState.{HeldState}
use Rattle.tis_grid.proofs.Writing.{still_kept}
use Rattle.tis_grid.proofs.state.State.gave.Goals as goal

pub invariant_of-self : goal.invariant_of-self
invariant_of-self c =
    let seen : length (map node_view c.self.inside.nodes) ≡ length c.args.self.now.state.nodes = ap (λ (h : HeldState). length h.state.nodes) c.self.view_is in
    let within : c.args.tile.number < length (map node_view c.self.inside.nodes) = omega (arith, seen, c.requires.within) in
    c.put.ensures ∙ still_kept c.self.inside.nodes c.gave_at.new.nodes c.self.inside.writing c.args.tile.number _ within c.self.invariant c.gave_at.ensures c.index-self-index.result c.writes-writes.result c.writes-writes.ensures
