-- The node is the one at the index, and what it becomes stands there.
use Rattle.std.proofs.Common.{◌≡◌, get_or, map, sym, ap, ◌∙◌, slice_set}
use Rattle.std.proofs.lemmas.List.{map-set, get_or-map}
use Rattle.tis_asm.specs.Node.{Node, fresh, gave}
use Rattle.tis_node.specs.NodeView.{node_view}
use Rattle.tis_grid.proofs.nodes.gave_at.Goals as goal

pub returns : goal.returns
returns c =
    let nodes = c.args.nodes.now in
    let at = c.args.index in
    let here : node_view (get_or nodes at c.index-nodes-index.result) ≡ get_or (map node_view nodes) at fresh = sym (get_or-map node_view nodes at c.index-nodes-index.result fresh c.requires.within) in
    map-set node_view nodes at c.gave.new.self
    ∙ ap (λ (n : Node). slice_set (map node_view nodes) at n) (c.gave.ensures.step ∙ ap (λ (n : Node). gave c.args.program.now n c.args.dir) here)
