-- The node is the one at the index, and what it becomes stands there.
use Rattle.std.proofs.Common.{◌≡◌, ◌<◌, List, length, get_or, map, sym, ap, ◌∙◌, slice_set}
use Rattle.std.proofs.lemmas.List.{map-set, get_or-map, get_or-set_same, length-map}
use Rattle.std.proofs.Math.Seq.{map-set_same}
use Rattle.tis_asm.specs.Node.{Node, fresh, local_step}
use Rattle.tis_node.specs.NodeView.{node_view}
use Rattle.tis_grid.proofs.nodes.advance_at.Goals as goal

pub returns-clause-steps : goal.returns-clause-steps
returns-clause-steps c = λ yes.
    let here : node_view (get_or c.args.nodes.now c.args.index c.index-nodes-index.result) ≡ get_or (map node_view c.args.nodes.now) c.args.index fresh =
    sym (get_or-map node_view c.args.nodes.now c.args.index c.index-nodes-index.result fresh c.requires.within) in
    map-set node_view c.args.nodes.now c.args.index c.advance.new.self
    ∙ ap (λ (n : Node). slice_set (map node_view c.args.nodes.now) c.args.index n) (c.advance.ensures.steps yes ∙ ap (local_step c.args.decoded.now) here)

pub returns-clause-stays : goal.returns-clause-stays
returns-clause-stays c = λ no. map-set_same node_view c.args.nodes.now c.args.index c.advance.new.self c.index-nodes-index.result (c.advance.ensures.stays no)

pub returns-clause-alone : goal.returns-clause-alone
returns-clause-alone c =
    let nodes = c.args.nodes.now in
    let at = c.args.index in
    let new = c.advance.new.self in
    let within : at < length (map node_view nodes) = simp length-map c.requires.within in
    let set_there = map-set node_view nodes at new in
    let there : get_or (map node_view (slice_set nodes at new)) at fresh ≡ node_view new = ap (λ (l : List Node). get_or l at fresh) set_there ∙ get_or-set_same (map node_view nodes) at (node_view new) fresh within in
    set_there ∙ ap (λ (n : Node). slice_set (map node_view nodes) at n) (sym there)
