-- What is kept of the node is whether it writes now.
use Rattle.std.proofs.Common.{◌≡◌, ◌<◌, Bool, true, false, List, length, get_or, map, sym, ap, ◌∙◌, arith}
use Rattle.tis_asm.specs.Node.{Node, fresh, instr_at}
use Rattle.tis_node.specs.NodeView.{node_view}
use Rattle.tis_grid.specs.HeldState.{HeldState, writes}
use Rattle.tis_grid.proofs.Writing.{ready_before, still_kept, not_begun}
use Rattle.tis_grid.proofs.state.State.advance.Goals as goal

pub invariant_of-self : goal.invariant_of-self
invariant_of-self c =
    let stays = c.advance_at-intent.ensures.stays (λ yes. let bad : true ≡ false = sym yes ∙ sym c.is_local.ensures ∙ c.if-not-is_local.true in absurd cc) in
    c.self.invariant ∙ ap (λ (l : List Node). map writes l) (sym stays)

pub invariant_of-self-then-not-writes : goal.invariant_of-self-then-not-writes
invariant_of-self-then-not-writes c =
    let seen : length (map node_view c.self.inside.nodes) ≡ length c.args.self.now.state.nodes = ap (λ (h : HeldState). length h.state.nodes) c.self.view_is in
    let within : c.args.tile.number < length (map node_view c.self.inside.nodes) = omega (arith, seen, c.requires.within) in
    let node : Node = get_or (map node_view c.self.inside.nodes) c.args.tile.number fresh in
    let was = ready_before node.mode (instr_at c.args.decoded.now node.pc) node (c.advance_at-intent.ensures.local ∙ sym c.is_local.ensures ∙ c.if-not-is_local.false) in
    not_begun c.self.inside.nodes c.advance_at-intent.new.nodes c.self.inside.writing c.args.tile.number _ within c.self.invariant c.advance_at-intent.ensures.alone c.index-self-index.result (sym c.if-not-writes.true ∙ c.writes.ensures) was

pub invariant_of-self-2 : goal.invariant_of-self-2
invariant_of-self-2 c =
    let seen : length (map node_view c.self.inside.nodes) ≡ length c.args.self.now.state.nodes = ap (λ (h : HeldState). length h.state.nodes) c.self.view_is in
    let within : c.args.tile.number < length (map node_view c.self.inside.nodes) = omega (arith, seen, c.requires.within) in
    c.add.ensures ∙ still_kept c.self.inside.nodes c.advance_at-intent.new.nodes c.self.inside.writing c.args.tile.number _ within c.self.invariant c.advance_at-intent.ensures.alone c.index-self-index.result true (sym c.if-not-writes.false ∙ c.writes.ensures)
