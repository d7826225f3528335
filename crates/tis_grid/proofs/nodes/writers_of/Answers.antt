-- Each node is looked at.
use Rattle.std.proofs.Common.{◌≡◌, ℕ, ◌+◌, ◌<◌, Bool, List, length, get_or, length-set, map, inl, inr, sym, ap, ◌∙◌, arith}
use Rattle.std.specs.Prelude.{false}
use Rattle.std.proofs.Math.ListN.{get_or-map}
use Rattle.std.proofs.lemmas.Bool.{cases_eq}
use Rattle.std.proofs.lemmas.Grind.{get_or-set_at}
use Rattle.std.proofs.lemmas.List.{same_lists, get_or_default, get_or-set_other, length-map, get_or-map as get_or-map_within}
use Rattle.tis_asm.specs.Node.{fresh}
use Rattle.tis_node.specs.NodeView.{node_view}
use Rattle.tis_grid.specs.HeldState.{writes}
use Rattle.tis_grid.proofs.nodes.writers_of.Goals as goal

pub loop-number-preserved : goal.loop-number-preserved
loop-number-preserved c =
    let nodes = c.args.nodes.now in
    let tile = c.loop-number.number in
    let at_tile : get_or (map writes (map node_view nodes)) tile false ≡ writes (node_view (get_or nodes tile c.index-nodes-number.result)) =
    get_or-map writes (map node_view nodes) tile fresh ∙ ap writes (get_or-map_within node_view nodes tile c.index-nodes-number.result fresh (omega arith)) in (
      ap (λ (l : List Bool). length l) c.put.ensures ∙ length-set c.loop-number.writing tile c.writes.result ∙ c.loop-number.invariant.0,
      λ k below. ap (λ (l : List Bool). get_or l k false) c.put.ensures ∙ elim (cases_eq k tile) [
        | inl here ↦ get_or-set_at c.loop-number.writing tile k c.writes.result false here (omega arith) ∙ c.writes.ensures ∙ sym at_tile ∙ ap (λ (i : ℕ). get_or (map writes (map node_view nodes)) i false) (sym here)
        | inr other ↦ get_or-set_other c.loop-number.writing tile k c.writes.result false other ∙ c.loop-number.invariant.1 k (omega (arith, ltb_of k tile below other))
      ],
    )
  where
    ltb_of : (k tile : ℕ) → k < tile + 1 → (k ≡ tile → ⊥) → k < tile
    ltb_of k tile below other = omega arith

pub returns : goal.returns
returns c =
    let nodes = c.args.nodes.now in
    let all : length (map writes (map node_view nodes)) ≡ 12 = simp length-map (c.type_inv.nodes) in
    same_lists c.loop-number.writing (map writes (map node_view nodes)) (omega arith)
    (λ k d within.
    let below : k < c.loop-number.number = omega arith in
    let there : k < length (map writes (map node_view nodes)) = omega arith in
    get_or_default c.loop-number.writing k d false within ∙ c.loop-number.invariant.1 k below ∙ get_or_default (map writes (map node_view nodes)) k false d there)
