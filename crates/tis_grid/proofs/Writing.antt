-- What is kept of the nodes, whether each writes, where one of them changed.
use Rattle.std.proofs.Common.{◌≡◌, ◌<◌, ℕ, Bool, true, false, List, length, get_or, map, Option, refl, sym, ap, ◌∙◌, slice_set, length-set, arith}
use Rattle.std.proofs.lemmas.List.{map-set, get_or-map, get_or-set_same, length-map, set-get_or}
use Rattle.std.proofs.Math.ListN.{get_or-map as get_or-map_any}
use Rattle.tis_asm.specs.declared.instr.Instr.{Instr}
use Rattle.tis_asm.specs.Node.{Node, Mode, Ready, Writing, fresh, can_local_in}
use Rattle.tis_node.specs.declared.node.Node as held
use Rattle.tis_node.specs.NodeView.{node_view}
use Rattle.tis_grid.specs.HeldState.{AreWriting, writes, writes_in}

-- a node that can make a local step is ready
pub ready_before : (mode : Mode) (instr : Option Instr) (node : Node) → can_local_in mode instr node ≡ true → writes_in mode ≡ false
ready_before Ready instr node is = refl
ready_before (Writing value toward) instr node is = absurd cc

module _ (old new : List held.Node) (writing : List Bool) (at : ℕ) (node : Node) (within : at < length (map node_view old)) (kept : AreWriting writing (map node_view old)) (is : map node_view new ≡ slice_set (map node_view old) at node) where
  within_new : at < length new
  within_new = let as_many = ap (λ (l : List Node). length l) is ∙ length-set (map node_view old) at node in omega (arith, within, as_many, length-map new node_view)

  -- the flag is that of the node which stands there now
  pub still_kept : (element : held.Node) (flag : Bool) → flag ≡ writes (node_view (get_or new at element)) → AreWriting (slice_set writing at flag) (map node_view new)
  still_kept element flag flag_is =
      let there : node_view (get_or new at element) ≡ node = sym (get_or-map node_view new at element fresh within_new) ∙ ap (λ (l : List Node). get_or l at fresh) is ∙ get_or-set_same (map node_view old) at node fresh within in
      ap (λ (l : List Bool). slice_set l at flag) kept
      ∙ ap (λ (b : Bool). slice_set (map writes (map node_view old)) at b) (flag_is ∙ ap writes there)
      ∙ sym (map-set writes (map node_view old) at node) ∙ ap (λ (l : List Node). map writes l) (sym is)

  -- a node that was ready and is so still leaves the flags as they are
  pub not_begun : (element : held.Node) → false ≡ writes (node_view (get_or new at element)) → writes (get_or (map node_view old) at fresh) ≡ false → AreWriting writing (map node_view new)
  not_begun element flag_is was =
      let flag : get_or writing at false ≡ false = ap (λ (l : List Bool). get_or l at false) kept ∙ get_or-map_any writes (map node_view old) at fresh ∙ was in
      let same : slice_set writing at false ≡ writing = ap (λ (b : Bool). slice_set writing at b) (sym flag) ∙ set-get_or writing at false in
      sym same ∙ still_kept element false flag_is
