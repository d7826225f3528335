-- A step of each loop that places programs.
use Rattle.std.proofs.Common.{◌≡◌, ℕ, zero, suc, ◌+◌, ◌*◌, ◌<◌, ◌≤◌, Bool, true, false, List, [], ◌∷◌, length, map, drop, get_or, Option, Some, refl, sym, ap, subst, ◌∙◌, arith}
use Rattle.std.specs.Prelude.{◌&&◌, slice_get, slice_set, IfSome}
use Rattle.std.proofs.lemmas.List.{drop_all, drop_more, length-map}
use Rattle.std.proofs.lemmas.Option.{slice_get_within, get_or_from_slice_get}
use Rattle.tis_asm.specs.declared.program.MarkedInstr.{MarkedInstr}
use Rattle.net_tree.specs.declared.tree.ProcessText as held
use Rattle.net_tree.specs.Tree.{Block, Empty, ProcessText, Net}
use Rattle.net_tree.specs.View.{process_view}
use Rattle.net_rules.specs.Numbers.{numbered, number_in, block_with}
use Rattle.net_select.specs.Selection.{program_of}
use Rattle.net_column.specs.Column.{is_in_place, stand_in_line, column_of, IsColumn}
use Rattle.net_column.specs.Compiled.{column_ports, pass_code}
use Rattle.net_column.specs.Emission.{put_on, with_processes, with_passes}
use Rattle.net_column.proofs.Columns.{ends}
use Rattle.net_column.proofs.Emitted.{known}
use Rattle.net_column.proofs.Forms.{and_true, and_false}

-- what is left of a list, from an element of it on
pub drop_found : {X : Type 0} (xs : List X) (i : ℕ) (x : X) → slice_get xs i ≡ Some x → drop i xs ≡ x ∷ drop (i + 1) xs
drop_found xs i x found = drop_more xs i x (slice_get_within xs i x found) ∙ ap (λ (y : _). y ∷ drop (i + 1) xs) (get_or_from_slice_get xs i x x found)

pub passes_more : (tiles : List ℕ) (i tile : ℕ) (programs : List (List MarkedInstr)) → slice_get tiles i ≡ Some tile → with_passes (drop i tiles) programs ≡ with_passes (drop (i + 1) tiles) (slice_set programs tile pass_code)
passes_more tiles i tile programs found = ap (λ (left : List ℕ). with_passes left programs) (drop_found tiles i tile found)

-- ---- the next process

-- an element of what is seen of a list
view_at : (slice : List held.ProcessText) (index : ℕ) (item : held.ProcessText) → index < length slice → get_or (map process_view slice) index (process_view item) ≡ process_view (get_or slice index item)
view_at [] index item within = absurd (omega (arith, within))
view_at (first ∷ slice) zero item within = refl
view_at (first ∷ slice) (suc index) item within = view_at slice index item (omega (arith, within))

module _ (net : Net) (slice : List held.ProcessText) (index : ℕ) (item : held.ProcessText) (same : map process_view slice ≡ net.processes) (within : index < length slice) (is : item ≡ get_or slice index item) where
  abbrev bodies : List (Block ℕ)
  bodies = (numbered net).processes

  process_is : get_or net.processes index (process_view item) ≡ process_view item
  process_is = ap (λ (l : List ProcessText). get_or l index (process_view item)) (sym same) ∙ view_at slice index item within ∙ ap process_view (sym is)

  inside : index < length net.processes
  inside = omega (arith, within, ap (λ (l : List ProcessText). length l) same, length-map slice process_view)

  pub numbered_inside : index < length bodies
  numbered_inside = omega (arith, inside, length-map net.processes (λ (process : ProcessText). block_with (number_in net) process.body))

  item_drop : drop index net.processes ≡ process_view item ∷ drop (index + 1) net.processes
  item_drop = drop_more net.processes index (process_view item) inside ∙ ap (λ (p : ProcessText). p ∷ drop (index + 1) net.processes) process_is

  body_drop : drop index bodies ≡ get_or bodies index Empty ∷ drop (index + 1) bodies
  body_drop = drop_more bodies index Empty numbered_inside

  line_next : (tile : ℕ) → stand_in_line index tile (drop index net.processes) (drop index bodies) ≡ (is_in_place index tile (process_view item) (get_or bodies index Empty) && stand_in_line (index + 1) (tile + 4) (drop (index + 1) net.processes) (drop (index + 1) bodies))
  line_next tile = ap (λ (l : List ProcessText). stand_in_line index tile l (drop index bodies)) item_drop ∙ ap (stand_in_line index tile (process_view item ∷ drop (index + 1) net.processes)) body_drop

  -- it isn't in its place
  pub out_of_place : (position : ℕ) (whole placed : Bool) → whole ≡ stand_in_line index (position + 4 * index) (drop index net.processes) (drop index bodies) → placed ≡ is_in_place index (position + 4 * index) (process_view item) (get_or bodies index Empty) → placed ≡ false → false ≡ whole
  out_of_place position whole placed so_far placed_is no_place = sym (so_far ∙ line_next (position + 4 * index) ∙ and_false _ _ (sym placed_is ∙ no_place))

  -- it is, and the others are looked at
  pub in_place : (position : ℕ) (whole placed : Bool) → whole ≡ stand_in_line index (position + 4 * index) (drop index net.processes) (drop index bodies) → placed ≡ is_in_place index (position + 4 * index) (process_view item) (get_or bodies index Empty) → placed ≡ true →
      whole ≡ stand_in_line (index + 1) (position + 4 * (index + 1)) (drop (index + 1) net.processes) (drop (index + 1) bodies)
  in_place position whole placed so_far placed_is here =
      so_far ∙ line_next (position + 4 * index) ∙ and_true _ _ (sym placed_is ∙ here)
      ∙ ap (λ (tile : ℕ). stand_in_line (index + 1) tile (drop (index + 1) net.processes) (drop (index + 1) bodies)) (omega arith)

  -- its code is put on its tile
  pub process_put : (programs : List (List MarkedInstr)) → with_processes index (drop index net.processes) (drop index bodies) programs ≡
      with_processes (index + 1) (drop (index + 1) net.processes) (drop (index + 1) bodies) (put_on item.at (program_of (column_ports (index + 1)) (get_or bodies index Empty)) programs)
  process_put programs = ap (λ (l : List ProcessText). with_processes index l (drop index bodies) programs) item_drop ∙ ap (λ (l : List (Block ℕ)). with_processes index (process_view item ∷ drop (index + 1) net.processes) l programs) body_drop

  -- which is one of the grid
  pub on_grid : IsColumn net → IfSome item.at (λ tile. tile < 12)
  on_grid column =
      some item.at (column_of net.inputs + 4 * index) (ap (λ (p : ProcessText). p.at) (sym process_is) ∙ (known net column index (process_view item) Empty numbered_inside).at) (omega (arith, (ends net column).inside, inside, column.few))
    where
      some : (at : Option ℕ) (tile : ℕ) → at ≡ Some tile → tile < 12 → IfSome at (λ t. t < 12)
      some at tile at_is low = subst (λ (a : Option ℕ). IfSome a (λ t. t < 12)) (sym at_is) low

-- all were looked at
pub line_ends : (net : Net) (index tile : ℕ) → length net.processes ≤ index → stand_in_line index tile (drop index net.processes) (drop index (numbered net).processes) ≡ true
line_ends net index tile past =
    ap (λ (l : List ProcessText). stand_in_line index tile l (drop index (numbered net).processes)) (drop_all index net.processes past)
    ∙ ap (stand_in_line index tile []) (drop_all index (numbered net).processes (omega (arith, past, length-map net.processes (λ (process : ProcessText). block_with (number_in net) process.body))))
