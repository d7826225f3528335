-- The texts of a map in memory, after a look and after an insertion.
use Rattle.std.proofs.Common.{◌≡◌, ℕ, true, false, cond, List, [], ◌∷◌, map, Option, Some, option_map, refl, sym, ap, ◌∙◌}
use Rattle.std.specs.Ordering.{nat_cmp, match_ordering, is_eq}
use Rattle.std.specs.declared.cmp.Ordering.{Ordering}
use Rattle.std.specs.declared.cmp.Ordering.TheVariants.{Less, Equal, Greater}
use Rattle.std.specs.Cmp.Lexicographic.{slice_cmp, nat_list_cmp_total}
use Rattle.std.specs.Map.{lookup}
use Rattle.std.specs.BTreeMap.{insert_entry, is_at}
use Rattle.std.specs.FinMap.{get-from_entries, get-insert, same_map, slice_cmp-IsAntisymmetric, nat_cmp-IsAntisymmetric}
use Rattle.std.specs.FinMap.Entries.{find, put, find-put, by_order}
use Rattle.std.specs.String.{string_bytes, string_cmp}
use Rattle.std.specs.declared.string.String.{String}
use Rattle.std.specs.declared.vec.Vec.{Vec}
use Rattle.tis_base.specs.Outside.{text_at, with_text}
use Rattle.tis_base.specs.MemStore.{entry_text, texts_of}

abbrev bytes_cmp : List ℕ → List ℕ → Ordering
bytes_cmp = slice_cmp nat_cmp

module _ {Y Z : Type 0} where
  abbrev found : List ℕ → List (String Y × Vec ℕ Z) → Option (Vec ℕ Z)
  found name entries = lookup (is_at (λ k. bytes_cmp name (string_bytes k))) entries

  find-map : (name : List ℕ) (es : List (String Y × Vec ℕ Z)) → find bytes_cmp name (map entry_text es) ≡ option_map (λ v. v.items) (found name es)
  find-map name [] = refl
  find-map name (e ∷ es) =
      elim (is_eq (bytes_cmp name (string_bytes e.0))) as (λ b. cond b (Some e.1.items) (find bytes_cmp name (map entry_text es)) ≡ option_map (λ v. v.items) (cond b (Some e.1) (found name es))) [
        | true ↦ refl
        | false ↦ find-map name es
      ]

  -- what a look in the map finds is the text at the name
  pub text_at-texts_of : (es : List (String Y × Vec ℕ Z)) (name : List ℕ) → text_at (texts_of es) name ≡ option_map (λ v. v.items) (found name es)
  text_at-texts_of es name = get-from_entries nat_list_cmp_total (map entry_text es) name ∙ find-map name es

  map-insert_entry : (es : List (String Y × Vec ℕ Z)) (k : String Y) (v : Vec ℕ Z) → map entry_text (insert_entry string_cmp es k v) ≡ put bytes_cmp (string_bytes k) v.items (map entry_text es)
  map-insert_entry [] k v = refl
  map-insert_entry (e ∷ es) k v =
      elim (bytes_cmp (string_bytes k) (string_bytes e.0)) as (λ r. map entry_text (match_ordering r ((k, v) ∷ e ∷ es) ((e.0, v) ∷ es) (e ∷ insert_entry string_cmp es k v)) ≡ by_order r ((string_bytes k, v.items) ∷ map entry_text (e ∷ es)) ((string_bytes e.0, v.items) ∷ map entry_text es) (entry_text e ∷ put bytes_cmp (string_bytes k) v.items (map entry_text es))) [
        | Less ↦ refl
        | Equal ↦ refl
        | Greater ↦ ap (λ rest. entry_text e ∷ rest) (map-insert_entry es k v)
      ]

  -- to insert an entry is to put its bytes under its name
  pub texts_of-insert : (es : List (String Y × Vec ℕ Z)) (k : String Y) (v : Vec ℕ Z) → texts_of (insert_entry string_cmp es k v) ≡ with_text (texts_of es) (string_bytes k) v.items
  texts_of-insert es k v =
      same_map nat_list_cmp_total (slice_cmp-IsAntisymmetric nat_cmp-IsAntisymmetric) _ _ (λ q.
      get-from_entries nat_list_cmp_total (map entry_text (insert_entry string_cmp es k v)) q
      ∙ ap (find bytes_cmp q) (map-insert_entry es k v)
      ∙ find-put bytes_cmp nat_list_cmp_total q (string_bytes k) v.items (map entry_text es)
      ∙ ap (cond (is_eq (bytes_cmp q (string_bytes k))) (Some v.items)) (sym (get-from_entries nat_list_cmp_total (map entry_text es) q))
      ∙ sym (get-insert nat_list_cmp_total (texts_of es) (string_bytes k) v.items q))
