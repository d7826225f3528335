-- Once another text is held, what was held stands for the same.
use Rattle.std.proofs.Common.{◌≡◌, ℕ, suc, ◌+◌, ◌<◌, ◌≤◌, Bool, true, false, cond, not, List, [], ◌∷◌, ◌++◌, length, refl, sym, ap, subst, ◌∙◌, arith, None, Some, nat_eq}
use Rattle.std.specs.Prelude.{nat_lt}
use Rattle.std.specs.Option.{option_map}
use Rattle.std.specs.List.{All, position, position_or_len, prefix_len, list_any}
use Rattle.std.specs.Str.{bytes_eq}
use Rattle.std.proofs.lemmas.Bool.Decides.{Decides-eqb, Decides-ltb, nat_tests}
use Rattle.std.proofs.lemmas.List.{get_or_append_left, length-append}
use Rattle.std.proofs.lemmas.List.Folds.{prefix_len-append}
use Rattle.lua_machine.specs.Value as lua
use Rattle.lua_machine.specs.Value.{LuaValue}
use Rattle.lua_store.specs.declared.value.SmallValue.{SmallValue}
use Rattle.lua_store.specs.declared.value.SmallValue.TheVariants as small
use Rattle.lua_store.specs.declared.value.Key.{Key}
use Rattle.lua_store.specs.declared.value.Key.TheVariants as key
use Rattle.lua_store.specs.Values.{Texts, IsHeld, IsHeldKey, held_key, meant, same_key, with_text}
use Rattle.lua_store.specs.Rows.{AreHeld, Cells, at_found, at_held, held_in, row_of, tables_of}

isnt : (b : Bool) → (b ≡ true → ⊥) → b ≡ false
isnt true n = absurd (n refl)
isnt false n = refl

-- a held value stands for the same
meant_more : (texts : Texts) (bytes : List ℕ) (value : SmallValue) → IsHeld texts value → meant (texts ++ bytes ∷ []) value ≡ meant texts value
meant_more texts bytes small.Nil h = refl
meant_more texts bytes (small.Truth b) h = refl
meant_more texts bytes (small.Number n) h = refl
meant_more texts bytes (small.Text at) h = ap lua.Text (get_or_append_left texts (bytes ∷ []) [] at h)
meant_more texts bytes (small.Table at) h = refl

module _ (texts : Texts) (bytes : List ℕ) (cells : Cells) (held : AreHeld texts cells) where
  -- the place of a text that is found stays, and one that isn't found has nothing at it
  at_text : (test : List ℕ → Bool) → at_found (texts ++ bytes ∷ []) cells (option_map key.Text (position test (texts ++ bytes ∷ []))) ≡ at_found texts cells (option_map key.Text (position test texts))
  at_text test = whole (position_or_len test texts) (position_or_len test (texts ++ bytes ∷ [])) (prefix_len (λ text. not (test text)) (bytes ∷ [])) (prefix_len-append (λ text. not (test text)) texts (bytes ∷ [])) (nat_lt (position_or_len test texts) (length texts)) refl
    where
      found : (at : ℕ) → length texts ≤ at → (b : Bool) → at_found (texts ++ bytes ∷ []) cells (option_map key.Text (cond b (Some at) None)) ≡ lua.Nil
      found at h true = ap (meant (texts ++ bytes ∷ [])) (held.1 at h)
      found at h false = refl

      whole : (first next more : ℕ) → next ≡ cond (nat_eq first (length texts)) (length texts + more) first → (b : Bool) → nat_lt first (length texts) ≡ b →
          at_found (texts ++ bytes ∷ []) cells (option_map key.Text (cond (nat_lt next (length (texts ++ bytes ∷ []))) (Some next) None)) ≡ at_found texts cells (option_map key.Text (cond (nat_lt first (length texts)) (Some first) None))
      whole first next more e true t =
          let less : first < length texts = (Decides-ltb first (length texts)).0 t in
          let differ : nat_eq first (length texts) ≡ false = isnt _ (λ d. omega (arith, less, (Decides-eqb first (length texts)).0 d)) in
          let same : next ≡ first = e ∙ ap (λ c. cond c (length texts + more) first) differ in
          let inside : nat_lt next (length (texts ++ bytes ∷ [])) ≡ true = (Decides-ltb _ _).1 (omega (arith, less, same, length-append texts (bytes ∷ []))) in
          ap (λ c. at_found (texts ++ bytes ∷ []) cells (option_map key.Text (cond c (Some next) None))) inside ∙ ap (λ n. meant (texts ++ bytes ∷ []) (at_held cells (key.Text n))) same
          ∙ meant_more texts bytes (at_held cells (key.Text first)) (held.0 (key.Text first)) ∙ sym (ap (λ c. at_found texts cells (option_map key.Text (cond c (Some first) None))) t)
      whole first next more e false t =
          let past : length texts ≤ first = grind (arith, nat_tests, t) in
          let either : (c : Bool) → length texts ≤ cond c (length texts + more) first = elim [ true ↦ omega arith | false ↦ past ] in
          let outside : length texts ≤ next = subst (λ n. length texts ≤ n) (sym e) (either (nat_eq first (length texts))) in
          found next outside (nat_lt next (length (texts ++ bytes ∷ []))) ∙ sym (ap (λ c. at_found texts cells (option_map key.Text (cond c (Some first) None))) t)

  at_value : (value : LuaValue) → at_found (texts ++ bytes ∷ []) cells (held_key (texts ++ bytes ∷ []) value) ≡ at_found texts cells (held_key texts value)
  at_value lua.Nil = refl
  at_value (lua.Truth b) = meant_more texts bytes (at_held cells (key.Truth b)) (held.0 (key.Truth b))
  at_value (lua.Number n) = meant_more texts bytes (at_held cells (key.Number n)) (held.0 (key.Number n))
  at_value (lua.Text text) = at_text (bytes_eq text)
  at_value (lua.Table at) = refl

  pub grown : row_of (with_text texts bytes) cells ≡ row_of texts cells
  grown = by (list_any (bytes_eq bytes) texts)
    where
      by : (b : Bool) → row_of (cond b texts (texts ++ bytes ∷ [])) cells ≡ row_of texts cells
      by true = refl
      by false = λ j. record { at = λ value. at_value value j; last = cells.last }

  held_more : (value : SmallValue) → IsHeld texts value → IsHeld (texts ++ bytes ∷ []) value
  held_more small.Nil h = tt
  held_more (small.Truth b) h = tt
  held_more (small.Number n) h = tt
  held_more (small.Text at) h = omega (arith, h, length-append texts (bytes ∷ []))
  held_more (small.Table at) h = tt

  pub still_held : AreHeld (with_text texts bytes) cells
  still_held = by (list_any (bytes_eq bytes) texts)
    where
      by : (b : Bool) → AreHeld (cond b texts (texts ++ bytes ∷ [])) cells
      by true = held
      by false = (λ k. held_more (at_held cells k) (held.0 k), λ at h. held.1 at (omega (arith, h, length-append texts (bytes ∷ []))))

-- a held value that is put at a held key leaves all held
isnt_it : (texts : Texts) (k : Key) (at : ℕ) → IsHeldKey texts k → length texts ≤ at → same_key k (key.Text at) ≡ false
isnt_it texts (key.Truth b) at h past = refl
isnt_it texts (key.Number n) at h past = refl
isnt_it texts (key.Text i) at h past = isnt _ (λ d. omega (arith, h, past, (Decides-eqb i at).0 d))

pub held_put : (texts : Texts) (k : Key) (value : SmallValue) (old new : Cells) → ((q : Key) → held_in new.entries q ≡ cond (same_key k q) value (held_in old.entries q)) → AreHeld texts old → IsHeldKey texts k → IsHeld texts value → AreHeld texts new
held_put texts k value old new each held its whose =
    (λ q. subst (IsHeld texts) (sym (each q)) (by (same_key k q) (held_in old.entries q) (held.0 q)), λ at past. each (key.Text at) ∙ ap (λ b. cond b value (at_held old (key.Text at))) (isnt_it texts k at its past) ∙ held.1 at past)
  where
    by : (b : Bool) (other : SmallValue) → IsHeld texts other → IsHeld texts (cond b value other)
    by true other h = whose
    by false other h = h

-- and so do many tables
pub tables_grown : (texts : Texts) (bytes : List ℕ) (rows : List Cells) → All (AreHeld texts) rows → tables_of (with_text texts bytes) rows ≡ tables_of texts rows
tables_grown texts bytes [] held = refl
tables_grown texts bytes (cells ∷ rows) held =
    let first = grown texts bytes cells (held 0 cells (omega arith)) in
    let others = tables_grown texts bytes rows (λ k d h. held (suc k) d (omega (arith, h))) in
    λ j. first j ∷ others j
