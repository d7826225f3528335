-- Borders of tables, as they are kept.
use Rattle.std.proofs.Common.{◌≡◌, ℕ, zero, suc, ◌+◌, ◌-◌, ◌<◌, ◌≤◌, Bool, true, false, cond, ℤ, [], refl, sym, ap, subst, ◌∙◌, arith, nat_eq, pos, negsuc, true≢false}
use Rattle.std.specs.Prelude.{nat_lt}
use Rattle.std.specs.Ordering.{int_eq}
use Rattle.std.proofs.lemmas.Bool.Decides.{Decides-eqb, Decides-int_eq, Decides-ltb, nat_tests}
use Rattle.lua_machine.specs.Value.{is_nil}
use Rattle.lua_machine.specs.Tables.{border, place_of, run_from}
use Rattle.lua_store.specs.declared.value.SmallValue.{SmallValue}
use Rattle.lua_store.specs.declared.value.SmallValue.TheVariants as small
use Rattle.lua_store.specs.declared.value.Key.{Key}
use Rattle.lua_store.specs.declared.value.Key.TheVariants as key
use Rattle.lua_store.specs.Values.{Texts, meant, meant_key, same_key}
use Rattle.lua_store.specs.Rows.{Cells, Entries, IsBorder, IsPutAt, held_in, is_free, is_nothing, row_of}
use Rattle.lua_store.proofs.Held.{run_ends, run_goes_on}

isnt : (b : Bool) → (b ≡ true → ⊥) → b ≡ false
isnt true n = absurd (n refl)
isnt false n = refl

-- ---- a value at a key

module _ (value : SmallValue) (old new : Entries) where
  abbrev pub Each : Key → Type 0
  Each k = (q : Key) → held_in new q ≡ cond (same_key k q) value (held_in old q)

  others : (k : Key) → Each k → (n : ℕ) → same_key k (key.Number (pos n)) ≡ false → is_free new n ≡ is_free old n
  others k each n differs = ap is_nothing (each (key.Number (pos n)) ∙ ap (λ b. cond b value (held_in old (key.Number (pos n)))) differs)

  number_differs : (m n : ℕ) → (n ≡ m → ⊥) → int_eq (pos m) (pos n) ≡ false
  number_differs m n apart = isnt _ (λ same. apart (sym (is_pos (pos m) (pos n) ((Decides-int_eq (pos m) (pos n)).0 same))))
    where
      value_in : ℤ → ℕ
      value_in (pos n) = n
      value_in (negsuc n) = 0

      is_pos : (x y : ℤ) → x ≡ y → value_in x ≡ value_in y
      is_pos x y e = ap value_in e

  pub put_among : (k : Key) → Each k → IsPutAt (place_of (meant_key [] k)) (is_nothing value) old new
  put_among (key.Truth b) each = (λ h. absurd (omega (arith, h)), λ n apart. others (key.Truth b) each n refl)
  put_among (key.Text at) each = (λ h. absurd (omega (arith, h)), λ n apart. others (key.Text at) each n refl)
  put_among (key.Number (negsuc m)) each = (λ h. absurd (omega (arith, h)), λ n apart. others (key.Number (negsuc m)) each n (isnt _ (λ same. let wrong = (Decides-int_eq (negsuc m) (pos n)).0 same in cc)))
  put_among (key.Number (pos m)) each = (
    λ h. ap is_nothing (each (key.Number (pos m)) ∙ ap (λ b. cond b value (held_in old (key.Number (pos m)))) ((Decides-int_eq (pos m) (pos m)).1 refl)),
    λ n apart. others (key.Number (pos m)) each n (number_differs m n apart),
  )

-- ---- where the border goes

module _ (old new : Entries) (before last border at : ℕ) (none : Bool) (more : before ≤ last) (bordered : IsBorder old before border) (put : IsPutAt at none old new) (inside : at ≤ last) where
  above : (k : ℕ) → last < k → is_free new k ≡ true
  above k h = put.1 k (λ same. omega (arith, same, h, inside)) ∙ bordered.above k (omega (arith, h, more))

  -- what was there is there, but for the place
  stays : (k : ℕ) → k < border → (k + 1 ≡ at → ⊥) → is_free new (k + 1) ≡ false
  stays k h apart = put.1 (k + 1) apart ∙ bordered.there k h

  ends_there : (border + 1 ≡ at → ⊥) → is_free new (border + 1) ≡ true
  ends_there apart = put.1 (border + 1) apart ∙ bordered.ends

  -- nothing is put
  module _ (is : none ≡ true) where
    gone : 0 < at → is_free new at ≡ true
    gone h = put.0 h ∙ is

    border_falls : (result : ℕ) → 0 < at → at ≤ border → result + 1 ≡ at → IsBorder new last result
    border_falls result low high e = record {
      there = λ k h. stays k (omega (arith, h, e, high)) (λ same. omega (arith, same, h, e));
      ends = ap (is_free new) e ∙ gone low;
      above = above;
      within = omega (arith, e, inside);
    }

    border_stays : at ≡ 0 → IsBorder new last border
    border_stays none_is = record {
      there = λ k h. stays k h (λ same. omega (arith, same, none_is));
      ends = ends_there (λ same. omega (arith, same, none_is));
      above = above;
      within = omega (arith, bordered.within, more);
    }

    border_is_past : border < at → IsBorder new last border
    border_is_past past = record {
      there = λ k h. stays k h (λ same. omega (arith, same, h, past));
      ends = by (nat_eq (border + 1) at) refl;
      above = above;
      within = omega (arith, bordered.within, more);
    }
      where
        by : (b : Bool) → nat_eq (border + 1) at ≡ b → is_free new (border + 1) ≡ true
        by true e = ap (is_free new) ((Decides-eqb (border + 1) at).0 e) ∙ gone (omega (arith, past))
        by false e = ends_there (λ same. true≢false (sym ((Decides-eqb (border + 1) at).1 same) ∙ e))

    pub falls : (result : ℕ) → (0 < at → at ≤ border → result + 1 ≡ at) → (border < at → result ≡ border) → (at ≡ 0 → result ≡ border) → IsBorder new last result
    falls result within past none_at = by (nat_eq at 0) refl (nat_lt border at) refl
      where
        by : (a : Bool) → nat_eq at 0 ≡ a → (b : Bool) → nat_lt border at ≡ b → IsBorder new last result
        by true e b f =
            let first = (Decides-eqb at 0).0 e in
            subst (IsBorder new last) (sym (none_at first)) (border_stays first)
        by false e true f =
            let behind = (Decides-ltb border at).0 f in
            subst (IsBorder new last) (sym (past behind)) (border_is_past behind)
        by false e false f =
            let low : 0 < at = grind (arith, nat_tests, e) in
            let high : at ≤ border = grind (arith, nat_tests, f) in
            border_falls result low high (within low high)

  -- something is put
  module _ (is : none ≡ false) where
    filled : 0 < at → is_free new at ≡ false
    filled h = put.0 h ∙ is

    still : (k : ℕ) → k < border → is_free new (k + 1) ≡ false
    still k h = by (nat_eq (k + 1) at) refl
      where
        by : (b : Bool) → nat_eq (k + 1) at ≡ b → is_free new (k + 1) ≡ false
        by true e =
            let same = (Decides-eqb (k + 1) at).0 e in
            ap (is_free new) same ∙ filled (omega (arith, same))
        by false e = stays k h (λ same. true≢false (sym ((Decides-eqb (k + 1) at).1 same) ∙ e))

    pub keeps : (at ≡ border + 1 → ⊥) → IsBorder new last border
    keeps apart = record {
      there = still;
      ends = ends_there (λ same. apart (sym same));
      above = above;
      within = omega (arith, bordered.within, more);
    }

    pub rises : at ≡ border + 1 → (result : ℕ) → at ≤ result → result ≤ last → ((k : ℕ) → at ≤ k → k < result → is_free new (k + 1) ≡ false) → (result < last → is_free new (result + 1) ≡ true) → IsBorder new last result
    rises e result low high there ends = record {
      there = λ k h. by k h (nat_lt k border) refl (nat_eq k border) refl;
      ends = last_or (nat_lt result last) refl;
      above = above;
      within = high;
    }
      where
        by : (k : ℕ) → k < result → (a : Bool) → nat_lt k border ≡ a → (b : Bool) → nat_eq k border ≡ b → is_free new (k + 1) ≡ false
        by k h true f b g = still k ((Decides-ltb k border).0 f)
        by k h false f true g =
            let same : k + 1 ≡ at = omega (arith, e, (Decides-eqb k border).0 g) in
            ap (is_free new) same ∙ filled (omega (arith, e))
        by k h false f false g =
            let past : border ≤ k = grind (arith, nat_tests, f) in
            let apart : k ≡ border → ⊥ = λ same. true≢false (sym ((Decides-eqb k border).1 same) ∙ g) in
            there k (grind (arith, e, past, apart)) h

        last_or : (b : Bool) → nat_lt result last ≡ b → is_free new (result + 1) ≡ true
        last_or true f = ends ((Decides-ltb result last).0 f)
        last_or false f =
            let past : last ≤ result = grind (arith, nat_tests, f) in
            above (result + 1) (omega (arith, past))

-- ---- a border that is kept is the border

nothing_is : (texts : Texts) (value : SmallValue) → is_nil (meant texts value) ≡ is_nothing value
nothing_is texts small.Nil = refl
nothing_is texts (small.Truth b) = refl
nothing_is texts (small.Number n) = refl
nothing_is texts (small.Text at) = refl
nothing_is texts (small.Table at) = refl

run_is : (texts : Texts) (cells : Cells) (n most first : ℕ) → n ≤ most → ((k : ℕ) → k < n → is_free cells.entries (first + k) ≡ false) → is_free cells.entries (first + n) ≡ true → run_from most (row_of texts cells) first ≡ n
run_is texts cells zero most first le there ends =
    let same : first ≡ first + 0 = omega arith in
    run_ends most (row_of texts cells) first (nothing_is texts (held_in cells.entries (key.Number (pos first))) ∙ ap (is_free cells.entries) same ∙ ends)
run_is texts cells (suc n) most first le there ends =
    let same : first ≡ first + 0 = omega arith in
    let one_less : most ≡ suc (most - 1) = omega (arith, le) in
    run_goes_on most (most - 1) (row_of texts cells) first one_less (nothing_is texts (held_in cells.entries (key.Number (pos first))) ∙ ap (is_free cells.entries) same ∙ there 0 (omega arith))
    ∙ ap suc (run_is texts cells n (most - 1) (first + 1) (omega (arith, le)) (λ k h. let next : first + 1 + k ≡ first + suc k = omega arith in ap (is_free cells.entries) next ∙ there (suc k) (omega (arith, h))) (let next : first + 1 + n ≡ first + suc n = omega arith in ap (is_free cells.entries) next ∙ ends))

pub border_is : (texts : Texts) (cells : Cells) (n : ℕ) → IsBorder cells.entries cells.last n → n ≡ border (row_of texts cells)
border_is texts cells n is =
    sym (run_is texts cells n cells.last 1 is.within (λ k h. let same : 1 + k ≡ k + 1 = omega arith in ap (is_free cells.entries) same ∙ is.there k h) (let same : 1 + n ≡ n + 1 = omega arith in ap (is_free cells.entries) same ∙ is.ends))

-- a table without keys
pub no_border : (entries : Entries) → ((n : ℕ) → is_free entries n ≡ true) → IsBorder entries 0 0
no_border entries free = record { there = λ k h. absurd (omega (arith, h)); ends = free (0 + 1); above = λ k h. free k; within = omega arith }

-- one more is there
pub one_more : (entries : Entries) (from n : ℕ) → ((k : ℕ) → from ≤ k → k < n → is_free entries (k + 1) ≡ false) → is_free entries (n + 1) ≡ false → (k : ℕ) → from ≤ k → k < n + 1 → is_free entries (k + 1) ≡ false
one_more entries from n there this k low h = by (nat_eq k n) refl
  where
    by : (b : Bool) → nat_eq k n ≡ b → is_free entries (k + 1) ≡ false
    by true e = ap (λ m. is_free entries (m + 1)) ((Decides-eqb k n).0 e) ∙ this
    by false e =
        let apart : k ≡ n → ⊥ = λ same. true≢false (sym ((Decides-eqb k n).1 same) ∙ e) in
        there k low (grind (arith, h, apart))
