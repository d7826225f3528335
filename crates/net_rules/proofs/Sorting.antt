-- A stable sort by line gives the elements by line: there is one such order.
use Rattle.std.proofs.Common.{◌≡◌, ◌≤◌, ◌<◌, ℕ, suc, Bool, true, false, cond, List, [], ◌∷◌, length, map, filter, refl, sym, ap, subst, ◌∙◌, arith, nat_le}
use Rattle.std.specs.Prelude.{slice_index_or}
use Rattle.std.specs.Ordering.{is_lt, nat_cmp}
use Rattle.std.specs.List.Sorted.{ties, IsNonDecreasingBy}
use Rattle.std.proofs.lemmas.Bool.Decides.{nat_tests}
use Rattle.net_rules.specs.Rules.{placed_by, by_line}
use Rattle.net_rules.proofs.LineOrder.{AtLeast, Ascends, line_ascends}

module _ {X : Type 0} (line : X → ℕ) where
  -- whether one stands before another by its line
  abbrev pub less : X → X → Bool
  less x y = is_lt (nat_cmp (line x) (line y))

  -- whether two have one line
  abbrev pub tied : X → X → Bool
  tied x = ties less x

  tied_is : (x y : X) → line x ≡ line y → tied x y ≡ true
  tied_is x y same = grind (arith, nat_tests)

  apart : (x y : X) → tied x y ≡ true → line x ≡ line y
  apart x y is = grind (arith, nat_tests)

  small_only : (n : ℕ) (xs : List X) → ((j : ℕ) (d : X) → j < length xs → n ≤ line (slice_index_or xs j d)) → AtLeast line n xs
  small_only n [] all = tt
  small_only n (x ∷ xs) all = (all 0 x (omega arith), small_only n xs (λ j d below. all (suc j) d (omega (arith, below))))

  ascends : (xs : List X) → IsNonDecreasingBy line xs → Ascends line xs
  ascends [] falls = tt
  ascends (x ∷ xs) falls = (small_only (line x) xs (λ j d below. falls 0 (suc j) d (omega arith) (omega (arith, below))), ascends xs (λ i j d within below. falls (suc i) (suc j) d (omega (arith, within)) (omega (arith, below))))

  -- what passes a filter isn't below the rest
  first_kept : (n : ℕ) (test : X → Bool) (xs : List X) (y : X) (ys : List X) → AtLeast line n xs → filter test xs ≡ y ∷ ys → n ≤ line y
  first_kept n test [] y ys are is = absurd cc
  first_kept n test (x ∷ xs) y ys are is =
      elim (test x) as (λ b. cond b (x ∷ filter test xs) (filter test xs) ≡ y ∷ ys → n ≤ line y) [
        | true ↦ λ same. let head : x ≡ y = cc in subst (λ z. n ≤ line z) head are.0
        | false ↦ λ later. first_kept n test xs y ys are.1 later
      ] is

  -- an element that is put in its place stands there among those of its line
  placed_kept : (test : X → Bool) (x : X) (xs : List X) → ((y z : X) → test y ≡ true → test z ≡ true → line y ≡ line z) → filter test (placed_by line x xs) ≡ filter test (x ∷ xs)
  placed_kept test x [] one = refl
  placed_kept test x (next ∷ rest) one =
      elim (nat_le (line x) (line next)) as (λ b. nat_le (line x) (line next) ≡ b → filter test (cond b (x ∷ next ∷ rest) (next ∷ placed_by line x rest)) ≡ filter test (x ∷ next ∷ rest)) [
        | true ↦ λ small. refl
        | false ↦ λ large. behind (test x) (test next) refl refl large (placed_kept test x rest one)
      ] refl
    where
      behind : (a b : Bool) → test x ≡ a → test next ≡ b → nat_le (line x) (line next) ≡ false → filter test (placed_by line x rest) ≡ cond (test x) (x ∷ filter test rest) (filter test rest) →
          cond (test next) (next ∷ filter test (placed_by line x rest)) (filter test (placed_by line x rest)) ≡ cond (test x) (x ∷ cond (test next) (next ∷ filter test rest) (filter test rest)) (cond (test next) (next ∷ filter test rest) (filter test rest))
      behind true true passes_x passes_next large more = absurd (grind (arith, nat_tests, one x next passes_x passes_next))
      behind true false passes_x fails large more = rw (passes_x, fails) (rw passes_x at more)
      behind false true fails passes_next large more = rw (fails, passes_next) (ap (λ l. next ∷ l) (rw fails at more))
      behind false false fails_x fails large more = rw (fails_x, fails) (rw fails_x at more)

  kept_by_line : (y : X) (xs : List X) → filter (tied y) (by_line line xs) ≡ filter (tied y) xs
  kept_by_line y [] = refl
  kept_by_line y (x ∷ xs) =
      placed_kept (tied y) x (by_line line xs) (λ one other first second. sym (apart y one first) ∙ apart y other second)
      ∙ ap (λ l. cond (tied y x) (x ∷ l) l) (kept_by_line y xs)

  -- lists that ascend, and have the same elements of each line in the same order, are the same
  same_order : (xs ys : List X) → Ascends line xs → Ascends line ys → ((z : X) → filter (tied z) xs ≡ filter (tied z) ys) → xs ≡ ys
  same_order [] [] up also kept = refl
  same_order [] (y ∷ ys) up also kept = absurd (no_first (rw (tied_is y y refl) at (kept y)))
    where
      no_first : [] ≡ y ∷ filter (tied y) ys → ⊥
      no_first is = cc
  same_order (x ∷ xs) [] up also kept = absurd (no_first (rw (tied_is x x refl) at (kept x)))
    where
      no_first : x ∷ filter (tied x) xs ≡ [] → ⊥
      no_first is = cc
  same_order (x ∷ xs) (y ∷ ys) up also kept =
      let first : x ≡ y = heads _ _ (ap (λ b. cond b (x ∷ filter (tied x) xs) (filter (tied x) xs)) (sym (tied_is x x refl)) ∙ kept x ∙ ap (λ b. cond b (y ∷ filter (tied x) ys) (filter (tied x) ys)) (tied_is x y same_line)) in
      let rest : xs ≡ ys = same_order xs ys up.1 also.1 (λ z. tails z (tied z x) (tied z y) (ap (tied z) first) (kept z)) in
      ap (λ z. z ∷ xs) first ∙ ap (λ l. y ∷ l) rest
    where
      heads : (us vs : List X) → x ∷ us ≡ y ∷ vs → x ≡ y
      heads us vs is = cc

      below : line x ≤ line y
      below = first_kept (line x) (tied y) (x ∷ xs) y (filter (tied y) ys) (omega arith, up.0) (kept y ∙ ap (λ b. cond b (y ∷ filter (tied y) ys) (filter (tied y) ys)) (tied_is y y refl))

      above : line y ≤ line x
      above = first_kept (line y) (tied x) (y ∷ ys) x (filter (tied x) xs) (omega arith, also.0) (sym (kept x) ∙ ap (λ b. cond b (x ∷ filter (tied x) xs) (filter (tied x) xs)) (tied_is x x refl))

      same_line : line x ≡ line y
      same_line = omega (arith, below, above)

      tails : (z : X) (a b : Bool) → a ≡ b → cond a (x ∷ filter (tied z) xs) (filter (tied z) xs) ≡ cond b (y ∷ filter (tied z) ys) (filter (tied z) ys) → filter (tied z) xs ≡ filter (tied z) ys
      tails z true true same is = cc
      tails z true false same is = absurd cc
      tails z false true same is = absurd cc
      tails z false false same is = is

  -- so what a stable sort gives is the list by line
  pub sorted_is : (xs ys : List X) → IsNonDecreasingBy line ys → ((z : X) → filter (tied z) ys ≡ filter (tied z) xs) → ys ≡ by_line line xs
  sorted_is xs ys sorted stable = same_order ys (by_line line xs) (ascends ys sorted) (line_ascends line xs) (λ z. stable z ∙ sym (kept_by_line z xs))

-- putting elements in order by line, and then looking at them in another way, is the same the other way round
module _ {X Y : Type 0} (line : X → ℕ) (seen : X → Y) (line_seen : Y → ℕ) (same : (x : X) → line_seen (seen x) ≡ line x) where
  placed_seen : (x : X) (xs : List X) → map seen (placed_by line x xs) ≡ placed_by line_seen (seen x) (map seen xs)
  placed_seen x [] = refl
  placed_seen x (next ∷ rest) =
      by (nat_le (line x) (line next)) (placed_seen x rest)
      ∙ ap (λ b. cond b (seen x ∷ seen next ∷ map seen rest) (seen next ∷ placed_by line_seen (seen x) (map seen rest))) (ap (λ n. nat_le n (line next)) (sym (same x)) ∙ ap (λ n. nat_le (line_seen (seen x)) n) (sym (same next)))
    where
      by : (b : Bool) → map seen (placed_by line x rest) ≡ placed_by line_seen (seen x) (map seen rest) → map seen (cond b (x ∷ next ∷ rest) (next ∷ placed_by line x rest)) ≡ cond b (seen x ∷ seen next ∷ map seen rest) (seen next ∷ placed_by line_seen (seen x) (map seen rest))
      by true is = refl
      by false is = ap (λ l. seen next ∷ l) is

  pub by_line_seen : (xs : List X) → map seen (by_line line xs) ≡ by_line line_seen (map seen xs)
  by_line_seen [] = refl
  by_line_seen (x ∷ xs) = placed_seen x (by_line line xs) ∙ ap (placed_by line_seen (seen x)) (by_line_seen xs)
