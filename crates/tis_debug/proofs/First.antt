-- The least number that passes a test, and the first of those in a row.
use Rattle.std.proofs.Common.{◌≡◌, ℕ, zero, suc, ◌+◌, ◌<◌, ◌≤◌, ◌⊎◌, true, false, cond, inl, inr, refl, ap, subst, ◌∙◌, arith}
use Rattle.std.specs.Prelude.{Bool, Some, None}
use Rattle.std.specs.List.{find, range_with_len}
use Rattle.std.proofs.lemmas.Bool.{cases_lt}
use Rattle.tis_debug.specs.Sessions.{first_where}

-- none below it passes, and it passes or is the bound
pub first_is : (test : ℕ → Bool) (bound n : ℕ) → n ≤ bound → ((k : ℕ) → k < n → test k ≡ false) → (n ≡ bound) ⊎ (test n ≡ true) → first_where test bound ≡ n
first_is test zero n within before ends = omega (arith, within)
first_is test (suc bound) zero within before ends =
    elim ends [
      | inl is ↦ absurd (omega (arith, is))
      | inr passes ↦ ap (λ (b : Bool). cond b 0 (suc (first_where (λ n. test (suc n)) bound))) passes
    ]
first_is test (suc bound) (suc n) within before ends =
    ap (λ (b : Bool). cond b 0 (suc (first_where (λ n. test (suc n)) bound))) (before 0 (omega arith))
    ∙ ap suc (first_is (λ n. test (suc n)) bound n (omega (arith, within)) (λ k less. before (suc k) (omega (arith, less)))
    (elim ends [ inl is ↦ inl (omega (arith, is)) | inr passes ↦ inr passes ]))

-- none below it passes: it is no more than the least that does
pub first_least : (test : ℕ → Bool) (bound n : ℕ) → n ≤ bound → ((k : ℕ) → k < n → test k ≡ false) → n ≤ first_where test bound
first_least test zero n within before = within
first_least test (suc bound) zero within before = omega arith
first_least test (suc bound) (suc n) within before =
    let rest = first_least (λ n. test (suc n)) bound n (omega (arith, within)) (λ k less. before (suc k) (omega (arith, less))) in
    let is : first_where test (suc bound) ≡ suc (first_where (λ n. test (suc n)) bound) = ap (λ (b : Bool). cond b 0 (suc (first_where (λ n. test (suc n)) bound))) (before 0 (omega arith)) in
    omega (arith, rest, is)

-- it is no more than the bound
pub first_within : (test : ℕ → Bool) (bound : ℕ) → first_where test bound ≤ bound
first_within test zero = omega arith
first_within test (suc bound) =
    elim (test 0) as (λ b. cond b 0 (suc (first_where (λ n. test (suc n)) bound)) ≤ suc bound) [
      | true ↦ omega arith
      | false ↦ let rest = first_within (λ n. test (suc n)) bound in omega (arith, rest)
    ]

-- the least is the bound, or passes
pub first_ends : (test : ℕ → Bool) (bound : ℕ) → (first_where test bound ≡ bound) ⊎ (test (first_where test bound) ≡ true)
first_ends test zero = inl refl
first_ends test (suc bound) =
    elim (test 0) as (λ b. test 0 ≡ b → (cond b 0 (suc (first_where (λ n. test (suc n)) bound)) ≡ suc bound) ⊎ (test (cond b 0 (suc (first_where (λ n. test (suc n)) bound))) ≡ true)) [
      | true ↦ λ passes. inr passes
      | false ↦ λ fails. elim (first_ends (λ n. test (suc n)) bound) [ inl is ↦ inl (ap suc is) | inr passes ↦ inr passes ]
    ] refl

-- what holds at the first number, and of the others
at_either : (test : ℕ → Bool) (count : ℕ) → test 0 ≡ false → ((n : ℕ) → n < count → test (suc n) ≡ false) → (k : ℕ) → k < suc count → test k ≡ false
at_either test count first others zero below = first
at_either test count first others (suc k) below = others k (omega (arith, below))

-- no lesser number passes
pub first_before : (test : ℕ → Bool) (bound k : ℕ) → k < first_where test bound → test k ≡ false
first_before test zero k less = absurd (omega (arith, less))
first_before test (suc bound) k less =
    elim (test 0) as (λ b. test 0 ≡ b → k < cond b 0 (suc (first_where (λ n. test (suc n)) bound)) → test k ≡ false) [
      | true ↦ λ passes below. absurd (omega (arith, below))
      | false ↦ λ fails below. at_either test (first_where (λ n. test (suc n)) bound) fails (λ n less. first_before (λ n. test (suc n)) bound n less) k below
    ] refl less

-- ---- in a row

-- the first that passes is found
pub found_at : (test : ℕ → Bool) (from count n : ℕ) → from ≤ n → n < from + count → ((k : ℕ) → from ≤ k → k < n → test k ≡ false) → test n ≡ true → find test (range_with_len from count) ≡ Some n
found_at test from zero n past within before passes = absurd (omega (arith, past, within))
found_at test from (suc count) n past within before passes =
    elim (cases_lt from n) [
      | inl later ↦
          ap (λ (b : Bool). cond b (Some from) (find test (range_with_len (from + 1) count))) (before from (omega arith) later)
          ∙ found_at test (from + 1) count n (omega (arith, later)) (omega (arith, within)) (λ k above below. before k (omega (arith, above)) below) passes
      | inr here ↦
          let same : n ≡ from = omega (arith, past, here) in
          ap (λ (b : Bool). cond b (Some from) (find test (range_with_len (from + 1) count))) (subst (λ (m : ℕ). test m ≡ true) same passes)
          ∙ ap (λ (m : ℕ). Some m) (let back : from ≡ n = omega (arith, same) in back)
    ]

-- and none where none passes
pub found_none : (test : ℕ → Bool) (from count : ℕ) → ((k : ℕ) → from ≤ k → k < from + count → test k ≡ false) → find test (range_with_len from count) ≡ None
found_none test from zero fails = refl
found_none test from (suc count) fails =
    ap (λ (b : Bool). cond b (Some from) (find test (range_with_len (from + 1) count))) (fails from (omega arith) (omega arith))
    ∙ found_none test (from + 1) count (λ k above below. fails k (omega (arith, above)) (omega (arith, below)))
