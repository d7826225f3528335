-- A read takes one value from what a process can read.
use Rattle.std.proofs.Common.{◌≡◌, ℕ, zero, suc, ◌+◌, ◌<◌, ◌≤◌, true, cond, Bool, ℤ, List, ◌∷◌, length, inl, inr, refl, sym, ap, subst, ◌∙◌, arith, eq-eqb, ne_eqb}
use Rattle.std.specs.Prelude.{◌==◌, sum_by}
use Rattle.std.specs.List.{range_with_len}
use Rattle.std.proofs.lemmas.Bool.{cases_eq}
use Rattle.std.proofs.lemmas.List.Sums.{sum_by-cons}
use Rattle.net_rules.specs.Process.{Streams, with_stream}

-- how many values stand under a name, where it is one of those that are counted
abbrev pub standing : (ℕ → Bool) → Streams → ℕ → ℕ
standing counted streams name = cond (counted name) (length (streams name)) 0

abbrev pub stand_in : (ℕ → Bool) → Streams → List ℕ → ℕ
stand_in counted streams names = sum_by (standing counted streams) names

module _ (counted : ℕ → Bool) (streams : Streams) (name : ℕ) (value : ℤ) (values : List ℤ) (stands : streams name ≡ value ∷ values) where
  abbrev after : Streams
  after = with_stream streams name values

  -- under another name the same values stand
  other_name : (other : ℕ) → (other ≡ name → ⊥) → standing counted after other ≡ standing counted streams other
  other_name other different = ap (λ b. cond (counted other) (length (cond b values (streams other))) 0) (ne_eqb other name different)

  -- under this one there is one less
  this_name : counted name ≡ true → standing counted streams name ≡ standing counted after name + 1
  this_name is =
      let before : standing counted streams name ≡ length (value ∷ values) = ap (λ b. cond b (length (streams name)) 0) is ∙ ap (λ (l : List ℤ). length l) stands in
      let then : standing counted after name ≡ length values = ap (λ b. cond b (length (cond (name == name) values (streams name))) 0) is ∙ ap (λ b. length (cond b values (streams name))) (eq-eqb name name refl) in
      omega (arith, before, then)

  not_among : (count start : ℕ) → name < start → stand_in counted streams (range_with_len start count) ≡ stand_in counted after (range_with_len start count)
  not_among zero start past = refl
  not_among (suc count) start past =
      omega (
        arith,
        sum_by-cons (standing counted streams) start (range_with_len (start + 1) count),
        sum_by-cons (standing counted after) start (range_with_len (start + 1) count),
        other_name start (λ same. omega (arith, past, same)),
        not_among count (start + 1) (omega (arith, past)),
      )

  pub one_less : counted name ≡ true → (count start : ℕ) → start ≤ name → name < start + count → stand_in counted streams (range_with_len start count) ≡ stand_in counted after (range_with_len start count) + 1
  one_less is zero start from below = absurd (omega (arith, from, below))
  one_less is (suc count) start from below =
      let one = sum_by-cons (standing counted streams) start (range_with_len (start + 1) count) in
      let other = sum_by-cons (standing counted after) start (range_with_len (start + 1) count) in
      elim (cases_eq start name) [
        | inl same ↦
            let here : standing counted streams start ≡ standing counted after start + 1 = subst (λ n. standing counted streams n ≡ standing counted after n + 1) (sym same) (this_name is) in
            omega (arith, one, other, here, not_among count (start + 1) (omega (arith, same)))
        | inr different ↦ omega (arith, one, other, other_name start different, one_less is count (start + 1) (past start different from) (omega (arith, below)))
      ]
    where
      past : (s : ℕ) → (s ≡ name → ⊥) → s ≤ name → s + 1 ≤ name
      past s different within = omega (arith, different, within)
