-- Numbers as words, read from left to right.
use Rattle.std.proofs.Common.{◌≡◌, ℕ, suc, ◌+◌, ◌*◌, ◌<◌, true, false, List, [], ◌∷◌, length, refl, arith}
use Rattle.std.specs.Prelude.{Option, Some, None, option_and_then, ◌==◌}
use Rattle.std.proofs.lemmas.Bool.Decides.{nat_tests}
use Rattle.tis_words.specs.Numerals.{digit, spelled_behind, at_most, number_of}

-- no further digit makes a number smaller
pub too_large : (most number : ℕ) (bytes : List ℕ) → most < number → option_and_then (at_most most) (spelled_behind number bytes) ≡ None
too_large most number [] over = grind (arith, nat_tests)
too_large most number (byte ∷ bytes) over = by_digit (digit byte) (λ value. too_large most (number * 10 + value) bytes (omega arith))
  where
    by_digit : (d : Option ℕ) → ((value : ℕ) → option_and_then (at_most most) (spelled_behind (number * 10 + value) bytes) ≡ None) → option_and_then (at_most most) (option_and_then (λ value. spelled_behind (number * 10 + value) bytes) d) ≡ None
    by_digit None more = refl
    by_digit (Some value) more = more value

-- a number that is taken isn't past the bound
past_bound : (most number : ℕ) → at_most most number ≡ None → most < number
past_bound most number past = grind (arith, nat_tests)

pub too_large_by : (most number : ℕ) (bytes : List ℕ) → at_most most number ≡ None → option_and_then (at_most most) (spelled_behind number bytes) ≡ None
too_large_by most number bytes past = too_large most number bytes (past_bound most number past)

pub spelled_by : (most : ℕ) (word : List ℕ) → false ≡ (length word == 0) → number_of most word ≡ option_and_then (at_most most) (spelled_behind 0 word)
unfolding number_of
spelled_by most [] there = absurd cc
spelled_by most (byte ∷ bytes) there = refl

pub unspelled : (most : ℕ) (word : List ℕ) → true ≡ (length word == 0) → number_of most word ≡ None
unfolding number_of
unspelled most [] there = refl
unspelled most (byte ∷ bytes) there = absurd (apart (length bytes) there)
  where
    apart : (n : ℕ) → true ≡ (suc n == 0) → ⊥
    apart n e = grind (arith, nat_tests)
