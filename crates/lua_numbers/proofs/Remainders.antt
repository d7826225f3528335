-- What is left over, by a divisor of either sign.
use Rattle.std.proofs.Common.{◌≡◌, ℕ, zero, suc, ◌+◌, ◌*◌, ◌/◌, ◌%◌, ◌-◌, ◌<◌, ℤ, pos, negsuc, ◌-ℤ◌, ◌*ℤ◌, neg_ℤ, ◌<ℤ◌, ap, sym, ◌∙◌, arith}
use Rattle.std.specs.Int.{int_div_euclid, int_rem_euclid}
use Rattle.std.proofs.lemmas.Int.{ints}
use Rattle.std.proofs.Math.Nat.{div-add-mod, mod-lt, mul-suc}
use Rattle.std.proofs.Math.IntN.{negsuc-*ℤ-pos, pos-*ℤ-negsuc, neg_ℤ-neg_ℤ}
use Rattle.lua_machine.specs.Operators.{left_over}

-- by a positive divisor
of_natural : (x n q r p : ℕ) → p + r ≡ x → pos x -ℤ pos p ≡ pos r
of_natural x n q r p e = omega (arith, ints)

of_negative : (x n r p : ℕ) → p + r ≡ x → r < suc n → negsuc x -ℤ neg_ℤ (pos (p + suc n)) ≡ pos (suc n - 1 - r)
of_negative x n r p e h = omega (arith, ints)

by_positive : (a : ℤ) (n : ℕ) → a -ℤ (pos (suc n) *ℤ int_div_euclid a (pos (suc n))) ≡ int_rem_euclid a (pos (suc n))
by_positive (pos x) n = of_natural x n (x / suc n) (x % suc n) (suc n * (x / suc n)) (div-add-mod x (suc n))
by_positive (negsuc x) n =
    ap (λ z. negsuc x -ℤ z) (pos-*ℤ-negsuc (suc n) (x / suc n) ∙ ap (λ k. neg_ℤ (pos k)) (mul-suc (suc n) (x / suc n)))
    ∙ of_negative x n (x % suc n) (suc n * (x / suc n)) (div-add-mod x (suc n)) (mod-lt x (omega arith))

-- by a negative one
neg_times : (m : ℕ) (z : ℤ) → negsuc m *ℤ z ≡ neg_ℤ (pos (suc m) *ℤ z)
neg_times m (pos n) = negsuc-*ℤ-pos m n
neg_times m (negsuc n) = sym (ap neg_ℤ (pos-*ℤ-negsuc (suc m) n) ∙ neg_ℤ-neg_ℤ (pos (suc m * suc n)))

turned : (a p r : ℤ) → neg_ℤ a -ℤ p ≡ r → a -ℤ neg_ℤ p ≡ neg_ℤ r
turned a p r e = omega (arith, ints)

by_negative : (a : ℤ) (m : ℕ) → a -ℤ (negsuc m *ℤ int_div_euclid (neg_ℤ a) (pos (suc m))) ≡ neg_ℤ (int_rem_euclid (neg_ℤ a) (pos (suc m)))
by_negative a m =
    ap (λ z. a -ℤ z) (neg_times m (int_div_euclid (neg_ℤ a) (pos (suc m))))
    ∙ turned a (pos (suc m) *ℤ int_div_euclid (neg_ℤ a) (pos (suc m))) (int_rem_euclid (neg_ℤ a) (pos (suc m))) (by_positive (neg_ℤ a) m)

pub left_over_positive : (a b : ℤ) → pos 0 <ℤ b → left_over a b ≡ int_rem_euclid a b
left_over_positive a (pos zero) h = absurd (omega (arith, ints))
left_over_positive a (pos (suc n)) h = by_positive a n
left_over_positive a (negsuc m) h = absurd (omega (arith, ints))

pub left_over_negative : (a b : ℤ) → b <ℤ pos 0 → left_over a b ≡ neg_ℤ (int_rem_euclid (neg_ℤ a) (neg_ℤ b))
left_over_negative a (pos n) h = absurd (omega (arith, ints))
left_over_negative a (negsuc m) h = by_negative a m
