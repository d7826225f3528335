-- Digits are read from left to right, and what is past 999 stays there.
use Rattle.std.proofs.Common.{◌≡◌, ℕ, suc, ◌+◌, ◌-◌, ◌*◌, ◌<◌, Bool, true, false, cond, List, [], ◌∷◌, length, drop, get_or, drop-cons, refl, sym, ap, ◌∙◌, arith}
use Rattle.std.specs.Prelude.{Some, None, option_map, min, ◌==◌}
use Rattle.std.proofs.lemmas.Bool.Decides.{nat_tests}
use Rattle.tis_asm.specs.Assembling.{is_digit, digits_number, number_of_digits}
use Rattle.tis_asm.specs.Held.{digit_of}

-- a number past 999 stays there, whatever digits follow
pub capped : (number : ℕ) (digits : List ℕ) → option_map (min 999) (digits_number (min 999 number) digits) ≡ option_map (min 999) (digits_number number digits)
capped number [] = ap (λ (n : ℕ). Some n) (same number)
  where
    same : (n : ℕ) → min 999 (min 999 n) ≡ min 999 n
    same n = omega arith
capped number (byte ∷ digits) = by_digit (is_digit byte) (capped (10 * min 999 number + (byte - 48)) digits) (capped (10 * number + (byte - 48)) digits)
  where
    steps : (n v : ℕ) → min 999 (10 * min 999 n + v) ≡ min 999 (10 * n + v)
    steps n v = omega arith

    by_digit : (b : Bool) → option_map (min 999) (digits_number (min 999 (10 * min 999 number + (byte - 48))) digits) ≡ option_map (min 999) (digits_number (10 * min 999 number + (byte - 48)) digits) → option_map (min 999) (digits_number (min 999 (10 * number + (byte - 48))) digits) ≡ option_map (min 999) (digits_number (10 * number + (byte - 48)) digits) → option_map (min 999) (cond b (digits_number (10 * min 999 number + (byte - 48)) digits) None) ≡ option_map (min 999) (cond b (digits_number (10 * number + (byte - 48)) digits) None)
    by_digit true first second = sym first ∙ ap (λ (n : ℕ). option_map (min 999) (digits_number n digits)) (steps number (byte - 48)) ∙ second
    by_digit false first second = refl

-- the digits begin at 0
pub digits_begin : (digits : List ℕ) → false ≡ (length digits == 0) → number_of_digits digits ≡ digits_number 0 digits
digits_begin [] there = absurd cc
digits_begin (byte ∷ digits) there = refl

-- no digits are no number
pub digits_missing : (digits : List ℕ) → true ≡ (length digits == 0) → number_of_digits digits ≡ None
digits_missing [] there = refl
digits_missing (byte ∷ digits) there = absurd (apart (length digits) there)
  where
    apart : (n : ℕ) → true ≡ (suc n == 0) → ⊥
    apart n e = grind (arith, nat_tests)

-- one digit more
pub digit_more : (digits : List ℕ) (i number next value : ℕ) → i < length digits → digit_of (get_or digits i 0) ≡ Some value → next ≡ min 999 (number * 10 + value) → option_map (min 999) (digits_number number (drop i digits)) ≡ option_map (min 999) (digits_number next (drop (i + 1) digits))
digit_more digits i number next value there is next_is =
    let bytes : drop i digits ≡ get_or digits i 0 ∷ drop (suc i) digits = drop-cons digits i 0 there in
    let one : suc i ≡ i + 1 = omega arith in
    ap (λ (l : List ℕ). option_map (min 999) (digits_number number l)) bytes ∙ by_digit (is_digit (get_or digits i 0)) is
    ∙ sym (capped (number * 10 + value) (drop (suc i) digits)) ∙ ap (λ (n : ℕ). option_map (min 999) (digits_number n (drop (suc i) digits))) (sym next_is) ∙ ap (λ (k : ℕ). option_map (min 999) (digits_number next (drop k digits))) one
  where
    some : (x y : ℕ) → Some x ≡ Some y → x ≡ y
    some x y e = cc

    by_digit : (b : Bool) → cond b (Some (get_or digits i 0 - 48)) None ≡ Some value → option_map (min 999) (cond b (digits_number (10 * number + (get_or digits i 0 - 48)) (drop (suc i) digits)) None) ≡ option_map (min 999) (digits_number (number * 10 + value) (drop (suc i) digits))
    by_digit true found = let same : get_or digits i 0 - 48 ≡ value = some (get_or digits i 0 - 48) value found in let sums : 10 * number + (get_or digits i 0 - 48) ≡ number * 10 + value = omega (arith, same) in ap (λ (n : ℕ). option_map (min 999) (digits_number n (drop (suc i) digits))) sums
    by_digit false found = absurd cc

-- a byte that is no digit
pub digit_wrong : (digits : List ℕ) (i number : ℕ) → i < length digits → digit_of (get_or digits i 0) ≡ None → option_map (min 999) (digits_number number (drop i digits)) ≡ None
digit_wrong digits i number there is =
    let bytes : drop i digits ≡ get_or digits i 0 ∷ drop (suc i) digits = drop-cons digits i 0 there in
    ap (λ (l : List ℕ). option_map (min 999) (digits_number number l)) bytes ∙ by_digit (is_digit (get_or digits i 0)) is
  where
    by_digit : (b : Bool) → cond b (Some (get_or digits i 0 - 48)) None ≡ None → option_map (min 999) (cond b (digits_number (10 * number + (get_or digits i 0 - 48)) (drop (suc i) digits)) None) ≡ None
    by_digit true found = absurd cc
    by_digit false found = refl
