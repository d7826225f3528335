-- Numerals: the held value tells whether the value is too large, and is the value where it isn't.
use Rattle.std.proofs.Common.{◌≡◌, ℕ, ◌+◌, ◌-◌, ◌*◌, ◌<◌, ◌≤◌, min, true, false, List, [], ◌∷◌, fold, refl, arith}
use Rattle.std.specs.Prelude.{nat_le, pos}
use Rattle.lua_tokens.specs.declared.kind.Kind.TheVariants as k
use Rattle.lua_tokens.specs.Tokens.{numeral_value, held_value, greatest, numeral_kind}

held_step : (n b : ℕ) → min (10 * min n 9007199254740993 + b) 9007199254740993 ≡ min (10 * n + b) 9007199254740993
held_step n b = omega arith

held_from : (n : ℕ) (digits : List ℕ) →
    fold (λ n b. min (10 * n + (b - 48)) 9007199254740993) (min n 9007199254740993) digits ≡ min (fold (λ n b. 10 * n + (b - 48)) n digits) 9007199254740993
held_from n [] = refl
held_from n (b ∷ digits) = rw (held_step n (b - 48)) (held_from (10 * n + (b - 48)) digits)

pub held : (digits : List ℕ) → held_value digits ≡ min (numeral_value digits) 9007199254740993
held digits = held_from 0 digits

pub numeral_fits : (digits : List ℕ) → held_value digits < 9007199254740993 → k.Number (pos (held_value digits)) ≡ numeral_kind digits
unfolding numeral_kind
numeral_fits digits small =
    let same : held_value digits ≡ numeral_value digits = omega (arith, held digits) in
    let fits : nat_le (numeral_value digits) greatest ≡ true = grind (arith, held digits) in
    rw (fits, same)

pub numeral_too_large : (digits : List ℕ) → 9007199254740993 ≤ held_value digits → k.Bad ≡ numeral_kind digits
unfolding numeral_kind
numeral_too_large digits large =
    let fits : nat_le (numeral_value digits) greatest ≡ false = grind (arith, held digits) in
    rw fits
