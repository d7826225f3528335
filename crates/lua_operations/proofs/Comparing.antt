-- Texts byte by byte, and counts as numbers.
use Rattle.std.proofs.Common.{◌≡◌, ℕ, ◌-◌, ◌≤◌, ℤ, Bool, true, false, cond, List, [], ◌∷◌, length, drop, refl, sym, ap, ◌∙◌, arith, Ok, Err}
use Rattle.std.specs.Prelude.{nat_lt, nat_le, nat_abs}
use Rattle.std.proofs.lemmas.List.{drop_all, length-drop}
use Rattle.std.proofs.lemmas.Bool.Decides.{Decides-ltb, nat_tests}
use Rattle.lua_machine.specs.Value.{Number, Fault, OutOfRange}
use Rattle.lua_machine.specs.Operators.{Answer, is_before, greatest, number}

front_of : (b : List ℕ) → is_before [] b ≡ nat_lt 0 (length b)
front_of [] = refl
front_of (y ∷ b) = sym ((Decides-ltb 0 (length (y ∷ b))).1 (omega arith))

shorter : (m n : ℕ) → nat_lt 0 (n - m) ≡ nat_lt m n
shorter m n = grind (arith, nat_tests)

pub whole_front : (a b : List ℕ) (at : ℕ) → length a ≤ at → at ≤ length a → is_before (drop at a) (drop at b) ≡ nat_lt (length a) (length b)
whole_front a b at h k =
    let same : at ≡ length a = omega arith in
    ap (λ front. is_before front (drop at b)) (drop_all at a h) ∙ front_of (drop at b) ∙ ap (nat_lt 0) (length-drop at b ∙ ap (λ n. length b - n) same) ∙ shorter (length a) (length b)

ok_if : (b : Bool) (n m : ℤ) (why : Fault) → (let whole : Answer = Ok (Number n) in whole) ≡ cond b (Ok (Number m)) (Err why) → (let whole : Answer = Ok (Number m) in whole) ≡ Ok (Number n)
ok_if true n m why e = sym e
ok_if false n m why e = cc

-- a number that was taken is that number
pub is_it : (n m : ℤ) → (let whole : Answer = Ok (Number n) in whole) ≡ number 0 m → (let whole : Answer = Ok (Number m) in whole) ≡ Ok (Number n)
is_it n m e = ok_if (nat_le (nat_abs m) greatest) n m (OutOfRange 0) e

pub is_number : (n m : ℤ) → (let whole : Answer = Ok (Number n) in whole) ≡ number 0 m → n ≡ m
is_number n m e = let same = is_it n m e in cc
