-- Tests of the elements of a list.
use Rattle.std.proofs.Common.{◌≡◌, Bool, true, false, List, [], ◌∷◌, inl, inr, refl, ap, ◌∙◌}
use Rattle.std.specs.Prelude.{◌||◌, ◌&&◌}
use Rattle.std.specs.List.{list_any}
use Rattle.net_rules.proofs.SureBodies.{IsIn}

or_true : (b : Bool) → (b || true) ≡ true
or_true true = refl
or_true false = refl

pub any_true : {X : Type 0} (test : X → Bool) (xs : List X) (x : X) → IsIn x xs → test x ≡ true → list_any test xs ≡ true
any_true test [] x is passes = absurd is
any_true test (y ∷ xs) x (inl same) passes = ap (λ z. test z || list_any test xs) same ∙ ap (λ b. b || list_any test xs) passes
any_true test (y ∷ xs) x (inr later) passes = ap (λ b. test y || b) (any_true test xs x later passes) ∙ or_true (test y)

pub same_in : {X : Type 0} (one other : X → Bool) (xs : List X) → ((x : X) → IsIn x xs → one x ≡ other x) → list_any one xs ≡ list_any other xs
same_in one other [] same = refl
same_in one other (x ∷ xs) same = ap (λ b. b || list_any one xs) (same x (inl refl)) ∙ ap (λ b. other x || b) (same_in one other xs (λ y is. same y (inr is)))

pub none_in : {X : Type 0} (test : X → Bool) (xs : List X) → ((x : X) → IsIn x xs → test x ≡ false) → list_any test xs ≡ false
none_in test [] fails = refl
none_in test (x ∷ xs) fails = ap (λ b. b || list_any test xs) (fails x (inl refl)) ∙ none_in test xs (λ y is. fails y (inr is))

-- a test that doesn't depend on the element
pub and_fixed : {X : Type 0} (test : X → Bool) (fixed : Bool) (xs : List X) → list_any (λ x. test x && fixed) xs ≡ (list_any test xs && fixed)
and_fixed test fixed [] = refl
and_fixed test fixed (x ∷ xs) = ap (λ b. (test x && fixed) || b) (and_fixed test fixed xs) ∙ by (test x) (list_any test xs) fixed
  where
    by : (a b c : Bool) → ((a && c) || (b && c)) ≡ ((a || b) && c)
    by true true true = refl
    by true true false = refl
    by true false true = refl
    by true false false = refl
    by false b c = refl
