-- The first element by line that passes a test has the least line of those that pass.
use Rattle.std.proofs.Common.{◌≡◌, ◌≤◌, ℕ, Bool, true, false, cond, List, [], ◌∷◌, refl, sym, ap, ◌∙◌, arith, nat_le}
use Rattle.std.specs.Prelude.{Option, Some, None}
use Rattle.std.proofs.lemmas.Bool.Decides.{nat_tests}
use Rattle.net_rules.specs.Rules.{placed_by, by_line}
use Rattle.net_rules.specs.Loops.{lesser}

-- a line, where there is one, is at least this one
abbrev IsFrom : ℕ → Option ℕ → Type 0
IsFrom n None = Unit {0}
IsFrom n (Some m) = n ≤ m

lesser_first : (n : ℕ) (o : Option ℕ) → IsFrom n o → lesser (Some n) o ≡ Some n
lesser_first n None from = refl
lesser_first n (Some m) from = ap (λ (k : ℕ). Some k) (omega (arith, from))

lesser_second : (n m : ℕ) → m ≤ n → lesser (Some n) (Some m) ≡ Some m
lesser_second n m small = ap (λ (k : ℕ). Some k) (omega (arith, small))

pub is_small : (a b : ℕ) → nat_le a b ≡ true → a ≤ b
is_small a b is = grind (arith, nat_tests)

pub is_large : (a b : ℕ) → nat_le a b ≡ false → b ≤ a
is_large a b is = grind (arith, nat_tests)

module _ {X : Type 0} (line : X → ℕ) where
  -- no line is smaller than this one
  abbrev pub AtLeast : ℕ → List X → Type 0
  AtLeast n [] = Unit {0}
  AtLeast n (x ∷ xs) = (n ≤ line x) × AtLeast n xs

  abbrev pub Ascends : List X → Type 0
  Ascends [] = Unit {0}
  Ascends (x ∷ xs) = AtLeast (line x) xs × Ascends xs

  weaker : (n m : ℕ) (xs : List X) → n ≤ m → AtLeast m xs → AtLeast n xs
  weaker n m [] small are = tt
  weaker n m (x ∷ xs) small are = (omega (arith, small, are.0), weaker n m xs small are.1)

  placed_least : (n : ℕ) (x : X) (xs : List X) → n ≤ line x → AtLeast n xs → AtLeast n (placed_by line x xs)
  placed_least n x [] small are = (small, tt)
  placed_least n x (next ∷ rest) small are = by (nat_le (line x) (line next)) (placed_least n x rest small are.1)
    where
      by : (b : Bool) → AtLeast n (placed_by line x rest) → AtLeast n (cond b (x ∷ next ∷ rest) (next ∷ placed_by line x rest))
      by true more = (small, are)
      by false more = (are.0, more)

  placed_ascends : (x : X) (xs : List X) → Ascends xs → Ascends (placed_by line x xs)
  placed_ascends x [] are = (tt, tt)
  placed_ascends x (next ∷ rest) are = by (nat_le (line x) (line next)) refl (placed_ascends x rest are.1)
    where
      by : (b : Bool) → nat_le (line x) (line next) ≡ b → Ascends (placed_by line x rest) → Ascends (cond b (x ∷ next ∷ rest) (next ∷ placed_by line x rest))
      by true is more = let small = is_small (line x) (line next) is in ((small, weaker (line x) (line next) rest small are.0), are)
      by false is more = (placed_least (line next) x rest (is_large (line x) (line next) is) are.0, more)

  pub line_ascends : (xs : List X) → Ascends (by_line line xs)
  line_ascends [] = tt
  line_ascends (x ∷ xs) = placed_ascends x (by_line line xs) (line_ascends xs)

module _ {X : Type 0} (line : X → ℕ) (test : X → Bool) where
  -- the line of the first that passes
  abbrev pub first_line : List X → Option ℕ
  first_line [] = None
  first_line (x ∷ xs) = cond (test x) (Some (line x)) (first_line xs)

  -- the least line of those that pass
  abbrev pub least_line : List X → Option ℕ
  least_line [] = None
  least_line (x ∷ xs) = lesser (cond (test x) (Some (line x)) None) (least_line xs)

  first_from : (n : ℕ) (xs : List X) → AtLeast line n xs → IsFrom n (first_line xs)
  first_from n [] are = tt
  first_from n (x ∷ xs) are = by (test x) (first_from n xs are.1)
    where
      by : (b : Bool) → IsFrom n (first_line xs) → IsFrom n (cond b (Some (line x)) (first_line xs))
      by true more = are.0
      by false more = more

  -- an element that is put in its place counts by its line
  first_placed : (x : X) (xs : List X) → Ascends line xs → first_line (placed_by line x xs) ≡ lesser (cond (test x) (Some (line x)) None) (first_line xs)
  first_placed x [] are = by (test x)
    where
      by : (b : Bool) → cond b (Some (line x)) None ≡ lesser (cond b (Some (line x)) None) None
      by true = refl
      by false = refl
  first_placed x (next ∷ rest) are = by (nat_le (line x) (line next)) refl (first_placed x rest are.1)
    where
      -- it stands before all others
      before : (b : Bool) → IsFrom (line x) (first_line (next ∷ rest)) → cond b (Some (line x)) (first_line (next ∷ rest)) ≡ lesser (cond b (Some (line x)) None) (first_line (next ∷ rest))
      before true from = sym (lesser_first (line x) (first_line (next ∷ rest)) from)
      before false from = refl

      -- it stands behind the first
      behind : (a b : Bool) → line next ≤ line x → first_line (placed_by line x rest) ≡ lesser (cond b (Some (line x)) None) (first_line rest) → cond a (Some (line next)) (first_line (placed_by line x rest)) ≡ lesser (cond b (Some (line x)) None) (cond a (Some (line next)) (first_line rest))
      behind true true small more = sym (lesser_second (line x) (line next) small)
      behind true false small more = refl
      behind false b small more = more

      by : (b : Bool) → nat_le (line x) (line next) ≡ b → first_line (placed_by line x rest) ≡ lesser (cond (test x) (Some (line x)) None) (first_line rest) → first_line (cond b (x ∷ next ∷ rest) (next ∷ placed_by line x rest)) ≡ lesser (cond (test x) (Some (line x)) None) (first_line (next ∷ rest))
      by true is more = let small = is_small (line x) (line next) is in before (test x) (first_from (line x) (next ∷ rest) (small, weaker line (line x) (line next) rest small are.0))
      by false is more = behind (test next) (test x) (is_large (line x) (line next) is) more

  -- the first by line is the one with the least line
  pub first_is_least : (xs : List X) → first_line (by_line line xs) ≡ least_line xs
  first_is_least [] = refl
  first_is_least (x ∷ xs) = first_placed x (by_line line xs) (line_ascends line xs) ∙ ap (lesser (cond (test x) (Some (line x)) None)) (first_is_least xs)
