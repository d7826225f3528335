-- A process of a network by its number.
use Rattle.std.proofs.Common.{◌≡◌, ℕ, zero, suc, List, [], ◌∷◌, get_or}
use Rattle.std.specs.Prelude.{Some, slice_get}
use Rattle.net_tree.specs.Tree.{Block}

pub body_is : (processes : List (Block ℕ)) (index : ℕ) (other body : Block ℕ) → slice_get processes index ≡ Some body → get_or processes index other ≡ body
body_is [] index other body is = absurd (nothing index is)
  where
    nothing : (index : ℕ) → slice_get [] index ≡ Some body → ⊥
    nothing zero is = absurd cc
    nothing (suc index) is = absurd cc
body_is (first ∷ others) zero other body is = some first body is
  where
    some : (x y : Block ℕ) → Some x ≡ Some y → x ≡ y
    some x y e = cc
body_is (first ∷ others) (suc index) other body is = body_is others index other body is
