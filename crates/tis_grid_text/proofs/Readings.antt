-- Lines of a grid's text that are read.
use Rattle.std.proofs.Common.{◌≡◌, ℕ, pos, List, [], ◌∷◌, ◌++◌, length, replicate, get_or, Option, Some, None, refl, ap, ◌∙◌, arith}
use Rattle.std.specs.Prelude.{IsSome, IfSome}
use Rattle.tis_base.specs.Tiles.{Tiles}
use Rattle.tis_base.specs.declared.tiles.TileKind.{TileKind}
use Rattle.tis_grid_text.specs.GridText.{black}

-- so many black points
pub black_is : (count : ℕ) → count ≡ 540 → replicate count (pos 0) ≡ black
unfolding black
black_is count is = ap (λ (n : ℕ). replicate n (pos 0)) is

-- a list of four elements
pub four : {X : Type 0} → (xs : List X) (a b c d : X) → length xs ≡ 4 → get_or xs 0 a ∷ get_or xs 1 b ∷ get_or xs 2 c ∷ get_or xs 3 d ∷ [] ≡ xs
four [] a b c d is = absurd (omega arith)
four (w ∷ []) a b c d is = absurd (omega arith)
four (w ∷ x ∷ []) a b c d is = absurd (omega arith)
four (w ∷ x ∷ y ∷ []) a b c d is = absurd (omega arith)
four (w ∷ x ∷ y ∷ z ∷ []) a b c d is = refl
four (w ∷ x ∷ y ∷ z ∷ v ∷ more) a b c d is = absurd (omega arith)

-- something that is there and is this
pub some_of : {X : Type 0} → (o : Option X) (x : X) → IsSome o → IfSome o (λ y. y ≡ x) → o ≡ Some x
some_of None x there is = absurd cc
some_of (Some y) x there is = ap Some is

-- the tiles with these kinds
abbrev tiles_of : List TileKind → Tiles
tiles_of kinds = record { shape = record { columns = 4; rows = 3 }; kinds = kinds }

-- the tiles of three rows
pub three_rows : (o : Option Tiles) (a b c : List TileKind) (a0 a1 a2 a3 b0 b1 b2 b3 c0 c1 c2 c3 : TileKind) →
    a0 ∷ a1 ∷ a2 ∷ a3 ∷ [] ≡ a → b0 ∷ b1 ∷ b2 ∷ b3 ∷ [] ≡ b → c0 ∷ c1 ∷ c2 ∷ c3 ∷ [] ≡ c → IsSome o →
    IfSome o (λ t. t ≡ record { shape = record { columns = 4; rows = 3 }; kinds = a0 ∷ a1 ∷ a2 ∷ a3 ∷ b0 ∷ b1 ∷ b2 ∷ b3 ∷ c0 ∷ c1 ∷ c2 ∷ c3 ∷ [] }) →
    o ≡ Some (record { shape = record { columns = 4; rows = 3 }; kinds = (a ++ b) ++ c })
three_rows o a b c a0 a1 a2 a3 b0 b1 b2 b3 c0 c1 c2 c3 a-is b-is c-is there is =
    some_of o (record { shape = record { columns = 4; rows = 3 }; kinds = a0 ∷ a1 ∷ a2 ∷ a3 ∷ b0 ∷ b1 ∷ b2 ∷ b3 ∷ c0 ∷ c1 ∷ c2 ∷ c3 ∷ [] }) there is
    ∙ ap (λ (k : List TileKind). Some (tiles_of k)) (ap (λ (xs : List TileKind). (xs ++ (b0 ∷ b1 ∷ b2 ∷ b3 ∷ [])) ++ (c0 ∷ c1 ∷ c2 ∷ c3 ∷ [])) a-is ∙ ap (λ (xs : List TileKind). (a ++ xs) ++ (c0 ∷ c1 ∷ c2 ∷ c3 ∷ [])) b-is ∙ ap (λ (xs : List TileKind). (a ++ b) ++ xs) c-is)
