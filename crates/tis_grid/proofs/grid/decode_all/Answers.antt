-- A list of twelve is its elements, one after the other.
use Rattle.std.proofs.Common.{◌≡◌, ℕ, zero, suc, ◌*◌, List, [], ◌∷◌, length, get_or, refl, sym, ap, ◌∙◌, arith}
use Rattle.tis_base.specs.Tiles.{Tiles}
use Rattle.tis_grid.proofs.grid.decode_all.Goals as goal

-- so many numbers from 0 on, and what stands there
abbrev elements : {X : Type 0} → ℕ → (ℕ → X) → List X
elements zero at = []
elements (suc count) at = at 0 ∷ elements count (λ k. at (suc k))

elements_are : {X : Type 0} (xs : List X) (default : X) (count : ℕ) → length xs ≡ count → elements count (λ k. get_or xs k default) ≡ xs
elements_are [] default zero is = refl
elements_are [] default (suc count) is = absurd cc
elements_are (x ∷ xs) default zero is = absurd cc
elements_are {X} (x ∷ xs) default (suc count) is = ap (λ (rest : List X). x ∷ rest) (elements_are xs default count (omega arith))

pub returns : goal.returns
returns c =
    let programs = c.args.programs.now.programs in
    let tiles = c.shape.ensures.tiles in
    let full : length c.args.programs.now.tiles.kinds ≡ 12 = ap (λ (t : Tiles). length t.kinds) (sym c.tiles.ensures.tiles) ∙ tiles.filled ∙ (λ i. tiles.allowed.0 i * tiles.allowed.1 i) in
    let all : length programs ≡ 12 = c.tiles.ensures.programs.one_each ∙ full in
    let each = elements_are programs [] 12 all in
    cc
