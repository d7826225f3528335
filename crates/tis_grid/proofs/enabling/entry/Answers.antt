-- The table says of each tile and direction what is next.
use Rattle.std.proofs.Common.{◌≡◌, ℕ, zero, suc, ◌+◌, ◌*◌, ◌<◌, refl, ap, ◌∙◌, arith}
use Rattle.std.specs.Prelude.{[], ◌∷◌, slice_index_or, unwrap_or}
use Rattle.tis_base.specs.Tiles.{neighbour_of}
use Rattle.tis_base.specs.declared.tiles.Dir.{Dir}
use Rattle.tis_base.specs.declared.tiles.Dir.TheVariants.{Left, Right, Up, Down}
use Rattle.tis_grid.specs.HeldChoices.{spot_of}
use Rattle.tis_grid.proofs.enabling.entry.Goals as goal

-- what holds of each of twelve numbers
by_twelve : (P : ℕ → Type 0) → P 0 → P 1 → P 2 → P 3 → P 4 → P 5 → P 6 → P 7 → P 8 → P 9 → P 10 → P 11 → (n : ℕ) → n < 12 → P n
by_twelve P p0 p1 p2 p3 p4 p5 p6 p7 p8 p9 p10 p11 zero below = p0
by_twelve P p0 p1 p2 p3 p4 p5 p6 p7 p8 p9 p10 p11 (suc zero) below = p1
by_twelve P p0 p1 p2 p3 p4 p5 p6 p7 p8 p9 p10 p11 (suc (suc zero)) below = p2
by_twelve P p0 p1 p2 p3 p4 p5 p6 p7 p8 p9 p10 p11 (suc (suc (suc zero))) below = p3
by_twelve P p0 p1 p2 p3 p4 p5 p6 p7 p8 p9 p10 p11 (suc (suc (suc (suc zero)))) below = p4
by_twelve P p0 p1 p2 p3 p4 p5 p6 p7 p8 p9 p10 p11 (suc (suc (suc (suc (suc zero))))) below = p5
by_twelve P p0 p1 p2 p3 p4 p5 p6 p7 p8 p9 p10 p11 (suc (suc (suc (suc (suc (suc zero)))))) below = p6
by_twelve P p0 p1 p2 p3 p4 p5 p6 p7 p8 p9 p10 p11 (suc (suc (suc (suc (suc (suc (suc zero))))))) below = p7
by_twelve P p0 p1 p2 p3 p4 p5 p6 p7 p8 p9 p10 p11 (suc (suc (suc (suc (suc (suc (suc (suc zero)))))))) below = p8
by_twelve P p0 p1 p2 p3 p4 p5 p6 p7 p8 p9 p10 p11 (suc (suc (suc (suc (suc (suc (suc (suc (suc zero))))))))) below = p9
by_twelve P p0 p1 p2 p3 p4 p5 p6 p7 p8 p9 p10 p11 (suc (suc (suc (suc (suc (suc (suc (suc (suc (suc zero)))))))))) below = p10
by_twelve P p0 p1 p2 p3 p4 p5 p6 p7 p8 p9 p10 p11 (suc (suc (suc (suc (suc (suc (suc (suc (suc (suc (suc zero))))))))))) below = p11
by_twelve P p0 p1 p2 p3 p4 p5 p6 p7 p8 p9 p10 p11 (suc (suc (suc (suc (suc (suc (suc (suc (suc (suc (suc (suc n)))))))))))) below = let bad : ⊥ = omega (arith, below) in absurd bad

-- and of each direction
by_four : (P : Dir → Type 0) → P Left → P Right → P Up → P Down → (dir : Dir) → P dir
by_four P left right up down Left = left
by_four P left right up down Right = right
by_four P left right up down Up = up
by_four P left right up down Down = down

abbrev table : ℕ → ℕ
table place =
    slice_index_or (12 ∷ 1 ∷ 12 ∷ 4 ∷ 0 ∷ 2 ∷ 12 ∷ 5 ∷ 1 ∷ 3 ∷ 12 ∷ 6 ∷ 2 ∷ 12 ∷ 12 ∷ 7 ∷ 12 ∷ 5 ∷ 0 ∷ 8 ∷ 4 ∷ 6 ∷ 1 ∷ 9 ∷ 5 ∷ 7 ∷ 2 ∷ 10 ∷ 6 ∷ 12 ∷ 3 ∷ 11 ∷ 12 ∷ 9 ∷ 4 ∷ 12 ∷ 8 ∷ 10 ∷ 5 ∷ 12 ∷ 9 ∷ 11 ∷ 6 ∷ 12 ∷ 10 ∷ 12 ∷ 7 ∷ 12 ∷ []) place 0

abbrev Says : ℕ → Dir → Type 0
Says tile dir = table (spot_of tile dir) ≡ unwrap_or (neighbour_of (record { columns = 4; rows = 3 }) tile dir) 12

says : (tile : ℕ) → tile < 12 → (dir : Dir) → Says tile dir
says tile below = by_twelve (λ t. (dir : Dir) → Says t dir)
    (by_four (Says 0) refl refl refl refl)
    (by_four (Says 1) refl refl refl refl)
    (by_four (Says 2) refl refl refl refl)
    (by_four (Says 3) refl refl refl refl)
    (by_four (Says 4) refl refl refl refl)
    (by_four (Says 5) refl refl refl refl)
    (by_four (Says 6) refl refl refl refl)
    (by_four (Says 7) refl refl refl refl)
    (by_four (Says 8) refl refl refl refl)
    (by_four (Says 9) refl refl refl refl)
    (by_four (Says 10) refl refl refl refl)
    (by_four (Says 11) refl refl refl refl)
    tile below

pub returns : goal.returns
returns c = ap table c.spot.ensures.spot ∙ says c.args.tile.number c.requires c.args.dir
