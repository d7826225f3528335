use Rattle.std.proofs.Common.{◌≡◌, ℕ, ◌*◌, ◌≤◌, length, ap, ◌∙◌, subst, sym, arith}
use Rattle.std.proofs.lemmas.List.Sums.{count_by-le-length}
use Rattle.tis_base.specs.Tiles.{Tiles, AreTiles, is_compute}
use Rattle.tis_save.specs.Reading.{compute_count}
use Rattle.tis_save.proofs.read.block_count.Goals as goal

few : (tiles : Tiles) → AreTiles tiles.shape tiles.kinds → compute_count tiles ≤ 48
few tiles are =
    let twelve : length tiles.kinds ≡ 12 = are.filled ∙ ap (λ (columns : ℕ). columns * tiles.shape.rows) are.allowed.0 ∙ ap (λ (rows : ℕ). 4 * rows) are.allowed.1 in
    omega (arith, count_by-le-length is_compute tiles.kinds, twelve)

pub returns-clause-few : goal.returns-clause-few
returns-clause-few c = subst (λ (n : ℕ). n ≤ 48) (sym c.compute_count.ensures) (few c.args.tiles c.shape.ensures.tiles)
