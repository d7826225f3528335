use Rattle.std.proofs.Common.{◌<◌, ℕ, Bool, false, List, ap, subst, ◌∙◌, arith, slice_set}
use Rattle.std.specs.Int.{trailing_zeros, w32}
use Rattle.tis_grid.specs.TileSets.{IsFirst}
use Rattle.tis_grid.proofs.TileSets.{changed, lowest}
use Rattle.tis_grid.proofs.tile_set.TileSet.take_first.Goals as goal

pub returns-clause-first : goal.returns-clause-first
returns-clause-first c =
    let some : 0 < c.self.inside.bits = omega (arith, c.if-self-eq0.false) in
    subst (λ (l : List Bool). IsFirst l (trailing_zeros w32 c.self.inside.bits)) c.self.view_is (lowest c.self.inside.bits some c.self.invariant)

pub returns-clause-others : goal.returns-clause-others
returns-clause-others c =
    let some : 0 < c.self.inside.bits = omega (arith, c.if-self-eq0.false) in
    let first : ℕ = trailing_zeros w32 c.self.inside.bits in
    changed c.self.inside.bits c.without_lowest-self-inside.result first false (lowest c.self.inside.bits some c.self.invariant).within c.without_lowest-self-inside.ensures.here c.without_lowest-self-inside.ensures.others
    ∙ ap (λ (l : List Bool). slice_set l first false) c.self.view_is
