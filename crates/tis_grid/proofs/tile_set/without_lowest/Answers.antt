-- The lowest bit is gone, and no other.
use Rattle.std.proofs.Common.{◌<◌, ◌-◌, ap, arith}
use Rattle.std.specs.Prelude.{◌==◌}
use Rattle.std.specs.Int.{trailing_zeros, w32}
use Rattle.std.proofs.lemmas.Nat.{and_le_l}
use Rattle.std.proofs.lemmas.Nat.Bits.{bit_at-trailing_zeros}
use Rattle.tis_grid.proofs.TileSets.{lowest_off, others_on}
use Rattle.tis_grid.proofs.tile_set.without_lowest.Goals as goal

pub returns-clause-below : goal.returns-clause-below
returns-clause-below c = λ below. let less = and_le_l c.args.bits (c.args.bits - 1) in omega (arith, below, less)

pub returns-clause-here : goal.returns-clause-here
returns-clause-here c =
    let at = bit_at-trailing_zeros w32 c.args.bits c.requires c.ranges.bits.fits in
    ap (λ n. n == 1) (lowest_off c.args.bits (trailing_zeros w32 c.args.bits) at.1 at.2)

pub returns-clause-others : goal.returns-clause-others
returns-clause-others c = λ other within is.
    let at = bit_at-trailing_zeros w32 c.args.bits c.requires c.ranges.bits.fits in
    ap (λ n. n == 1) (others_on c.args.bits (trailing_zeros w32 c.args.bits) at.1 at.2 other is)
