use Rattle.std.proofs.Common.{◌<◌, sym, ap, ◌∙◌, arith}
use Rattle.std.specs.Prelude.{◌==◌}
use Rattle.std.specs.Int.{w32}
use Rattle.std.proofs.lemmas.Nat.Bits.{bit_at_set_same, bit_at_set_other, bit_at_clear_same, bit_at_clear_other}
use Rattle.tis_grid.proofs.TileSets.{set_below}
use Rattle.tis_grid.proofs.tile_set.with_bit.Goals as goal

pub returns-then-is_in-clause-below : goal.returns-then-is_in-clause-below
returns-then-is_in-clause-below c = λ below. set_below c.args.bits c.args.number c.requires below

pub returns-then-is_in-clause-here : goal.returns-then-is_in-clause-here
returns-then-is_in-clause-here c = ap (λ n. n == 1) (bit_at_set_same w32 c.args.bits c.args.number (omega (arith, c.requires))) ∙ sym c.if-is_in.true

pub returns-then-is_in-clause-others : goal.returns-then-is_in-clause-others
returns-then-is_in-clause-others c = λ other within is. ap (λ n. n == 1) (bit_at_set_other w32 c.args.bits c.args.number (omega (arith, c.requires)) other is)

pub returns-clause-here : goal.returns-clause-here
returns-clause-here c = ap (λ n. n == 1) (bit_at_clear_same w32 c.args.bits c.args.number (omega (arith, c.requires))) ∙ sym c.if-is_in.false

pub returns-clause-others : goal.returns-clause-others
returns-clause-others c = λ other within is. ap (λ n. n == 1) (bit_at_clear_other w32 c.args.bits c.args.number (omega (arith, c.requires)) other (omega (arith, within)) is)
