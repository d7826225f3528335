-- Numbers that the machine holds, and the nearest one to a number.
use Rattle.std.proofs.Common.{◌≡◌, arith}
use Rattle.std.specs.Prelude.{ℤ}
use Rattle.std.proofs.lemmas.Int.{ints, clamps}
use Rattle.tis_base.specs.Saturation.{sat, IsValue}

-- the nearest one is held
pub sat_is_value : (n : ℤ) → IsValue (sat n)
sat_is_value n = (omega (arith, ints, clamps), omega (arith, ints, clamps))

-- a number that is held is the nearest one to itself
pub sat_value : (n : ℤ) → IsValue n → sat n ≡ n
sat_value n is = omega (arith, ints, clamps)
