-- The numbers of the machine.
use Rattle.std.specs.Prelude.{ℤ, pos, negsuc, ◌≤ℤ◌}
use Rattle.std.specs.Int.{int_min, int_max}

-- the nearest number that is held: at least -999 and at most 999
abbrev pub sat : ℤ → ℤ
sat n = int_max (negsuc 998) (int_min (pos 999) n)

-- a number that the machine holds
abbrev pub IsValue : ℤ → Type 0
IsValue n = (negsuc 998 ≤ℤ n) × (n ≤ℤ pos 999)
