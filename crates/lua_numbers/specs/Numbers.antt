-- Numbers as answers of the machine.
use Rattle.std.specs.Prelude.{ℤ, nat_abs, ◌≤◌, Option, Some, None, Ok, Err}
use Rattle.lua_machine.specs.Value.{Number, Fault}
use Rattle.lua_machine.specs.Operators.{Answer, greatest}

-- from -2^53 to 2^53
abbrev pub IsNumber : ℤ → Type 0
IsNumber n = nat_abs n ≤ greatest

-- a number, or this fault where there is none
abbrev pub number_or : Fault → Option ℤ → Answer
number_or why (Some n) = Ok (Number n)
number_or why None = Err why
