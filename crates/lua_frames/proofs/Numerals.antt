-- A number that was taken is the one that was given.
use Rattle.std.proofs.Common.{◌≡◌, ℤ, Bool, true, false, cond, Result, Ok, Err}
use Rattle.std.specs.Prelude.{nat_abs, nat_le}
use Rattle.lua_machine.specs.Value.{LuaValue, Number, Fault, OutOfRange}
use Rattle.lua_machine.specs.Operators.{number, greatest}

pub is_given : (n given : ℤ) → Ok (Number n) ≡ number 0 given → n ≡ given
is_given n given is = by (nat_le (nat_abs given) greatest) is
  where
    by : (b : Bool) → (let x : Result LuaValue Fault = Ok (Number n) in x) ≡ cond b (Ok (Number given)) (Err (OutOfRange 0)) → n ≡ given
    by true e = cc
    by false e = absurd cc
