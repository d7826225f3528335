-- What is answered where a value is made plain.
use Rattle.std.specs.Prelude.{◌≡◌, ℕ, ◌+◌, ◌<◌, Result, Ok, Err}
use Rattle.lua_machine.specs.Answer.{Paid, PlainValue, PlainValues}
use Rattle.lua_machine.specs.declared.error.LuaError.{LuaError}
use Rattle.lua_machine.specs.declared.error.LuaError.TheVariants.{Budget, NoMemory}
use Rattle.lua_plain.specs.declared.plain.Plain.{Plain}
use Rattle.lua_plain.specs.declared.plain.Plains.{Plains}
use Rattle.lua_plain.specs.Plain.{plain_view, plains_view}

-- more units than are left are wanted, unless memory ran out
abbrev pub Lacks : LuaError → ℕ → ℕ → Type 0
Lacks Budget units cost = units < cost
Lacks NoMemory units cost = Unit {0}
Lacks _ units cost = ⊥

-- the plain value that is wanted is made, and its units are paid out of those that are left; or they don't suffice
abbrev pub Makes : Result Plain LuaError → ℕ → ℕ → Paid PlainValue → Type 0
Makes (Ok plain) units left wanted = (plain_view plain ≡ wanted.value) × (units ≡ wanted.cost + left)
Makes (Err why) units left wanted = Lacks why units wanted.cost

-- one unit is paid
abbrev pub Pays : Result (Unit {0}) LuaError → ℕ → ℕ → Type 0
Pays (Ok done) units left = units ≡ 1 + left
Pays (Err why) units left = Lacks why units 1

-- and so are plain values in order
abbrev pub MakesAll : Result Plains LuaError → ℕ → ℕ → Paid PlainValues → Type 0
MakesAll (Ok list) units left wanted = (plains_view list ≡ wanted.value) × (units ≡ wanted.cost + left)
MakesAll (Err why) units left wanted = Lacks why units wanted.cost
