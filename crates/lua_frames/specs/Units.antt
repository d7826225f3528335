-- How units are paid.
use Rattle.std.specs.Prelude.{◌≡◌, ℕ, ◌+◌, ◌<◌, Result, Ok, Err}
use Rattle.lua_machine.specs.Answer.{most_units}
use Rattle.lua_machine.specs.declared.error.LuaError.{LuaError}
use Rattle.lua_machine.specs.declared.error.LuaError.TheVariants as e

-- one more unit was paid, or more are than may be
abbrev pub Spends : Result (Unit {0}) LuaError → ℕ → ℕ → Type 0
Spends (Ok u) old new = new ≡ old + 1
Spends (Err why) old new = (why ≡ e.Budget) × (most_units < old + 1)

-- so many more were paid, or more are than may be
abbrev pub SpendsAll : Result (Unit {0}) LuaError → ℕ → ℕ → ℕ → Type 0
SpendsAll (Ok u) count old new = new ≡ old + count
SpendsAll (Err why) count old new = (why ≡ e.Budget) × (most_units < old + count)
