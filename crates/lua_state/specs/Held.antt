-- What is held, and what it stands for.
use Rattle.std.specs.Prelude.{map, Option, Some, None}
use Rattle.std.specs.List.{All}
use Rattle.lua_machine.specs.Value.{LuaValue, Nil}
use Rattle.lua_machine.specs.State as lua
use Rattle.lua_machine.specs.Yields.{Bounds}
use Rattle.lua_store.specs.declared.value.SmallValue.{SmallValue}
use Rattle.lua_store.specs.Values.{Texts, AreApart, IsHeld, meant}
use Rattle.lua_store.specs.Rows.{AreHeld, tables_of}
use Rattle.lua_state.specs.declared.held.HeldState.{HeldState}
use Rattle.lua_state.specs.declared.bounds.LoopBounds.{LoopBounds}
use Rattle.lua_state.specs.Variables.{variables_of, IsHeldVariable}
use Rattle.lua_state.specs.Store.{Store}

abbrev pub bounds_in : LoopBounds → Bounds
bounds_in b = record { first = b.first; last = b.last; by = b.by }

-- the state
abbrev pub state_of : HeldState → lua.State
state_of h = record { locals = variables_of h.texts h.locals.running; globals = variables_of h.texts h.globals; tables = tables_of h.texts h.tables; generator = h.generator }

-- and what waits beside it
abbrev pub store_of : HeldState → Store
store_of h = record { values = map (meant h.texts) h.values; callers = map (variables_of h.texts) h.locals.around; loops = map bounds_in h.loops; state = state_of h }

-- no text is held twice, and those of all values, names and keys are held
pub record IsSound (h : HeldState) : Type 0 where
  pub apart : AreApart h.texts
  pub values : All (IsHeld h.texts) h.values
  pub locals : All (IsHeldVariable h.texts) h.locals.running
  pub callers : All (All (IsHeldVariable h.texts)) h.locals.around
  pub globals : All (IsHeldVariable h.texts) h.globals
  pub tables : All (AreHeld h.texts) h.tables

-- what a name without a variable has
abbrev pub meant_or_nil : Texts → Option SmallValue → LuaValue
meant_or_nil texts None = Nil
meant_or_nil texts (Some value) = meant texts value
