-- The bounds of the loops that are open.
use Rattle.std.specs.Prelude.{◌≡◌, pos, Bool, true, false, ℕ, List, ◌∷◌, Result, Ok, Err}
use Rattle.lua_machine.specs.Value.{Number, Fault}
use Rattle.lua_machine.specs.State.{declared}
use Rattle.lua_machine.specs.Yields.{Bounds, comes}
use Rattle.lua_machine.specs.declared.error.LuaError.{LuaError}
use Rattle.lua_state.specs.declared.bounds.LoopBounds.{LoopBounds}
use Rattle.lua_state.specs.Held.{bounds_in}
use Rattle.lua_state.specs.Stacks.{top, below}
use Rattle.lua_state.specs.Store.{Store, Refuses, in_state}

abbrev pub no_bounds : Bounds
no_bounds = record { first = pos 0; last = pos 0; by = pos 0 }

-- those of the innermost loop
abbrev pub newest_bounds : List Bounds → Bounds
newest_bounds loops = top no_bounds loops

-- one more loop is open
abbrev pub opened : Bounds → Store → Store
opened bounds store = record store { loops = bounds ∷ store.loops }

-- the innermost loop is left
abbrev pub closed : Store → Store
closed store = record store { loops = below store.loops }

-- a loop with its bounds, unless they are a fault
abbrev pub with_opened : Result Bounds Fault → Store → Result Store Fault
with_opened (Ok bounds) store = Ok (opened bounds store)
with_opened (Err why) store = Err why

-- a turn, if it comes: the loop is open, and the name is a new local with the number of the turn
abbrev pub turning_if : Bool → List ℕ → Bounds → Store → Store
turning_if true name bounds store = in_state (declared name (Number bounds.first) store.state) (opened bounds store)
turning_if false name bounds store = store

-- a turn, where one comes
abbrev pub turning : List ℕ → Bounds → Store → Store
turning name bounds store = turning_if (comes bounds) name bounds store

-- bounds were made as wanted, unless that is refused
abbrev pub AreMade : Result LoopBounds LuaError → Result Bounds Fault → Type 0
AreMade (Ok bounds) wanted = wanted ≡ Ok (bounds_in bounds)
AreMade (Err why) wanted = Refuses why wanted
