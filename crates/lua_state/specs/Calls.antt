-- How a function is entered and left.
use Rattle.std.specs.Prelude.{ℕ, List, [], ◌∷◌}
use Rattle.lua_machine.specs.Value.{LuaValue}
use Rattle.lua_machine.specs.State.{bound_onto, entered}
use Rattle.lua_state.specs.Store.{Store, in_state, parts, without}
use Rattle.lua_state.specs.Stacks.{top, below}

-- the locals go behind those of the calls around
abbrev pub set_aside : Store → Store
set_aside store = record store { callers = store.state.locals ∷ store.callers; state = record store.state { locals = [] } }

-- parameters as new locals, with these arguments
abbrev pub bound : List (List ℕ) → List LuaValue → Store → Store
bound params values store = in_state (record store.state { locals = bound_onto store.state.locals params values }) store

-- a function is entered with the newest so many values
abbrev pub called : List (List ℕ) → ℕ → Store → Store
called params count store = record (without count store) { callers = store.state.locals ∷ store.callers; state = entered params (parts count store) store.state }

-- the locals of the innermost caller come back
abbrev pub left : Store → Store
left store = record store { callers = below store.callers; state = record store.state { locals = top [] store.callers } }
