-- What a call of a function of a chunk answers where it gives no value.
use Rattle.std.specs.Prelude.{◌≡◌, ℕ, List, Err, is_some}
use Rattle.lua_tree.specs.declared.tree.Item.{Item}
use Rattle.lua_tree.specs.Defines.{defines}
use Rattle.lua_machine.specs.Tree.{ItemNode, items_of}
use Rattle.lua_machine.specs.Value as lua
use Rattle.lua_machine.specs.Functions.{function_of}
use Rattle.lua_machine.specs.Answer.{Answers, RunsOut}
use Rattle.lua_machine.specs.declared.error.LuaError.{LuaError}
use Rattle.lua_machine.specs.declared.error.LuaError.TheVariants as e

-- the call comes to this fault, within the units that may be paid
abbrev pub FaultsWith : List ItemNode → List ℕ → ℕ → lua.Fault → Type 0
FaultsWith chunk called seed why = (cost : ℕ) × Answers chunk called seed (Err why) cost

-- the call comes to the fault with this line; where the budget is spent it runs out of units; want of memory says nothing
abbrev pub Fails : LuaError → List ItemNode → List ℕ → ℕ → Type 0
Fails (e.TypeFault line) chunk called seed = FaultsWith chunk called seed (lua.TypeFault line)
Fails (e.UnknownName line) chunk called seed = FaultsWith chunk called seed (lua.UnknownName line)
Fails (e.Inexact line) chunk called seed = FaultsWith chunk called seed (lua.Inexact line)
Fails (e.OutOfRange line) chunk called seed = FaultsWith chunk called seed (lua.OutOfRange line)
Fails (e.LongString line) chunk called seed = FaultsWith chunk called seed (lua.LongString line)
Fails (e.TooDeepCalls line) chunk called seed = FaultsWith chunk called seed (lua.TooDeepCalls line)
Fails e.Budget chunk called seed = RunsOut chunk called seed
Fails e.NoMemory chunk called seed = Unit {0}

-- ---- laws

-- a name is defined exactly where a function is found under it
abbrev pub DefinedIsFound : Type 0
DefinedIsFound = (items : List Item) (name : List ℕ) → defines name items ≡ is_some (function_of (items_of items) name)
