-- What a turn of a machine in memory comes to.
use Rattle.std.specs.Prelude.{◌≡◌, ℕ, ◌<◌, List, Result, Ok, Err}
use Rattle.lua_machine.specs.Tree.{ItemNode}
use Rattle.lua_machine.specs.Functions.{Function}
use Rattle.lua_machine.specs.Answer.{most_units}
use Rattle.lua_machine.specs.Machine.{Turned, Next, Ended}
use Rattle.lua_machine.specs.Turn.{after_turns, paid}
use Rattle.lua_machine.specs.Value as lua
use Rattle.lua_machine.specs.declared.error.LuaError.{LuaError}
use Rattle.lua_machine.specs.declared.error.LuaError.TheVariants as e
use Rattle.lua_frames.specs.declared.control.Control.{Control}
use Rattle.lua_frames.specs.declared.machine.Machine.{Machine}
use Rattle.lua_frames.specs.Machines.{machine_of}

-- a fault ends all at this cost; where the budget is spent more would be paid than may be
abbrev pub Stops : LuaError → ℕ → Turned → Type 0
Stops (e.TypeFault line) cost wanted = wanted ≡ Ended (Err (lua.TypeFault line)) cost
Stops (e.UnknownName line) cost wanted = wanted ≡ Ended (Err (lua.UnknownName line)) cost
Stops (e.Inexact line) cost wanted = wanted ≡ Ended (Err (lua.Inexact line)) cost
Stops (e.OutOfRange line) cost wanted = wanted ≡ Ended (Err (lua.OutOfRange line)) cost
Stops (e.LongString line) cost wanted = wanted ≡ Ended (Err (lua.LongString line)) cost
Stops (e.TooDeepCalls line) cost wanted = wanted ≡ Ended (Err (lua.TooDeepCalls line)) cost
Stops e.Budget cost wanted = most_units < paid wanted
Stops e.NoMemory cost wanted = Unit {0}

-- a turn came to what is wanted, unless memory ran out
abbrev pub Turns : Result Control LuaError → Machine → Turned → Type 0
Turns (Ok control) now wanted = Next (machine_of control now) ≡ wanted
Turns (Err why) now wanted = Stops why now.units wanted

-- turns lead from one to the other, whatever chunk they are of
pub record Reaches (from to : Turned) : Type 0 where
  pub turns : ℕ
  pub after : (chunk : List ItemNode) (main : Function) → after_turns chunk main turns from ≡ to

-- turns behind what is wanted came to this, unless memory ran out
pub record Comes (result : Result Control LuaError) (now : Machine) (wanted : Turned) : Type 0 where
  pub to : Turned
  pub reaches : Reaches wanted to
  pub turns : Turns result now to
