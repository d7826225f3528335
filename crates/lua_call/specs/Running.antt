-- What turns of the machine come to, one after the other.
use Rattle.std.specs.Prelude.{◌≡◌, ℕ, ◌<◌, ◌≤◌, List, Result, Ok, Err}
use Rattle.lua_machine.specs.Tree.{ItemNode}
use Rattle.lua_machine.specs.Functions.{Function}
use Rattle.lua_machine.specs.Machine.{Turned, Ended}
use Rattle.lua_machine.specs.Turn.{after_turns, finished_by, paid}
use Rattle.lua_machine.specs.Answer.{most_units}
use Rattle.lua_machine.specs.Value as lua
use Rattle.lua_machine.specs.declared.error.LuaError.{LuaError}
use Rattle.lua_machine.specs.declared.error.LuaError.TheVariants as e
use Rattle.lua_plain.specs.Plain.{plain_view}
use Rattle.lua_frames.specs.declared.machine.Machine.{Machine}
use Rattle.lua_frames.specs.declared.turns.Step.{Step}
use Rattle.lua_frames.specs.declared.turns.Step.TheVariants as s
use Rattle.lua_frames.specs.declared.ways.Way.{Way}
use Rattle.lua_frames.specs.Machines.{store_in, state_in}
use Rattle.lua_frames.specs.Steps.{Steps}
use Rattle.lua_frames.specs.Turns.{Stops}
use Rattle.lua_frames.specs.Ways.{way_in}
use Rattle.lua_call.specs.declared.calling.Called.{Called}

-- turns lead from one to the other
pub record Leads (chunk : List ItemNode) (main : Function) (from to : Turned) : Type 0 where
  pub turns : ℕ
  pub after : after_turns chunk main turns from ≡ to

-- turns came to what a machine stands at
pub record Came (chunk : List ItemNode) (main : Function) (from : Turned) (result : Result Step LuaError) (now : Machine) : Type 0 where
  pub wanted : Turned
  pub leads : Leads chunk main from wanted
  pub step : Steps result now wanted

-- a unit was paid on the way to another place
abbrev pub PaysOn : Result Step LuaError → ℕ → ℕ → Type 0
PaysOn (Ok (s.Next control)) old new = (old < new) × (new ≤ most_units)
PaysOn _ old new = Unit {0}

-- all ended in this way, or was stopped
abbrev pub Ends : Result Way LuaError → Machine → Turned → Type 0
Ends (Ok way) now wanted = finished_by (way_in way (store_in now)) (state_in now) now.units ≡ wanted
Ends (Err why) now wanted = Stops why now.units wanted

-- turns came to the end
pub record CameToTheEnd (chunk : List ItemNode) (main : Function) (from : Turned) (result : Result Way LuaError) (now : Machine) : Type 0 where
  pub wanted : Turned
  pub leads : Leads chunk main from wanted
  pub ends : Ends result now wanted

-- a fault ended all, for no more units than may be paid
abbrev pub EndedBy : lua.Fault → Turned → Type 0
EndedBy why wanted = (cost : ℕ) × (wanted ≡ Ended (Err why) cost) × (cost ≤ most_units)

-- why there is no value
abbrev pub Halts : LuaError → Turned → Type 0
Halts (e.TypeFault line) wanted = EndedBy (lua.TypeFault line) wanted
Halts (e.UnknownName line) wanted = EndedBy (lua.UnknownName line) wanted
Halts (e.Inexact line) wanted = EndedBy (lua.Inexact line) wanted
Halts (e.OutOfRange line) wanted = EndedBy (lua.OutOfRange line) wanted
Halts (e.LongString line) wanted = EndedBy (lua.LongString line) wanted
Halts (e.TooDeepCalls line) wanted = EndedBy (lua.TooDeepCalls line) wanted
Halts e.Budget wanted = most_units < paid wanted
Halts e.NoMemory wanted = Unit {0}

-- a call gave what the end of its turns is, or halted as they did
abbrev pub Gives : Result Called LuaError → Turned → Type 0
Gives (Ok called) wanted = (wanted ≡ Ended (Ok (plain_view called.value)) called.cost) × (called.cost ≤ most_units)
Gives (Err why) wanted = Halts why wanted

-- and that is where turns lead
pub record TurnsGive (chunk : List ItemNode) (main : Function) (from : Turned) (result : Result Called LuaError) : Type 0 where
  pub wanted : Turned
  pub leads : Leads chunk main from wanted
  pub gives : Gives result wanted
