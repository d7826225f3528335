-- What turns come to is what a call gives.
use Rattle.std.proofs.Common.{◌≡◌, ◌∙◌, ◌↔◌, ℕ, ◌<◌, ◌≤◌, List, sym, subst, Result, Ok, Err, Some}
use Rattle.std.specs.Prelude.{IfErr}
use Rattle.lua_machine.specs.Tree.{ItemNode}
use Rattle.lua_machine.specs.Functions.{Function, function_of}
use Rattle.lua_machine.specs.Value as lua
use Rattle.lua_machine.specs.Machine.{Turned, Ended}
use Rattle.lua_machine.specs.Answer.{PlainValue, Answers, RunsOut, most_units}
use Rattle.lua_machine.specs.Turn.{TurnsYield, SpentTurnsRunOut, begins, paid}
use Rattle.lua_machine.specs.declared.error.LuaError.{LuaError}
use Rattle.lua_machine.specs.declared.error.LuaError.TheVariants as e
use Rattle.lua_call.specs.Calls.{Fails, FaultsWith}
use Rattle.lua_call.specs.Running.{Leads, EndedBy, Halts, TurnsGive}
use Rattle.lua_call.specs.declared.calling.Called.{Called}

pub answers : TurnsYield → (chunk : List ItemNode) (called : List ℕ) (seed : ℕ) (main : Function) (wanted : Turned) (answer : Result PlainValue lua.Fault) (cost : ℕ) → function_of chunk called ≡ Some main →
    Leads chunk main (begins chunk main seed) wanted → wanted ≡ Ended answer cost → cost ≤ most_units → Answers chunk called seed answer cost
answers yields chunk called seed main wanted answer cost found leads is few = ((yields chunk called seed main answer cost found).1 (leads.turns, leads.after ∙ is), few)

faults : TurnsYield → (chunk : List ItemNode) (called : List ℕ) (seed : ℕ) (main : Function) (wanted : Turned) (why : lua.Fault) → function_of chunk called ≡ Some main →
    Leads chunk main (begins chunk main seed) wanted → EndedBy why wanted → FaultsWith chunk called seed why
faults yields chunk called seed main wanted why found leads ended = (ended.0, answers yields chunk called seed main wanted (Err why) ended.0 found leads ended.1 ended.2)

pub fails : TurnsYield → SpentTurnsRunOut → (chunk : List ItemNode) (called : List ℕ) (seed : ℕ) (main : Function) (wanted : Turned) (why : LuaError) → function_of chunk called ≡ Some main →
    Leads chunk main (begins chunk main seed) wanted → Halts why wanted → Fails why chunk called seed
fails yields spent chunk called seed main wanted e.Budget found leads halts = (spent chunk called seed main found).1 (leads.turns, subst (λ t. most_units < paid t) (sym leads.after) halts)
fails yields spent chunk called seed main wanted e.NoMemory found leads halts = tt
fails yields spent chunk called seed main wanted (e.TypeFault line) found leads halts = faults yields chunk called seed main wanted (lua.TypeFault line) found leads halts
fails yields spent chunk called seed main wanted (e.UnknownName line) found leads halts = faults yields chunk called seed main wanted (lua.UnknownName line) found leads halts
fails yields spent chunk called seed main wanted (e.Inexact line) found leads halts = faults yields chunk called seed main wanted (lua.Inexact line) found leads halts
fails yields spent chunk called seed main wanted (e.OutOfRange line) found leads halts = faults yields chunk called seed main wanted (lua.OutOfRange line) found leads halts
fails yields spent chunk called seed main wanted (e.LongString line) found leads halts = faults yields chunk called seed main wanted (lua.LongString line) found leads halts
fails yields spent chunk called seed main wanted (e.TooDeepCalls line) found leads halts = faults yields chunk called seed main wanted (lua.TooDeepCalls line) found leads halts

pub all_fail : TurnsYield → SpentTurnsRunOut → (chunk : List ItemNode) (called : List ℕ) (seed : ℕ) (main : Function) (result : Result Called LuaError) → function_of chunk called ≡ Some main →
    TurnsGive chunk main (begins chunk main seed) result → IfErr result (λ why. Fails why chunk called seed)
all_fail yields spent chunk called seed main (Ok given) found gives = tt
all_fail yields spent chunk called seed main (Err why) found gives = fails yields spent chunk called seed main gives.wanted why found gives.leads gives.gives
