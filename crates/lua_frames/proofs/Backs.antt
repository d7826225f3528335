-- What comes back with a value that was made, or with its fault.
use Rattle.std.proofs.Common.{◌≡◌, ℕ, ◌+◌, ◌<◌, ◌≤◌, List, sym, ap, subst, Result, Ok, Err, arith}
use Rattle.lua_machine.specs.Value.{LuaValue, Fault}
use Rattle.lua_machine.specs.Value as lua
use Rattle.lua_machine.specs.State.{State}
use Rattle.lua_machine.specs.Answer.{most_units}
use Rattle.lua_machine.specs.Machine as machine
use Rattle.lua_machine.specs.Machine.{Turned, Next, Ended, Back}
use Rattle.lua_machine.specs.Turn.{back, paid}
use Rattle.lua_machine.specs.Yields.{Returns}
use Rattle.lua_machine.specs.declared.error.LuaError.{LuaError}
use Rattle.lua_machine.specs.declared.error.LuaError.TheVariants as e
use Rattle.lua_state.specs.Store.{Store, Refuses, newest, popped, with_made}
use Rattle.lua_frames.specs.declared.frame.Frame.{Frame}
use Rattle.lua_frames.specs.Frames.{frames_of, waits_in}
use Rattle.lua_frames.specs.Turns.{Stops}

ok_is : {T : Type 0} {a b : T} → (let x : Result T Fault = Ok a in x) ≡ Ok b → a ≡ b
ok_is same = cc

err_is : {T : Type 0} {a b : Fault} → (let x : Result T Fault = Err a in x) ≡ Err b → a ≡ b
err_is same = cc

ok_isnt_err : {T : Type 0} {a : T} {b : Fault} {A : Type 0} → Ok a ≡ Err b → A
ok_isnt_err same = cc

err_isnt_ok : {T : Type 0} {a : T} {b : Fault} {A : Type 0} → Err b ≡ Ok a → A
err_isnt_ok same = cc

-- back with the newest value of a store
abbrev pub back_with : List Frame → ℕ → ℕ → Store → Turned
back_with frames calls cost now = Next (record { control = Back (Returns (newest now.values)); frames = frames_of frames (waits_in (popped now)); calls = calls; state = now.state; cost = cost })

pub came_back : (outcome : Result LuaValue Fault) (state : State) (store now : Store) (frames : List Frame) (calls cost : ℕ) → with_made outcome state store ≡ Ok now →
    back_with frames calls cost now ≡ back (record { outcome = outcome; state = state }) (frames_of frames (waits_in store)) calls cost
came_back (Ok value) state store now frames calls cost is = ap (back_with frames calls cost) (sym (ok_is is))
came_back (Err why) state store now frames calls cost is = err_isnt_ok is

refused : (outcome : Result LuaValue Fault) (state : State) (store : Store) (frames : List machine.Frame) (calls cost : ℕ) (why : Fault) → with_made outcome state store ≡ Err why →
    back (record { outcome = outcome; state = state }) frames calls cost ≡ Ended (Err why) cost
refused (Ok value) state store frames calls cost why is = ok_isnt_err is
refused (Err fault) state store frames calls cost why is = ap (λ f. Ended (Err f) cost) (err_is is)

pub stopped_back : (why : LuaError) (outcome : Result LuaValue Fault) (state : State) (store : Store) (frames : List machine.Frame) (calls cost : ℕ) → Refuses why (with_made outcome state store) →
    Stops why cost (back (record { outcome = outcome; state = state }) frames calls cost)
stopped_back (e.TypeFault line) outcome state store frames calls cost is = refused outcome state store frames calls cost (lua.TypeFault line) is
stopped_back (e.UnknownName line) outcome state store frames calls cost is = refused outcome state store frames calls cost (lua.UnknownName line) is
stopped_back (e.Inexact line) outcome state store frames calls cost is = refused outcome state store frames calls cost (lua.Inexact line) is
stopped_back (e.OutOfRange line) outcome state store frames calls cost is = refused outcome state store frames calls cost (lua.OutOfRange line) is
stopped_back (e.LongString line) outcome state store frames calls cost is = refused outcome state store frames calls cost (lua.LongString line) is
stopped_back (e.TooDeepCalls line) outcome state store frames calls cost is = refused outcome state store frames calls cost (lua.TooDeepCalls line) is
stopped_back e.Budget outcome state store frames calls cost is = absurd is
stopped_back e.NoMemory outcome state store frames calls cost is = tt

-- no unit is left
pub spent : (why : LuaError) (cost now : ℕ) (wanted : Turned) → why ≡ e.Budget → most_units < cost + 1 → cost + 1 ≤ paid wanted → Stops why now wanted
spent why cost now wanted is more pays = subst (λ w. Stops w now wanted) (sym is) (omega (arith, more, pays))
