-- Turns that were taken where they stand, over the frames that wait.
use Rattle.std.proofs.Common.{◌≡◌, ◌∙◌, ℕ, List, [], ◌++◌, ap, reverse, Ok, Err}
use Rattle.lua_machine.specs.Machine as machine
use Rattle.lua_machine.specs.Machine.{Turned, Next}
use Rattle.lua_machine.specs.Turn.{left}
use Rattle.lua_machine.specs.Yields as lua
use Rattle.lua_machine.specs.declared.error.LuaError.TheVariants as e
use Rattle.lua_state.specs.Held.{store_of}
use Rattle.lua_state.specs.Store.{Store, in_state, newest, popped, pushed}
use Rattle.lua_state.specs.declared.state.LuaState.{LuaState}
use Rattle.lua_frames.specs.declared.control.Control.{Control}
use Rattle.lua_frames.specs.declared.control.Control.TheVariants as c
use Rattle.lua_frames.specs.declared.frame.Frame.{Frame}
use Rattle.lua_frames.specs.declared.machine.Machine.{Machine}
use Rattle.lua_frames.specs.Executing.{IsLeft}
use Rattle.lua_frames.specs.Frames.{Waits, frames_of, waits_in}
use Rattle.lua_frames.specs.Machines.{beside, control_of, machine_of, store_in, waiting}
use Rattle.lua_frames.specs.Standing.{IsHalted, IsPut, IsValued, Start, WaitsInside, place}
use Rattle.lua_frames.specs.Turns.{Comes}
use Rattle.lua_frames.proofs.Reaching.{reaches_itself}

-- a place, by what it stands on
abbrev spot : LuaState → Control → List Frame → ℕ → ℕ → Turned
spot state at frames calls units = Next (record { control = control_of at (store_of state); frames = frames_of frames (waits_in (beside at (store_of state))); calls = calls; state = (store_of state).state; cost = units })

-- the frames that were pending wait above the others
pub placed : (mid new : Machine) (frames : List Frame) (calls : ℕ) → IsPut mid new → mid.pending.items ++ reverse mid.frames.items ≡ frames → mid.calls ≡ calls → Next (machine_of new.at new) ≡ place mid frames calls
placed mid new frames calls (put, state, at, same, units) are are_open =
    ap (λ s. spot s new.at (reverse new.frames.items) new.calls new.units) state
    ∙ ap (λ a. spot mid.state a (reverse new.frames.items) new.calls new.units) at
    ∙ ap (λ fs. spot mid.state mid.at fs new.calls new.units) (put ∙ are)
    ∙ ap (λ n. spot mid.state mid.at frames n new.units) (same ∙ are_open)
    ∙ ap (λ u. spot mid.state mid.at frames calls u) units

-- a place inside, over the frames that were there
pub came_inside : (from : Start) (base : Waits) (old mid new : Machine) → old.pending.items ≡ [] → WaitsInside from base old mid → IsPut mid new → Comes (Ok new.at) new (from (frames_of (reverse old.frames.items) base) old.calls)
came_inside from base old mid new none inside is = record {
  to = place mid (inside.inner ++ reverse old.frames.items) old.calls;
  reaches = inside.reaches (reverse old.frames.items) old.calls;
  turns = placed mid new (inside.inner ++ reverse old.frames.items) old.calls is (ap (λ p. p ++ reverse mid.frames.items) (inside.pending ∙ ap (λ p. p ++ inside.inner) none) ∙ ap (λ fs. inside.inner ++ reverse fs) inside.keeps.0) inside.keeps.1;
}

-- where turns were stopped
pub came_halted : (from : Start) (frames : List machine.Frame) (calls : ℕ) (new : Machine) → IsHalted from new → Comes (Err new.fault) new (from frames calls)
came_halted from frames calls new halted = let stop = halted frames calls in record { to = stop.0; reaches = stop.1; turns = stop.2 }

-- memory ran out
pub no_memory : (now : Machine) (wanted : Turned) → Comes (Err e.NoMemory) now wanted
no_memory now wanted = record { to = wanted; reaches = reaches_itself wanted; turns = tt }

-- ---- ways out

pub came_left : (from : Start) (old new : Machine) → IsLeft lua.Goes from old new → Comes (Ok c.Goes) new (from (waiting old) old.calls)
came_left from old new gone =
    let at = λ (store : Store) (frames : List Frame) (calls : ℕ). Next (record { control = machine.Back lua.Goes; frames = frames_of (reverse frames) (waits_in store); calls = calls; state = store.state; cost = new.units }) in
    record {
      to = left (record { way = lua.Goes; state = gone.state }) (waiting old) old.calls new.units;
      reaches = gone.reaches (waiting old) old.calls;
      turns = ap (λ store. at store new.frames.items new.calls) gone.put ∙ ap (λ fs. at (in_state gone.state (store_in old)) fs new.calls) gone.keeps.0 ∙ ap (λ n. at (in_state gone.state (store_in old)) old.frames.items n) gone.keeps.1;
    }

pub came_out : (from : Start) (old new : Machine) → IsLeft lua.Breaks from old new → Comes (Ok c.Breaks) new (from (waiting old) old.calls)
came_out from old new gone =
    let at = λ (store : Store) (frames : List Frame) (calls : ℕ). Next (record { control = machine.Back lua.Breaks; frames = frames_of (reverse frames) (waits_in store); calls = calls; state = store.state; cost = new.units }) in
    record {
      to = left (record { way = lua.Breaks; state = gone.state }) (waiting old) old.calls new.units;
      reaches = gone.reaches (waiting old) old.calls;
      turns = ap (λ store. at store new.frames.items new.calls) gone.put ∙ ap (λ fs. at (in_state gone.state (store_in old)) fs new.calls) gone.keeps.0 ∙ ap (λ n. at (in_state gone.state (store_in old)) old.frames.items n) gone.keeps.1;
    }

pub came_with : (from : Start) (old new : Machine) → IsValued from old new → Comes (Ok c.Returns) new (from (waiting old) old.calls)
came_with from old new gone =
    let at = λ (store : Store) (frames : List Frame) (calls : ℕ). Next (record { control = machine.Back (lua.Returns (newest store.values)); frames = frames_of (reverse frames) (waits_in (popped store)); calls = calls; state = store.state; cost = new.units }) in
    let store = pushed gone.value (in_state gone.state (store_in old)) in
    record {
      to = left (record { way = lua.Returns gone.value; state = gone.state }) (waiting old) old.calls new.units;
      reaches = gone.reaches (waiting old) old.calls;
      turns = ap (λ s. at s new.frames.items new.calls) gone.put ∙ ap (λ fs. at store fs new.calls) gone.keeps.0 ∙ ap (λ n. at store old.frames.items n) gone.keeps.1;
    }
