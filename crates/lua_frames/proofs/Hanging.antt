-- What waits inside of what is done where it stands, and what is behind turns that came before.
use Rattle.std.proofs.Common.{Global, ◌≡◌, ◌∙◌, ℕ, ◌+◌, ◌<◌, List, [], ◌∷◌, ◌++◌, refl, sym, ap, subst, append_assoc}
use Rattle.std.specs.declared.vec.Vec.{Vec}
use Rattle.lua_machine.specs.Answer.{most_units}
use Rattle.lua_machine.specs.Functions.{Function}
use Rattle.lua_machine.specs.Machine as machine
use Rattle.lua_machine.specs.Machine.{Turned, Next}
use Rattle.lua_machine.specs.State.{State}
use Rattle.lua_machine.specs.Tree.{ItemNode}
use Rattle.lua_machine.specs.Turn.{paid, turn}
use Rattle.lua_machine.specs.declared.error.LuaError.TheVariants as e
use Rattle.lua_state.specs.Store.{in_state, pushed}
use Rattle.lua_frames.specs.declared.frame.Frame.{Frame}
use Rattle.lua_frames.specs.declared.machine.Machine.{Machine}
use Rattle.lua_frames.specs.Frames.{Waits, around, frame_of, frames_of, waits_in}
use Rattle.lua_frames.specs.Machines.{store_in}
use Rattle.lua_frames.specs.Standing.{IsHalted, IsValued, Keeps, Start, WaitsInside, place}
use Rattle.lua_frames.specs.Turns.{Reaches, Stops}
use Rattle.lua_frames.proofs.Reaching.{none_after, reaches_itself, reaches_through}

-- one turn
pub one_reaches : (m : machine.Machine) (to : Turned) → ((chunk : List ItemNode) (main : Function) → turn chunk main m ≡ to) → Reaches (Next m) to
one_reaches m to is = record { turns = 1; after = λ chunk main. none_after chunk main (turn chunk main m) ∙ is chunk main }

-- turns from each start lead to where another starts
abbrev pub Leads : Start → Start → Type 0
Leads from to = (frames : List machine.Frame) (calls : ℕ) → Reaches (from frames calls) (to frames calls)

-- a frame more waits around what waits inside
pub waits_on : (from : Start) (base : Waits) (frame : Frame) (before m : Machine) (now : Vec Frame Global) → now.items ≡ m.pending.items ++ frame ∷ [] → WaitsInside from base before m →
    WaitsInside (λ frames calls. from (frame_of frame base ∷ frames) calls) (around frame base) before (record m { pending = now })
waits_on from base frame before m now is waits = record {
  keeps = waits.keeps;
  inner = waits.inner ++ frame ∷ [];
  pending = is ∙ ap (λ all. all ++ frame ∷ []) waits.pending ∙ append_assoc before.pending.items waits.inner (frame ∷ []);
  reaches = λ frames calls. subst (λ all. Reaches (from (frame_of frame base ∷ frames_of frames (around frame base)) calls) (place m all calls)) (sym (append_assoc waits.inner (frame ∷ []) frames)) (waits.reaches (frame ∷ frames) calls);
}

-- the same where turns came before
pub waits_through : (from to : Start) (base at : Waits) (old mid new : Machine) → Keeps old mid → mid.pending.items ≡ old.pending.items → at ≡ base → Leads from to → WaitsInside to at mid new → WaitsInside from base old new
waits_through from to base at old mid new keeps pending is leads waits = record {
  keeps = (waits.keeps.0 ∙ keeps.0, waits.keeps.1 ∙ keeps.1);
  inner = waits.inner;
  pending = waits.pending ∙ ap (λ all. all ++ waits.inner) pending;
  reaches = λ frames calls. reaches_through (leads (frames_of frames base) calls) (subst (λ w. Reaches (to (frames_of frames w) calls) (place new (waits.inner ++ frames) calls)) is (waits.reaches frames calls));
}

pub waits_from : (from to : Start) (base : Waits) (old new : Machine) → Leads from to → WaitsInside to base old new → WaitsInside from base old new
waits_from from to base old new leads waits = record {
  keeps = waits.keeps;
  inner = waits.inner;
  pending = waits.pending;
  reaches = λ frames calls. reaches_through (leads (frames_of frames base) calls) (waits.reaches frames calls);
}

-- stopped behind turns that came before
pub halted_behind : (from to : Start) (new : Machine) → Leads from to → IsHalted to new → IsHalted from new
halted_behind from to new leads halts = λ frames calls.
    let stop = halts frames calls in
    (stop.0, reaches_through (leads frames calls) stop.1, stop.2)

-- where memory runs out
pub out_of_memory : (from : Start) (m : Machine) → IsHalted from (record m { fault = e.NoMemory })
out_of_memory from m = λ frames calls. (from frames calls, reaches_itself (from frames calls), tt)

-- a unit that couldn't be paid
pub unpaid : (from : Start) (cost : ℕ) (new : Machine) → ((frames : List machine.Frame) (calls : ℕ) → paid (from frames calls) ≡ cost + 1) → (new.fault ≡ e.Budget) × (most_units < cost + 1) → IsHalted from new
unpaid from cost new pays (is, more) = λ frames calls. (
  from frames calls,
  reaches_itself (from frames calls),
  subst (λ why. Stops why new.units (from frames calls)) (sym is) (subst (λ n. most_units < n) (sym (pays frames calls)) more),
)

-- ---- turns that changed nothing but the state and what was paid

pub record Led (from to : Start) (old mid : Machine) : Type 0 where
  pub keeps : Keeps old mid
  pub pending : mid.pending.items ≡ old.pending.items
  pub state : State
  pub put : store_in mid ≡ in_state state (store_in old)
  pub leads : Leads from to

-- none at all
pub led_nowhere : (from : Start) (m : Machine) → Led from from m m
led_nowhere from m = record { keeps = (refl, refl); pending = refl; state = (store_in m).state; put = refl; leads = λ frames calls. reaches_itself (from frames calls) }

-- where more was paid
pub led_paid : (from to : Start) (m : Machine) (cost : ℕ) → Leads from to → Led from to m (record m { units = cost })
led_paid from to m cost leads = record { keeps = (refl, refl); pending = refl; state = (store_in m).state; put = refl; leads = leads }

pub valued_behind : (from to : Start) (old mid new : Machine) → Led from to old mid → IsValued to mid new → IsValued from old new
valued_behind from to old mid new led valued = record {
  keeps = (valued.keeps.0 ∙ led.keeps.0, valued.keeps.1 ∙ led.keeps.1);
  pending = valued.pending ∙ led.pending;
  value = valued.value;
  state = valued.state;
  put = valued.put ∙ ap (λ store. pushed valued.value (in_state valued.state store)) led.put;
  reaches = λ frames calls. reaches_through (led.leads frames calls) (valued.reaches frames calls);
}

pub waits_behind : (from to : Start) (old mid new : Machine) → Led from to old mid → WaitsInside to (waits_in (store_in mid)) mid new → WaitsInside from (waits_in (store_in old)) old new
waits_behind from to old mid new led waits = waits_through from to (waits_in (store_in old)) (waits_in (store_in mid)) old mid new led.keeps led.pending (ap waits_in led.put) led.leads waits
