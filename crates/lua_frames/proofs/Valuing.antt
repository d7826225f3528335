-- Expressions that are evaluated where they stand.
use Rattle.std.proofs.Common.{◌≡◌, ◌∙◌, ℕ, ◌+◌, ◌<◌, List, [], ◌∷◌, ◌++◌, sym, ap, subst, reverse, Result, Ok, Err, Option, Some, None, length, map, arith}
use Rattle.lua_machine.specs.Answer.{most_units}
use Rattle.lua_machine.specs.Machine as machine
use Rattle.lua_machine.specs.Machine.{Turned, Part}
use Rattle.lua_machine.specs.State.{State, Done, gives}
use Rattle.lua_tree.specs.declared.tree.Expr.{Expr}
use Rattle.lua_machine.specs.Tree.{ItemNode, Node, Nodes, none, ◌and◌, node_of, nodes}
use Rattle.lua_machine.specs.Turn.{back, begun, evaluating, expression_begun, made}
use Rattle.lua_machine.specs.Value.{LuaValue}
use Rattle.lua_machine.specs.declared.error.LuaError.{LuaError}
use Rattle.lua_state.specs.Held.{store_of}
use Rattle.lua_state.specs.declared.state.LuaState.{LuaState}
use Rattle.lua_state.specs.Store.{Refuses, Store, in_state, parts, pushed, with_done, without}
use Rattle.lua_frames.specs.declared.control.Control.{Control}
use Rattle.lua_frames.specs.declared.frame.Frame.TheVariants as f
use Rattle.lua_frames.specs.declared.frame.Making.{Making}
use Rattle.lua_frames.specs.declared.machine.Machine.{Machine}
use Rattle.lua_frames.specs.declared.parts.Parts.{Parts}
use Rattle.lua_frames.specs.declared.valued.Valued.{Valued}
use Rattle.lua_frames.specs.declared.valued.Valued.TheVariants as v
use Rattle.lua_frames.specs.Frames.{Waits, frames_of, making_of, waits_in}
use Rattle.lua_frames.specs.Machines.{store_in, state_in}
use Rattle.lua_frames.specs.Parts.{nodes_in}
use Rattle.lua_frames.specs.Simple.{Gives}
use Rattle.lua_frames.specs.Standing.{Evaluates, HasOne, HasTwo, IsGathered, IsHalted, IsValued, Keeps, PartEvaluates, Start, TakesOne, TakesTwo, WaitsInside, WaitsUnder, evaluation, gathering, operating, place}
use Rattle.lua_frames.specs.Turns.{Reaches, Stops}
use Rattle.lua_frames.specs.Units.{Spends}
use Rattle.lua_frames.specs.Values.{IsGiven, Passes, parts_left}
use Rattle.lua_frames.specs.Values as passing
use Rattle.lua_frames.proofs.Hanging.{Leads, halted_behind}
use Rattle.lua_frames.proofs.Reaching.{reaches_itself, reaches_through}
use Rattle.lua_frames.proofs.Taking as taking
use Rattle.lua_frames.proofs.Taking.{ComesToMake, Makes, begun_by, made_gives, made_stops, part_given, passed_one}

-- what the units were doesn't matter
pub inside_from : (from : Start) (base : Waits) (old new : Machine) (paid : ℕ) → WaitsInside from base (record old { units = paid }) new → WaitsInside from base old new
inside_from from base old new paid inside = record { keeps = inside.keeps; inner = inside.inner; pending = inside.pending; reaches = inside.reaches }

-- ---- a simple expression

pub simple_valued : (node : Node) (old new : Machine) → Keeps old new → new.pending.items ≡ old.pending.items → Gives node (store_in old) old.units (store_in new) new.units → IsValued (evaluation node old) old new
simple_valued node old new keeps pending (value, state, is, reaches) = record { keeps = keeps; pending = pending; value = value; state = state; put = is; reaches = reaches }

-- it isn't simple, and nothing was done yet
pub value_later : (result : Valued) (node : Node) (old at new : Machine) → at.frames.items ≡ old.frames.items → at.calls ≡ old.calls → at.pending.items ≡ old.pending.items → store_in at ≡ store_in old → at.units ≡ old.units →
    Evaluates result (evaluation node at) at new → Evaluates result (evaluation node old) old new
value_later v.Given node old at new frames calls pending store units is = record {
  keeps = (is.keeps.0 ∙ frames, is.keeps.1 ∙ calls);
  pending = is.pending ∙ pending;
  value = is.value;
  state = is.state;
  put = is.put ∙ ap (λ s. pushed is.value (in_state is.state s)) store;
  reaches = λ fs n. subst (λ (s : Store). Reaches (evaluating node fs n s.state old.units) (back (gives is.value is.state) fs n new.units)) store
      (subst (λ u. Reaches (evaluating node fs n (state_in at) u) (back (gives is.value is.state) fs n new.units)) units (is.reaches fs n));
}
value_later v.Waits node old at new frames calls pending store units is = record {
  keeps = (is.keeps.0 ∙ frames, is.keeps.1 ∙ calls);
  inner = is.inner;
  pending = is.pending ∙ ap (λ items. items ++ is.inner) pending;
  reaches = λ fs n. subst (λ (s : Store). Reaches (evaluating node (frames_of fs (waits_in s)) n s.state old.units) (place new (is.inner ++ fs) n)) store
      (subst (λ u. Reaches (evaluating node (frames_of fs (waits_in (store_in at))) n (state_in at) u) (place new (is.inner ++ fs) n)) units (is.reaches fs n));
}
value_later v.Stopped node old at new frames calls pending store units is = λ fs n. subst (λ (s : Store). (to : Turned) × Reaches (evaluating node fs n s.state old.units) to × Stops new.fault new.units to) store
    (subst (λ u. (to : Turned) × Reaches (evaluating node fs n (state_in at) u) to × Stops new.fault new.units to) units (is fs n))

-- ---- a part

pub part_waits : (result : Valued) (making : Making) (count : ℕ) (part : Node) (others : Parts) (old new : Machine) →
    WaitsUnder result (evaluation part old) (waits_in (store_in old)) (f.Part making count others) old new → PartEvaluates result (making_of making) count part (nodes_in others) old new
part_waits v.Given making count part others old new waits = absurd waits
part_waits v.Waits making count part others old new waits = waits
part_waits v.Stopped making count part others old new halts = halts (gathering (making_of making) count (part and nodes_in others) old)

-- ---- the parts of an operation

pub one_taken : (result : Valued) (making : machine.Making) (part : Node) (old new : Machine) (paid : ℕ) → paid ≡ old.units + 1 → PartEvaluates result making 0 part none (record old { units = paid }) new → TakesOne result making part old new
one_taken v.Given making part old new paid spent given = record {
  keeps = given.keeps;
  pending = given.pending;
  a = given.value;
  state = given.state;
  put = given.put;
  gathered = λ frames calls. subst (λ n. Reaches (begun making [] (part and none) frames calls (state_in old) n) (made making (given.value ∷ []) frames calls given.state new.units)) spent
      (passed_one making [] part none frames calls (state_in old) given.state paid new.units given.value given.reaches);
}
one_taken v.Waits making part old new paid spent waits = subst (λ n. WaitsInside (λ frames calls. begun making [] (part and none) frames calls (state_in old) n) (waits_in (store_in old)) old new) spent
    (inside_from (λ frames calls. begun making [] (part and none) frames calls (state_in old) paid) (waits_in (store_in old)) old new paid waits)
one_taken v.Stopped making part old new paid spent halted = subst (λ n. IsHalted (λ frames calls. begun making [] (part and none) frames calls (state_in old) n) new) spent halted

-- the first of two was put, and the other is evaluated behind it
leads_to_second : (making : machine.Making) (left right : Node) (old mid : Machine) (paid : ℕ) → paid ≡ old.units + 1 → (given : IsValued (evaluation left (record old { units = paid })) (record old { units = paid }) mid) →
    Leads (operating making (left and right and none) old) (gathering making 1 (right and none) mid)
leads_to_second making left right old mid paid spent given frames calls =
    subst (λ n. Reaches (begun making [] (left and right and none) frames calls (state_in old) n) (begun making (parts 1 (store_in mid)) (right and none) frames calls (state_in mid) mid.units)) spent
    (subst (λ (s : Store). Reaches (begun making [] (left and right and none) frames calls (state_in old) paid) (begun making (parts 1 s) (right and none) frames calls s.state mid.units)) (sym given.put)
    (passed_one making [] left (right and none) frames calls (state_in old) given.state paid mid.units given.value given.reaches))

pub two_taken : (result : Valued) (making : machine.Making) (left right : Node) (old mid new : Machine) (paid : ℕ) → paid ≡ old.units + 1 → IsValued (evaluation left (record old { units = paid })) (record old { units = paid }) mid →
    PartEvaluates result making 1 right none mid new → TakesTwo result making left right old new
two_taken v.Given making left right old mid new paid spent first second = record {
  keeps = (second.keeps.0 ∙ first.keeps.0, second.keeps.1 ∙ first.keeps.1);
  pending = second.pending ∙ first.pending;
  a = first.value;
  b = second.value;
  state = second.state;
  put = second.put ∙ ap (λ s. pushed second.value (in_state second.state s)) first.put;
  gathered = λ frames calls. reaches_through (leads_to_second making left right old mid paid spent first frames calls)
      (subst (λ (s : Store). Reaches (begun making (parts 1 (store_in mid)) (right and none) frames calls (state_in mid) mid.units) (made making (parts 1 s ++ second.value ∷ []) frames calls second.state new.units)) first.put
      (passed_one making (parts 1 (store_in mid)) right none frames calls (state_in mid) second.state mid.units new.units second.value second.reaches));
}
two_taken v.Waits making left right old mid new paid spent first inside = both_wait
  where
    base_same : waits_in (without 1 (store_in mid)) ≡ waits_in (store_in old)
    base_same = ap (λ (s : Store). waits_in (without 1 s)) first.put

    moved : WaitsInside (gathering making 1 (right and none) mid) (waits_in (store_in old)) mid new
    moved = subst (λ b. WaitsInside (gathering making 1 (right and none) mid) b mid new) base_same inside

    both_wait : WaitsInside (operating making (left and right and none) old) (waits_in (store_in old)) old new
    both_wait = record {
      keeps = (moved.keeps.0 ∙ first.keeps.0, moved.keeps.1 ∙ first.keeps.1);
      inner = moved.inner;
      pending = moved.pending ∙ ap (λ p. p ++ moved.inner) first.pending;
      reaches = λ frames calls. reaches_through (leads_to_second making left right old mid paid spent first (frames_of frames (waits_in (store_in old))) calls) (moved.reaches frames calls);
    }
two_taken v.Stopped making left right old mid new paid spent first halted = halted_behind (operating making (left and right and none) old) (gathering making 1 (right and none) mid) new (leads_to_second making left right old mid paid spent first) halted

pub first_waits : (making : machine.Making) (left right : Node) (old new : Machine) (paid : ℕ) → paid ≡ old.units + 1 → PartEvaluates v.Waits making 0 left (right and none) (record old { units = paid }) new → TakesTwo v.Waits making left right old new
first_waits making left right old new paid spent waits = subst (λ n. WaitsInside (λ frames calls. begun making [] (left and right and none) frames calls (state_in old) n) (waits_in (store_in old)) old new) spent
    (inside_from (λ frames calls. begun making [] (left and right and none) frames calls (state_in old) paid) (waits_in (store_in old)) old new paid waits)

pub first_halted : (making : machine.Making) (left right : Node) (old new : Machine) (paid : ℕ) → paid ≡ old.units + 1 → PartEvaluates v.Stopped making 0 left (right and none) (record old { units = paid }) new → TakesTwo v.Stopped making left right old new
first_halted making left right old new paid spent halted = subst (λ n. IsHalted (λ frames calls. begun making [] (left and right and none) frames calls (state_in old) n) new) spent halted

-- its unit couldn't be paid
pub unpaid : (making : machine.Making) (first : Node) (others : Nodes) (old new : Machine) (why : LuaError) (cost now : ℕ) → cost ≡ old.units → Spends (Err why) cost now → new.fault ≡ why → IsHalted (operating making (first and others) old) new
unpaid making first others old new why cost now same (is, more) fault = λ frames calls.
    let at = begun making [] (first and others) frames calls (state_in old) (old.units + 1) in
    (at, reaches_itself at, subst (λ w. Stops w new.units at) (sym (fault ∙ is)) (subst (λ n. most_units < n + 1) same more))

-- ---- operations

-- how one is begun
abbrev pub Begins : Node → machine.Making → Nodes → Type 0
Begins node making nodes = (chunk : List ItemNode) (frames : List machine.Frame) (calls : ℕ) (state : State) (cost : ℕ) → expression_begun chunk node frames calls state cost ≡ begun making [] nodes frames calls state (cost + 1)

pub begins_before : (node : Node) (making : machine.Making) (nodes : Nodes) → Begins node making nodes → (old : Machine) → Leads (evaluation node old) (operating making nodes old)
begins_before node making nodes begins old frames calls = begun_by node making nodes begins frames calls (state_in old) old.units

gathered_makes : (node : Node) (making : machine.Making) (nodes : Nodes) → Begins node making nodes → (values : List LuaValue) (after : State) (old new : Machine) → IsGathered making nodes values after old new → ComesToMake node making values (store_in old) old.units after new.units
gathered_makes node making nodes begins values after old new gathered = λ frames calls. reaches_through (begun_by node making nodes begins frames calls (state_in old) old.units) (gathered frames calls)

-- what is made of its parts is its value, or its fault
pub one_makes : (node : Node) (making : machine.Making) (part : Node) (done : List LuaValue → State → Done LuaValue) → Begins node making (part and none) → Makes making done → (old mid : Machine) (state : LuaState) →
    HasOne making part old mid → with_done (done (parts 1 (store_in mid)) (state_in mid)) (without 1 (store_in mid)) ≡ Ok (store_of state) → IsValued (evaluation node old) old (record mid { state = state })
one_makes node making part done begins makes old mid state one is = simple_valued node old (record mid { state = state }) one.keeps one.pending
    (made_gives node making done makes (one.a ∷ []) (store_in old) (store_of state) one.state old.units mid.units (gathered_makes node making (part and none) begins (one.a ∷ []) one.state old mid one.gathered)
    (subst (λ (s : Store). with_done (done (parts 1 s) s.state) (without 1 s) ≡ Ok (store_of state)) one.put is))

pub one_faults : (node : Node) (making : machine.Making) (part : Node) (done : List LuaValue → State → Done LuaValue) → Begins node making (part and none) → Makes making done → (old mid new : Machine) →
    HasOne making part old mid → new.units ≡ mid.units → Refuses new.fault (with_done (done (parts 1 (store_in mid)) (state_in mid)) (without 1 (store_in mid))) → IsHalted (evaluation node old) new
one_faults node making part done begins makes old mid new one units refuses = λ frames calls.
    let stop =
    made_stops node making done makes (one.a ∷ []) (store_in old) one.state old.units mid.units new.fault (gathered_makes node making (part and none) begins (one.a ∷ []) one.state old mid one.gathered)
    (subst (λ (s : Store). Refuses new.fault (with_done (done (parts 1 s) s.state) (without 1 s))) one.put refuses) frames calls
    in
    (stop.0, stop.1, subst (λ n. Stops new.fault n stop.0) (sym units) stop.2)

pub two_make : (node : Node) (making : machine.Making) (left right : Node) (done : List LuaValue → State → Done LuaValue) → Begins node making (left and right and none) → Makes making done → (old mid : Machine) (state : LuaState) →
    HasTwo making left right old mid → with_done (done (parts 2 (store_in mid)) (state_in mid)) (without 2 (store_in mid)) ≡ Ok (store_of state) → IsValued (evaluation node old) old (record mid { state = state })
two_make node making left right done begins makes old mid state two is = simple_valued node old (record mid { state = state }) two.keeps two.pending
    (made_gives node making done makes (two.a ∷ two.b ∷ []) (store_in old) (store_of state) two.state old.units mid.units (gathered_makes node making (left and right and none) begins (two.a ∷ two.b ∷ []) two.state old mid two.gathered)
    (subst (λ (s : Store). with_done (done (parts 2 s) s.state) (without 2 s) ≡ Ok (store_of state)) two.put is))

pub two_fault : (node : Node) (making : machine.Making) (left right : Node) (done : List LuaValue → State → Done LuaValue) → Begins node making (left and right and none) → Makes making done → (old mid new : Machine) →
    HasTwo making left right old mid → new.units ≡ mid.units → Refuses new.fault (with_done (done (parts 2 (store_in mid)) (state_in mid)) (without 2 (store_in mid))) → IsHalted (evaluation node old) new
two_fault node making left right done begins makes old mid new two units refuses = λ frames calls.
    let stop =
    made_stops node making done makes (two.a ∷ two.b ∷ []) (store_in old) two.state old.units mid.units new.fault (gathered_makes node making (left and right and none) begins (two.a ∷ two.b ∷ []) two.state old mid two.gathered)
    (subst (λ (s : Store). Refuses new.fault (with_done (done (parts 2 s) s.state) (without 2 s))) two.put refuses) frames calls
    in
    (stop.0, stop.1, subst (λ n. Stops new.fault n stop.0) (sym units) stop.2)

-- ---- as a part, for turns

-- a part that was given is passed
pub leads_on : (making : machine.Making) (count : ℕ) (part : Node) (others : Nodes) (old new : Machine) → IsGiven part old new →
    Reaches (parts_left making count (part and others) old) (parts_left making (count + 1) others new)
leads_on making count part others old new ((frames, calls), given) =
    let from = parts_left making count (part and others) old in
    let reached = part_given making count part others (reverse old.frames.items) old.calls (store_in old) (store_in new) old.units new.units given in
    subst (λ fs. Reaches from (taking.parts_left making (count + 1) others (reverse fs) new.calls (store_in new) new.units)) (sym frames)
    (subst (λ n. Reaches from (taking.parts_left making (count + 1) others (reverse old.frames.items) n (store_in new) new.units)) (sym calls) reached)

pub passes_lead : (result : Result (Option Control) LuaError) (making : machine.Making) (count : ℕ) (part : Node) (others : Nodes) (old new : Machine) → Passes result making count part others old new → passing.Leads result making count part others old new
passes_lead (Ok None) making count part others old new passes = leads_on making count part others old new passes
passes_lead (Ok (Some control)) making count part others old new passes = tt
passes_lead (Err why) making count part others old new passes = tt

-- and behind it there is one value more
pub leads_to : (making : machine.Making) (count more : ℕ) (others : Nodes) (from : Turned) (new : Machine) → more ≡ count + 1 → Reaches from (parts_left making (count + 1) others new) → Reaches from (parts_left making more others new)
leads_to making count more others from new is leads = subst (λ n. Reaches from (parts_left making n others new)) (sym is) leads

-- none is left
pub none_left : (making : machine.Making) (count : ℕ) (left : List Expr) (from : Turned) (now : Machine) → length left ≡ 0 → Reaches from (parts_left making count (nodes (map node_of left)) now) → Reaches from (parts_left making count none now)
none_left making count [] from now is reached = reached
none_left making count (next ∷ others) from now is reached = absurd (omega (arith, is))
