-- Statements that are executed where they stand.
use Rattle.std.proofs.Common.{◌≡◌, ◌∙◌, ℕ, ◌+◌, ◌<◌, Bool, true, false, List, [], ◌∷◌, ◌++◌, Option, Some, length, refl, sym, ap, subst, Result, Ok, Err, if◌then◌else◌}
use Rattle.lua_tree.specs.declared.tree.Arm.{Arm}
use Rattle.lua_tree.specs.declared.tree.LuaBlock.{LuaBlock}
use Rattle.lua_tree.specs.declared.tree.LuaStatement.{LuaStatement}
use Rattle.lua_tree.specs.declared.tree.LuaStatement.TheFolds as folds
use Rattle.lua_machine.specs.Answer.{most_units}
use Rattle.lua_machine.specs.Machine as machine
use Rattle.lua_machine.specs.Machine.{Turned, Next, Ended}
use Rattle.lua_machine.specs.State.{State, assigned, declared, gives}
use Rattle.lua_machine.specs.Tables.{stored}
use Rattle.lua_machine.specs.Tree as t
use Rattle.lua_machine.specs.Tree.{ArmNode, ArmNodes, BlockNode, Node, Nodes, StatementNode, arm_level, arm_of, block_level, block_of, node_of, none, statement_level, ◌and◌, ◌andthen◌}
use Rattle.lua_machine.specs.Turn.{arm_if, back, begun, choosing, cut_to, evaluating, left, made, paid, running}
use Rattle.lua_machine.specs.Value.{LuaValue, Nil, Truth, Number, Text, Table, Fault, TypeFault, is_key, is_true}
use Rattle.lua_machine.specs.Value as value
use Rattle.lua_machine.specs.Yields as lua
use Rattle.lua_machine.specs.Yields.{Gone, goes, put}
use Rattle.lua_machine.specs.declared.error.LuaError.{LuaError}
use Rattle.lua_machine.specs.declared.error.LuaError.TheVariants as e
use Rattle.lua_state.specs.Held.{store_of}
use Rattle.lua_state.specs.Store.{Refuses, Store, ended, in_state, newest, parts, popped, pushed, with_ended, without}
use Rattle.lua_state.specs.declared.state.LuaState.{LuaState}
use Rattle.lua_frames.specs.declared.frame.Frame.{Frame}
use Rattle.lua_frames.specs.declared.frame.Frame.TheVariants as f
use Rattle.lua_frames.specs.declared.machine.Machine.{Machine}
use Rattle.lua_frames.specs.declared.outcome.Outcome.{Outcome}
use Rattle.lua_frames.specs.declared.outcome.Outcome.TheVariants as o
use Rattle.lua_frames.specs.declared.valued.Valued.{Valued}
use Rattle.lua_frames.specs.declared.valued.Valued.TheVariants as v
use Rattle.lua_frames.specs.Executing.{Executes, IsLeft, LeavesUnder, ValueFor, awaited, block, choice, execution, inner_block, paid_evaluation}
use Rattle.lua_frames.specs.Frames.{around, frame_of, waits_in}
use Rattle.lua_frames.specs.Machines.{state_in, store_in}
use Rattle.lua_frames.specs.Parts.{arms_in, block_in}
use Rattle.lua_frames.specs.Standing.{HasThree, IsHalted, IsValued, Keeps, PartEvaluates, Start, TakesThree, WaitsInside, WaitsUnder, evaluation, gathering, operating}
use Rattle.lua_frames.specs.Turns.{Reaches, Stops}
use Rattle.lua_frames.proofs.Hanging.{Leads, Led, halted_behind, led_paid, one_reaches, unpaid, valued_behind, waits_behind, waits_through}
use Rattle.lua_frames.proofs.Parted.{one_part_more, without_one_more}
use Rattle.lua_frames.proofs.Reaching.{reaches_itself, reaches_through}

ok_is : {T : Type 0} {a b : T} → (let x : Result T Fault = Ok a in x) ≡ Ok b → a ≡ b
ok_is same = cc

err_is : {T : Type 0} {a b : Fault} → (let x : Result T Fault = Err a in x) ≡ Err b → a ≡ b
err_is same = cc

ok_isnt_err : {T : Type 0} {a : T} {b : Fault} {A : Type 0} → Ok a ≡ Err b → A
ok_isnt_err same = cc

err_isnt_ok : {T : Type 0} {a : T} {b : Fault} {A : Type 0} → Err b ≡ Ok a → A
err_isnt_ok same = cc

-- ---- the value of a statement

-- its unit is paid
pub pays_value : (node : Node) (old : Machine) (cost : ℕ) → cost ≡ old.units + 1 → Led (paid_evaluation node old) (evaluation node (record old { units = cost })) old (record old { units = cost })
pays_value node old cost is = led_paid (paid_evaluation node old) (evaluation node (record old { units = cost })) old cost
    (λ frames calls. subst (λ n. Reaches (paid_evaluation node old frames calls) (evaluating node frames calls (state_in old) n)) (sym is) (reaches_itself (paid_evaluation node old frames calls)))

pub value_waits : (result : Valued) (frame : Frame) (node : Node) (old new : Machine) → WaitsUnder result (paid_evaluation node old) (waits_in (store_in old)) frame old new → ValueFor result frame node old new
value_waits v.Given frame node old new waits = absurd waits
value_waits v.Waits frame node old new waits = waits
value_waits v.Stopped frame node old new halts = halts (awaited frame node old)

-- a statement whose value a frame waits for
pub value_left : (frame : machine.Frame) (from : Start) (node : Node) (old mid : Machine) (change : LuaValue → State → State) (after : LuaState) → Leads from (λ frames calls. paid_evaluation node old (frame ∷ frames) calls) →
    ((given : LuaValue) (state : State) (frames : List machine.Frame) (calls cost : ℕ) → Reaches (back (gives given state) (frame ∷ frames) calls cost) (left (goes (change given state)) frames calls cost)) →
    IsValued (paid_evaluation node old) old mid → store_of after ≡ in_state (change (newest (store_in mid).values) (state_in mid)) (popped (store_in mid)) → IsLeft lua.Goes from old (record mid { state = after })
value_left frame from node old mid change after begins ends valued is = record {
  keeps = valued.keeps;
  pending = valued.pending;
  state = change valued.value valued.state;
  put = is ∙ ap (λ (store : Store). in_state (change (newest store.values) store.state) (popped store)) valued.put;
  reaches = λ frames calls. reaches_through (begins frames calls) (reaches_through (valued.reaches (frame ∷ frames) calls) (ends valued.value valued.state frames calls mid.units));
}

-- a statement takes a turn to its value
pub begins_local : (called : List ℕ) (node : Node) (old : Machine) → Leads (execution (t.Local called (Some node)) old) (λ frames calls. paid_evaluation node old (machine.Declares called ∷ frames) calls)
begins_local called node old frames calls = one_reaches (record { control = machine.Execute (t.Local called (Some node)); frames = frames; calls = calls; state = state_in old; cost = old.units }) (paid_evaluation node old (machine.Declares called ∷ frames) calls) (λ chunk main. refl)

pub begins_assign : (called : List ℕ) (node : Node) (old : Machine) → Leads (execution (t.Assign called node) old) (λ frames calls. paid_evaluation node old (machine.Assigns called ∷ frames) calls)
begins_assign called node old frames calls = one_reaches (record { control = machine.Execute (t.Assign called node); frames = frames; calls = calls; state = state_in old; cost = old.units }) (paid_evaluation node old (machine.Assigns called ∷ frames) calls) (λ chunk main. refl)

pub begins_return : (node : Node) (old : Machine) → Leads (execution (t.Return (Some node)) old) (λ frames calls. paid_evaluation node old (machine.ReturnsIt ∷ frames) calls)
begins_return node old frames calls = one_reaches (record { control = machine.Execute (t.Return (Some node)); frames = frames; calls = calls; state = state_in old; cost = old.units }) (paid_evaluation node old (machine.ReturnsIt ∷ frames) calls) (λ chunk main. refl)

-- and one behind it
abbrev back_one : (given : LuaValue) (state : State) (frame : machine.Frame) (frames : List machine.Frame) (calls cost : ℕ) → machine.Machine
back_one given state frame frames calls cost = record { control = machine.Back (lua.Returns given); frames = frame ∷ frames; calls = calls; state = state; cost = cost }

pub local_left : (called : List ℕ) (node : Node) (old mid : Machine) (after : LuaState) → IsValued (paid_evaluation node old) old mid → store_of after ≡ in_state (declared called (newest (store_in mid).values) (state_in mid)) (popped (store_in mid)) →
    IsLeft lua.Goes (execution (t.Local called (Some node)) old) old (record mid { state = after })
local_left called node old mid after valued is = value_left (machine.Declares called) (execution (t.Local called (Some node)) old) node old mid (declared called) after (begins_local called node old)
    (λ given state frames calls cost. one_reaches (back_one given state (machine.Declares called) frames calls cost) (left (goes (declared called given state)) frames calls cost) (λ chunk main. refl)) valued is

pub assign_left : (called : List ℕ) (node : Node) (old mid : Machine) (after : LuaState) → IsValued (paid_evaluation node old) old mid → store_of after ≡ in_state (assigned called (newest (store_in mid).values) (state_in mid)) (popped (store_in mid)) →
    IsLeft lua.Goes (execution (t.Assign called node) old) old (record mid { state = after })
assign_left called node old mid after valued is = value_left (machine.Assigns called) (execution (t.Assign called node) old) node old mid (assigned called) after (begins_assign called node old)
    (λ given state frames calls cost. one_reaches (back_one given state (machine.Assigns called) frames calls cost) (left (goes (assigned called given state)) frames calls cost) (λ chunk main. refl)) valued is

pub returned : (node : Node) (old mid : Machine) → IsValued (paid_evaluation node old) old mid → IsValued (execution (t.Return (Some node)) old) old mid
returned node old mid valued = record {
  keeps = valued.keeps;
  pending = valued.pending;
  value = valued.value;
  state = valued.state;
  put = valued.put;
  reaches = λ frames calls. reaches_through (begins_return node old frames calls) (reaches_through (valued.reaches (machine.ReturnsIt ∷ frames) calls)
      (one_reaches (back_one valued.value valued.state machine.ReturnsIt frames calls mid.units) (back (gives valued.value valued.state) frames calls mid.units) (λ chunk main. refl)));
}

-- ---- three parts

-- so many parts are there
pub record Gathers (from : Start) (making : machine.Making) (count : ℕ) (nodes : Nodes) (old mid : Machine) : Type 0 where
  pub keeps : Keeps old mid
  pub pending : mid.pending.items ≡ old.pending.items
  pub base : waits_in (without count (store_in mid)) ≡ waits_in (store_in old)
  pub leads : Leads from (gathering making count nodes mid)

-- none, where the unit is paid
pub gathers_none : (making : machine.Making) (first : Node) (others : Nodes) (old : Machine) (cost : ℕ) → cost ≡ old.units + 1 → Gathers (operating making (first and others) old) making 0 (first and others) old (record old { units = cost })
gathers_none making first others old cost is = record {
  keeps = (refl, refl);
  pending = refl;
  base = refl;
  leads = λ frames calls. subst (λ n. Reaches (operating making (first and others) old frames calls) (begun making [] (first and others) frames calls (state_in old) n)) (sym is) (reaches_itself (operating making (first and others) old frames calls));
}

part_leads : (making : machine.Making) (count : ℕ) (part : Node) (others : Nodes) (old mid : Machine) → IsValued (evaluation part old) old mid → Leads (gathering making count (part and others) old) (gathering making (count + 1) others mid)
part_leads making count part others old mid valued frames calls =
    let from = gathering making count (part and others) old frames calls in
    let before = parts count (store_in old) in
    let store = in_state valued.state (store_in old) in
    let reached : Reaches from (begun making (before ++ valued.value ∷ []) others frames calls valued.state mid.units) =
    reaches_through (valued.reaches (machine.Part making before others ∷ frames) calls) (one_reaches (back_one valued.value valued.state (machine.Part making before others) frames calls mid.units) (begun making (before ++ valued.value ∷ []) others frames calls valued.state mid.units) (λ chunk main. refl)) in
    subst (λ (s : Store). Reaches from (begun making (parts (count + 1) s) others frames calls s.state mid.units)) (sym valued.put)
    (subst (λ values. Reaches from (begun making values others frames calls valued.state mid.units)) (sym (one_part_more count valued.value store)) reached)

-- one more
pub gathers_more : (from : Start) (making : machine.Making) (count : ℕ) (part : Node) (others : Nodes) (old mid new : Machine) → Gathers from making count (part and others) old mid → IsValued (evaluation part mid) mid new → Gathers from making (count + 1) others old new
gathers_more from making count part others old mid new gathers valued = record {
  keeps = (valued.keeps.0 ∙ gathers.keeps.0, valued.keeps.1 ∙ gathers.keeps.1);
  pending = valued.pending ∙ gathers.pending;
  base = ap (λ store. waits_in (without (count + 1) store)) valued.put ∙ ap waits_in (without_one_more count valued.value (in_state valued.state (store_in mid))) ∙ gathers.base;
  leads = λ frames calls. reaches_through (gathers.leads frames calls) (part_leads making count part others mid new valued frames calls);
}

-- or turns came to a place in it
pub gathers_wait : (from : Start) (making : machine.Making) (count : ℕ) (nodes : Nodes) (old mid new : Machine) → Gathers from making count nodes old mid → WaitsInside (gathering making count nodes mid) (waits_in (without count (store_in mid))) mid new → WaitsInside from (waits_in (store_in old)) old new
gathers_wait from making count nodes old mid new gathers waits = waits_through from (gathering making count nodes mid) (waits_in (store_in old)) (waits_in (without count (store_in mid))) old mid new gathers.keeps gathers.pending gathers.base gathers.leads waits

pub three_take : (result : Valued) (making : machine.Making) (first second third : Node) (old one two new : Machine) (cost : ℕ) → cost ≡ old.units + 1 →
    IsValued (evaluation first (record old { units = cost })) (record old { units = cost }) one → IsValued (evaluation second one) one two → PartEvaluates result making 2 third none two new → TakesThree result making first second third old new
three_take v.Given making first second third old one two new cost is a b c =
    let from = operating making (first and second and third and none) old in
    let at = record old { units = cost } in
    let gathers = gathers_more from making 1 second (third and none) old one two (gathers_more from making 0 first (second and third and none) old at one (gathers_none making first (second and third and none) old cost is) a) b in
    let put = c.put ∙ ap (λ s. pushed c.value (in_state c.state s)) (b.put ∙ ap (λ s. pushed b.value (in_state b.state s)) a.put) in
    record {
      keeps = (c.keeps.0 ∙ gathers.keeps.0, c.keeps.1 ∙ gathers.keeps.1);
      pending = c.pending ∙ gathers.pending;
      a = a.value;
      b = b.value;
      c = c.value;
      state = c.state;
      put = put;
      gathered = λ frames calls. subst (λ (s : Store). Reaches (from frames calls) (made making (parts 3 s) frames calls s.state new.units)) put ((gathers_more from making 2 third none old two new gathers c).leads frames calls);
    }
three_take v.Waits making first second third old one two new cost is a b waits =
    let from = operating making (first and second and third and none) old in
    let at = record old { units = cost } in
    gathers_wait from making 2 (third and none) old two new (gathers_more from making 1 second (third and none) old one two (gathers_more from making 0 first (second and third and none) old at one (gathers_none making first (second and third and none) old cost is) a) b) waits
three_take v.Stopped making first second third old one two new cost is a b halts =
    let from = operating making (first and second and third and none) old in
    let at = record old { units = cost } in
    halted_behind from (gathering making 2 (third and none) two) new (gathers_more from making 1 second (third and none) old one two (gathers_more from making 0 first (second and third and none) old at one (gathers_none making first (second and third and none) old cost is) a) b).leads halts

-- ---- a table

-- a table is changed, or there is a fault
put_goes : (line : ℕ) (a b c : LuaValue) (state : State) (store new : Store) → with_ended (ended (put line (a ∷ b ∷ c ∷ []) state)) store ≡ Ok new → (after : State) × (put line (a ∷ b ∷ c ∷ []) state ≡ goes after) × (new ≡ in_state after store)
put_goes line (Table at) b c state store new is = by (is_key b) is
  where
    by : (holds : Bool) → with_ended (ended (if holds then goes (record state { tables = stored state.tables at b c }) else lua.stops (TypeFault line) state)) store ≡ Ok new →
        (after : State) × ((if holds then goes (record state { tables = stored state.tables at b c }) else lua.stops (TypeFault line) state) ≡ goes after) × (new ≡ in_state after store)
    by true is = (record state { tables = stored state.tables at b c }, refl, sym (ok_is is))
    by false is = err_isnt_ok is
put_goes line Nil b c state store new is = err_isnt_ok is
put_goes line (Truth _) b c state store new is = err_isnt_ok is
put_goes line (Number _) b c state store new is = err_isnt_ok is
put_goes line (Text _) b c state store new is = err_isnt_ok is

refused_left : (way : lua.Way) (state : State) (store : Store) (frames : List machine.Frame) (calls cost : ℕ) (why : Fault) → with_ended (ended (record { way = way; state = state })) store ≡ Err why → left (record { way = way; state = state }) frames calls cost ≡ Ended (Err why) cost
refused_left lua.Goes state store frames calls cost why is = ok_isnt_err is
refused_left lua.Breaks state store frames calls cost why is = ok_isnt_err is
refused_left (lua.Returns _) state store frames calls cost why is = ok_isnt_err is
refused_left (lua.Fails fault) state store frames calls cost why is = ap (λ f. Ended (Err f) cost) (err_is is)

stopped_left : (why : LuaError) (gone : Gone) (store : Store) (frames : List machine.Frame) (calls cost : ℕ) → Refuses why (with_ended (ended gone) store) → Stops why cost (left gone frames calls cost)
stopped_left (e.TypeFault line) gone store frames calls cost is = refused_left gone.way gone.state store frames calls cost (value.TypeFault line) is
stopped_left (e.UnknownName line) gone store frames calls cost is = refused_left gone.way gone.state store frames calls cost (value.UnknownName line) is
stopped_left (e.Inexact line) gone store frames calls cost is = refused_left gone.way gone.state store frames calls cost (value.Inexact line) is
stopped_left (e.OutOfRange line) gone store frames calls cost is = refused_left gone.way gone.state store frames calls cost (value.OutOfRange line) is
stopped_left (e.LongString line) gone store frames calls cost is = refused_left gone.way gone.state store frames calls cost (value.LongString line) is
stopped_left (e.TooDeepCalls line) gone store frames calls cost is = refused_left gone.way gone.state store frames calls cost (value.TooDeepCalls line) is
stopped_left e.Budget gone store frames calls cost is = absurd is
stopped_left e.NoMemory gone store frames calls cost is = tt

pub begins_put : (table key of : Node) (line : ℕ) (old : Machine) → Leads (execution (t.SetIndex table key of line) old) (operating (machine.Puts line) (table and key and of and none) old)
begins_put table key of line old frames calls = one_reaches (record { control = machine.Execute (t.SetIndex table key of line); frames = frames; calls = calls; state = state_in old; cost = old.units }) (operating (machine.Puts line) (table and key and of and none) old frames calls) (λ chunk main. refl)

pub put_left : (table key of : Node) (line : ℕ) (old mid : Machine) (after : LuaState) → HasThree (machine.Puts line) table key of old mid →
    with_ended (ended (put line (parts 3 (store_in mid)) (state_in mid))) (without 3 (store_in mid)) ≡ Ok (store_of after) → IsLeft lua.Goes (execution (t.SetIndex table key of line) old) old (record mid { state = after })
put_left table key of line old mid after has is =
    let done = put_goes line has.a has.b has.c has.state (in_state has.state (store_in old)) (store_of after) (subst (λ (s : Store). with_ended (ended (put line (parts 3 s) s.state)) (without 3 s) ≡ Ok (store_of after)) has.put is) in
    record {
      keeps = has.keeps;
      pending = has.pending;
      state = done.0;
      put = done.2;
      reaches = λ frames calls. reaches_through (begins_put table key of line old frames calls)
          (subst (λ gone. Reaches (operating (machine.Puts line) (table and key and of and none) old frames calls) (left gone frames calls mid.units)) done.1 (has.gathered frames calls));
    }

pub put_stopped : (table key of : Node) (line : ℕ) (old mid new : Machine) → new.units ≡ mid.units → HasThree (machine.Puts line) table key of old mid → Refuses new.fault (with_ended (ended (put line (parts 3 (store_in mid)) (state_in mid))) (without 3 (store_in mid))) →
    IsHalted (execution (t.SetIndex table key of line) old) new
put_stopped table key of line old mid new same has is =
    let refuses = subst (λ (s : Store). Refuses new.fault (with_ended (ended (put line (parts 3 s) s.state)) (without 3 s))) has.put is in
    λ frames calls. (
      left (put line (has.a ∷ has.b ∷ has.c ∷ []) has.state) frames calls mid.units,
      reaches_through (begins_put table key of line old frames calls) (has.gathered frames calls),
      subst (λ n. Stops new.fault n (left (put line (has.a ∷ has.b ∷ has.c ∷ []) has.state) frames calls mid.units)) (sym same)
          (stopped_left new.fault (put line (has.a ∷ has.b ∷ has.c ∷ []) has.state) (in_state has.state (store_in old)) frames calls mid.units refuses),
    )

-- ---- statements one after the other

left_behind : (way : lua.Way) (from to : Start) (old mid new : Machine) → Led from to old mid → IsLeft way to mid new → IsLeft way from old new
left_behind way from to old mid new led done = record {
  keeps = (done.keeps.0 ∙ led.keeps.0, done.keeps.1 ∙ led.keeps.1);
  pending = done.pending ∙ led.pending;
  state = done.state;
  put = done.put ∙ ap (in_state done.state) led.put;
  reaches = λ frames calls. reaches_through (led.leads frames calls) (done.reaches frames calls);
}

-- the same behind turns that changed nothing but the state
pub executes_behind : (result : Outcome) (from to : Start) (old mid new : Machine) → Led from to old mid → Executes result to mid new → Executes result from old new
executes_behind o.Goes from to old mid new led done = left_behind lua.Goes from to old mid new led done
executes_behind o.Breaks from to old mid new led done = left_behind lua.Breaks from to old mid new led done
executes_behind o.Returns from to old mid new led done = valued_behind from to old mid new led done
executes_behind o.Waits from to old mid new led done = waits_behind from to old mid new led done
executes_behind o.Stopped from to old mid new led done = halted_behind from to new led.leads done

-- a frame waits under it
pub leaves_executes : (result : Outcome) (start : Start) (frame : Frame) (old new : Machine) → around frame (waits_in (store_in old)) ≡ waits_in (store_in old) → LeavesUnder result start (waits_in (store_in old)) frame old new →
    Executes result (λ frames calls. start (frame_of frame (waits_in (store_in old)) ∷ frames) calls) old new
leaves_executes o.Goes start frame old new same leaves = absurd leaves
leaves_executes o.Breaks start frame old new same leaves = absurd leaves
leaves_executes o.Returns start frame old new same leaves = absurd leaves
leaves_executes o.Waits start frame old new same leaves = subst (λ w. WaitsInside (λ frames calls. start (frame_of frame (waits_in (store_in old)) ∷ frames) calls) w old new) same leaves
leaves_executes o.Stopped start frame old new same leaves = leaves (λ frames calls. start (frame_of frame (waits_in (store_in old)) ∷ frames) calls)

-- a statement that goes on to those behind it
pub goes_on : (from : Start) (first : StatementNode) (rest : BlockNode) (old mid new : Machine) → Led from (block (first andthen rest) mid) old mid → IsLeft lua.Goes (execution first mid) mid new → Led from (block rest new) old new
goes_on from first rest old mid new led done = record {
  keeps = (done.keeps.0 ∙ led.keeps.0, done.keeps.1 ∙ led.keeps.1);
  pending = done.pending ∙ led.pending;
  state = done.state;
  put = done.put ∙ ap (in_state done.state) led.put;
  leads = λ frames calls. subst (λ state. Reaches (from frames calls) (running rest frames calls state new.units)) (sym (ap (λ (s : Store). s.state) done.put))
      (reaches_through (led.leads frames calls) (reaches_through (done.reaches (machine.Others rest ∷ frames) calls)
      (one_reaches (record { control = machine.Back lua.Goes; frames = machine.Others rest ∷ frames; calls = calls; state = done.state; cost = new.units }) (running rest frames calls done.state new.units) (λ chunk main. refl))));
}

-- one that is left by a break, or by a return, leaves those behind it
pub breaks_out : (from : Start) (first : StatementNode) (rest : BlockNode) (old mid new : Machine) → Led from (block (first andthen rest) mid) old mid → IsLeft lua.Breaks (execution first mid) mid new → IsLeft lua.Breaks from old new
breaks_out from first rest old mid new led done = record {
  keeps = (done.keeps.0 ∙ led.keeps.0, done.keeps.1 ∙ led.keeps.1);
  pending = done.pending ∙ led.pending;
  state = done.state;
  put = done.put ∙ ap (in_state done.state) led.put;
  reaches = λ frames calls. reaches_through (led.leads frames calls) (reaches_through (done.reaches (machine.Others rest ∷ frames) calls)
      (one_reaches (record { control = machine.Back lua.Breaks; frames = machine.Others rest ∷ frames; calls = calls; state = done.state; cost = new.units }) (left (record { way = lua.Breaks; state = done.state }) frames calls new.units) (λ chunk main. refl)));
}

pub returns_out : (from : Start) (first : StatementNode) (rest : BlockNode) (old mid new : Machine) → Led from (block (first andthen rest) mid) old mid → IsValued (execution first mid) mid new → IsValued from old new
returns_out from first rest old mid new led done = record {
  keeps = (done.keeps.0 ∙ led.keeps.0, done.keeps.1 ∙ led.keeps.1);
  pending = done.pending ∙ led.pending;
  value = done.value;
  state = done.state;
  put = done.put ∙ ap (λ store. pushed done.value (in_state done.state store)) led.put;
  reaches = λ frames calls. reaches_through (led.leads frames calls) (reaches_through (done.reaches (machine.Others rest ∷ frames) calls)
      (one_reaches (back_one done.value done.state (machine.Others rest) frames calls new.units) (back (gives done.value done.state) frames calls new.units) (λ chunk main. refl)));
}

pub halts_in : (from : Start) (first : StatementNode) (rest : BlockNode) (old mid new : Machine) → Led from (block (first andthen rest) mid) old mid → IsHalted (execution first mid) new → IsHalted from new
halts_in from first rest old mid new led halts = halted_behind from (block (first andthen rest) mid) new led.leads (λ frames calls. halts (machine.Others rest ∷ frames) calls)

-- ---- a block whose locals end with it

inner_turn : (way : lua.Way) (outer : ℕ) (state : State) (frames : List machine.Frame) (calls cost : ℕ) → Reaches (left (record { way = way; state = state }) (machine.Inner outer ∷ frames) calls cost) (left (record { way = way; state = cut_to outer state }) frames calls cost)
inner_turn lua.Goes outer state frames calls cost = one_reaches (record { control = machine.Back lua.Goes; frames = machine.Inner outer ∷ frames; calls = calls; state = state; cost = cost }) (left (goes (cut_to outer state)) frames calls cost) (λ chunk main. refl)
inner_turn lua.Breaks outer state frames calls cost = one_reaches (record { control = machine.Back lua.Breaks; frames = machine.Inner outer ∷ frames; calls = calls; state = state; cost = cost }) (left (record { way = lua.Breaks; state = cut_to outer state }) frames calls cost) (λ chunk main. refl)
inner_turn (lua.Returns given) outer state frames calls cost = one_reaches (back_one given state (machine.Inner outer) frames calls cost) (back (gives given (cut_to outer state)) frames calls cost) (λ chunk main. refl)
inner_turn (lua.Fails why) outer state frames calls cost = reaches_itself (Ended (Err why) cost)

pub inner_left : (way : lua.Way) (outer : ℕ) (body : BlockNode) (old mid : Machine) (after : LuaState) → outer ≡ length (state_in old).locals → IsLeft way (block body old) old mid → store_of after ≡ in_state (cut_to outer (state_in mid)) (store_in mid) →
    IsLeft way (inner_block body old) old (record mid { state = after })
inner_left way outer body old mid after is done cut = record {
  keeps = done.keeps;
  pending = done.pending;
  state = cut_to outer done.state;
  put = cut ∙ ap (λ (store : Store). in_state (cut_to outer store.state) store) done.put;
  reaches = λ frames calls. subst (λ n. Reaches (block body old (machine.Inner n ∷ frames) calls) (left (record { way = way; state = cut_to outer done.state }) frames calls mid.units)) is
      (reaches_through (done.reaches (machine.Inner outer ∷ frames) calls) (inner_turn way outer done.state frames calls mid.units));
}

pub inner_returns : (outer : ℕ) (body : BlockNode) (old mid : Machine) (after : LuaState) → outer ≡ length (state_in old).locals → IsValued (block body old) old mid → store_of after ≡ in_state (cut_to outer (state_in mid)) (store_in mid) →
    IsValued (inner_block body old) old (record mid { state = after })
inner_returns outer body old mid after is done cut = record {
  keeps = done.keeps;
  pending = done.pending;
  value = done.value;
  state = cut_to outer done.state;
  put = cut ∙ ap (λ (store : Store). in_state (cut_to outer store.state) store) done.put;
  reaches = λ frames calls. subst (λ n. Reaches (block body old (machine.Inner n ∷ frames) calls) (back (gives done.value (cut_to outer done.state)) frames calls mid.units)) is
      (reaches_through (done.reaches (machine.Inner outer ∷ frames) calls) (inner_turn (lua.Returns done.value) outer done.state frames calls mid.units));
}

pub inner_waits : (result : Outcome) (outer : ℕ) (body : BlockNode) (old new : Machine) → outer ≡ length (state_in old).locals → LeavesUnder result (block body old) (waits_in (store_in old)) (f.Inner outer) old new → Executes result (inner_block body old) old new
inner_waits result outer body old new is leaves = subst (λ n. Executes result (λ frames calls. block body old (machine.Inner n ∷ frames) calls) old new) is (leaves_executes result (block body old) (f.Inner outer) old new refl leaves)

-- ---- a choice

-- an arm is its test with its block, and a block is its statements
arm_seen : (one : Arm) → arm_of one ≡ (node_of one.test, block_of one.body)
arm_seen one = folds.fold_out-Arm StatementNode ArmNode BlockNode statement_level arm_level block_level one

pub block_seen : (body : LuaBlock) (all : List LuaStatement) → all ≡ body.statements → block_in all ≡ block_of body
block_seen body all is = ap block_in is ∙ sym (folds.fold_out-LuaBlock StatementNode ArmNode BlockNode statement_level arm_level block_level body)

-- turns lead to the first of the arms that are left
pub led_to_arm : (from : Start) (one : Arm) (left others : List Arm) (otherwise : Option LuaBlock) (old mid : Machine) → left ≡ one ∷ others → Led from (choice (arms_in left otherwise) mid) old mid → Led from (choice (t.arm (node_of one.test) (block_of one.body) (arms_in others otherwise)) mid) old mid
led_to_arm from one left others otherwise old mid is led = subst (λ (seen : ArmNode). Led from (choice (t.arm seen.0 seen.1 (arms_in others otherwise)) mid) old mid) (arm_seen one) (subst (λ (all : List Arm). Led from (choice (arms_in all otherwise) mid) old mid) is led)

-- its test tells what is executed
pub test_tells : (holds : Bool) (from : Start) (test : Node) (body : BlockNode) (others : ArmNodes) (old mid new : Machine) (after : LuaState) → Led from (choice (t.arm test body others) mid) old mid → IsValued (evaluation test mid) mid new →
    holds ≡ is_true (newest (store_in new).values) → store_of after ≡ popped (store_in new) →
    Led from (λ frames calls. arm_if holds body others frames calls (store_of after).state new.units) old (record new { state = after })
test_tells holds from test body others old mid new after led valued truth taken =
    let is = taken ∙ ap popped valued.put in
    record {
      keeps = (valued.keeps.0 ∙ led.keeps.0, valued.keeps.1 ∙ led.keeps.1);
      pending = valued.pending ∙ led.pending;
      state = valued.state;
      put = is ∙ ap (in_state valued.state) led.put;
      leads = λ frames calls. subst (λ h. Reaches (from frames calls) (arm_if h body others frames calls (store_of after).state new.units)) (sym (truth ∙ ap (λ (s : Store). is_true (newest s.values)) valued.put))
          (subst (λ state. Reaches (from frames calls) (arm_if (is_true valued.value) body others frames calls state new.units)) (sym (ap (λ (s : Store). s.state) is))
          (reaches_through (led.leads frames calls) (reaches_through (valued.reaches (machine.ArmTest body others ∷ frames) calls)
          (one_reaches (back_one valued.value valued.state (machine.ArmTest body others) frames calls new.units) (arm_if (is_true valued.value) body others frames calls valued.state new.units) (λ chunk main. refl)))));
    }

pub test_halts : (from : Start) (test : Node) (body : BlockNode) (others : ArmNodes) (old mid new : Machine) → Led from (choice (t.arm test body others) mid) old mid → IsHalted (evaluation test mid) new → IsHalted from new
test_halts from test body others old mid new led halts = halted_behind from (choice (t.arm test body others) mid) new led.leads (λ frames calls. halts (machine.ArmTest body others ∷ frames) calls)

-- its unit is paid
begins_if : (arms : ArmNodes) (old : Machine) → Leads (execution (t.If arms) old) (λ frames calls. choosing arms frames calls (state_in old) (old.units + 1))
begins_if arms old frames calls = one_reaches (record { control = machine.Execute (t.If arms); frames = frames; calls = calls; state = state_in old; cost = old.units }) (choosing arms frames calls (state_in old) (old.units + 1)) (λ chunk main. refl)

pub pays_choice : (arms : ArmNodes) (old : Machine) (cost : ℕ) → cost ≡ old.units + 1 → Led (execution (t.If arms) old) (choice arms (record old { units = cost })) old (record old { units = cost })
pays_choice arms old cost is = led_paid (execution (t.If arms) old) (choice arms (record old { units = cost })) old cost
    (λ frames calls. subst (λ n. Reaches (execution (t.If arms) old frames calls) (choosing arms frames calls (state_in old) n)) (sym is) (begins_if arms old frames calls))

running_paid : (body : BlockNode) (frames : List machine.Frame) (calls : ℕ) (state : State) (cost : ℕ) → paid (running body frames calls state cost) ≡ cost
running_paid t.finished frames calls state cost = refl
running_paid (first andthen others) frames calls state cost = refl

choosing_paid : (arms : ArmNodes) (frames : List machine.Frame) (calls : ℕ) (state : State) (cost : ℕ) → paid (choosing arms frames calls state cost) ≡ cost
choosing_paid t.no_else frames calls state cost = refl
choosing_paid (t.else_do body) frames calls state cost = running_paid body (machine.Inner (length state.locals) ∷ frames) calls state cost
choosing_paid (t.arm test body others) frames calls state cost = refl

-- or couldn't be
pub unpaid_choice : (arms : ArmNodes) (old new : Machine) → (new.fault ≡ e.Budget) × (most_units < old.units + 1) → IsHalted (execution (t.If arms) old) new
unpaid_choice arms old new spent = halted_behind (execution (t.If arms) old) (λ frames calls. choosing arms frames calls (state_in old) (old.units + 1)) new (begins_if arms old)
    (unpaid (λ frames calls. choosing arms frames calls (state_in old) (old.units + 1)) old.units new (λ frames calls. choosing_paid arms frames calls (state_in old) (old.units + 1)) spent)
