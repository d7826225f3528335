-- Arguments that are evaluated one after the other where they stand, and what is made of them.
use Rattle.std.proofs.Common.{◌≡◌, ◌∙◌, ℕ, ◌+◌, ◌<◌, List, [], ◌∷◌, ◌++◌, length, map, sym, ap, subst, Some, None, Result, Ok, Err, refl, arith}
use Rattle.lua_tree.specs.declared.tree.Expr.{Expr}
use Rattle.lua_machine.specs.Answer.{most_units}
use Rattle.lua_machine.specs.Library.{MathFunction, math_of, math_result}
use Rattle.lua_machine.specs.Machine as machine
use Rattle.lua_machine.specs.State.{State, Done}
use Rattle.lua_machine.specs.Tree as t
use Rattle.lua_machine.specs.Tree.{Node, Nodes, none, ◌and◌, node_of, nodes}
use Rattle.lua_machine.specs.Turn.{back, begun, expression_begun, math_begun, paid}
use Rattle.lua_machine.specs.Value.{Fault, LuaValue}
use Rattle.lua_machine.specs.declared.error.LuaError.{LuaError}
use Rattle.lua_machine.specs.declared.error.LuaError.TheVariants as e
use Rattle.lua_state.specs.Held.{store_of}
use Rattle.lua_state.specs.declared.state.LuaState.{LuaState}
use Rattle.lua_state.specs.Store.{Refuses, Store, in_state, parts, pushed, with_done, without}
use Rattle.lua_frames.specs.declared.machine.Machine.{Machine}
use Rattle.lua_frames.specs.declared.valued.Valued.{Valued}
use Rattle.lua_frames.specs.declared.valued.Valued.TheVariants as v
use Rattle.lua_frames.specs.Frames.{frames_of, waits_in}
use Rattle.lua_frames.specs.Machines.{state_in, store_in}
use Rattle.lua_frames.specs.Standing.{Evaluates, IsHalted, IsValued, Keeps, Start, WaitsInside, evaluation, gathering, math_calling, place, unknown_calling}
use Rattle.lua_frames.specs.Turns.{Reaches, Stops}
use Rattle.lua_frames.specs.Units.{Spends, SpendsAll}
use Rattle.lua_frames.proofs.Backs.{stopped_back}
use Rattle.lua_frames.proofs.Parted.{one_part_more, without_one_more}
use Rattle.lua_frames.proofs.Reaching.{none_after, reaches_itself, reaches_through}
use Rattle.lua_frames.proofs.Taking.{Makes, passed_one}

ok_is : {T : Type 0} {a b : T} → (let x : Result T Fault = Ok a in x) ≡ Ok b → a ≡ b
ok_is same = cc

err_isnt_ok : {T : Type 0} {a : T} {b : Fault} {A : Type 0} → Err b ≡ Ok a → A
err_isnt_ok same = cc

-- ---- from another start

-- turns lead to where an evaluation starts
pub evaluates_behind : (result : Valued) (from to : Start) (old new : Machine) → ((frames : List machine.Frame) (calls : ℕ) → Reaches (from frames calls) (to frames calls)) → Evaluates result to old new → Evaluates result from old new
evaluates_behind v.Given from to old new leads is = record {
  keeps = is.keeps;
  pending = is.pending;
  value = is.value;
  state = is.state;
  put = is.put;
  reaches = λ frames calls. reaches_through (leads frames calls) (is.reaches frames calls);
}
evaluates_behind v.Waits from to old new leads is = record {
  keeps = is.keeps;
  inner = is.inner;
  pending = is.pending;
  reaches = λ frames calls. reaches_through (leads (frames_of frames (waits_in (store_in old))) calls) (is.reaches frames calls);
}
evaluates_behind v.Stopped from to old new leads is = λ frames calls.
    let stop = is frames calls in
    (stop.0, reaches_through (leads frames calls) stop.1, stop.2)

-- a turn begins a call of a function of `math`
pub calls_math : (result : Valued) (called : List ℕ) (function : MathFunction) (args : Nodes) (line : ℕ) (old new : Machine) → Some function ≡ math_of called →
    Evaluates result (math_calling function args line old) old new → Evaluates result (evaluation (t.MathCall called args line) old) old new
calls_math result called function args line old new is evaluates = evaluates_behind result (evaluation (t.MathCall called args line) old) (math_calling function args line old) old new
    (λ frames calls. record {
      turns = 1;
      after = λ chunk main.
          none_after chunk main (expression_begun chunk (t.MathCall called args line) frames calls (state_in old) old.units) ∙ ap (λ f. math_begun f args line frames calls (state_in old) old.units) (sym is);
    }) evaluates

pub calls_unknown : (result : Valued) (called : List ℕ) (args : Nodes) (line : ℕ) (old new : Machine) → None ≡ math_of called →
    Evaluates result (unknown_calling line old) old new → Evaluates result (evaluation (t.MathCall called args line) old) old new
calls_unknown result called args line old new is evaluates = evaluates_behind result (evaluation (t.MathCall called args line) old) (unknown_calling line old) old new
    (λ frames calls. record {
      turns = 1;
      after = λ chunk main.
          none_after chunk main (expression_begun chunk (t.MathCall called args line) frames calls (state_in old) old.units) ∙ ap (λ f. math_begun f args line frames calls (state_in old) old.units) (sym is);
    }) evaluates

-- ---- units that aren't left

paid_back : (done : Done LuaValue) (frames : List machine.Frame) (calls cost : ℕ) → paid (back done frames calls cost) ≡ cost
paid_back done frames calls cost = by done.outcome done.state
  where
    by : (outcome : Result LuaValue Fault) (state : State) → paid (back (record { outcome = outcome; state = state }) frames calls cost) ≡ cost
    by (Ok value) state = refl
    by (Err why) state = refl

paid_math : (function : MathFunction) (line : ℕ) (nodes : Nodes) (frames : List machine.Frame) (calls : ℕ) (state : State) (cost : ℕ) → paid (begun (machine.Math function line) [] nodes frames calls state cost) ≡ cost
paid_math function line none frames calls state cost = paid_back (math_result function line [] state) frames calls cost
paid_math function line (first and others) frames calls state cost = refl

over : (why : LuaError) (now wanted : ℕ) (to : machine.Turned) → paid to ≡ wanted → (why ≡ e.Budget) × (most_units < wanted) → Stops why now to
over why now wanted to is (budget, more) = subst (λ w. Stops w now to) (sym budget) (subst (λ n. most_units < n) (sym is) more)

-- turns were stopped by this, where so many units are paid
abbrev pub Halts : Start → LuaError → ℕ → Type 0
Halts from why now = (frames : List machine.Frame) (calls : ℕ) → (to : machine.Turned) × Reaches (from frames calls) to × Stops why now to

pub math_unpaid : (function : MathFunction) (line : ℕ) (nodes : Nodes) (state : State) (cost now : ℕ) (why : LuaError) → Spends (Err why) cost now →
    Halts (λ frames calls. begun (machine.Math function line) [] nodes frames calls state (cost + 1)) why now
math_unpaid function line nodes state cost now why spends = λ frames calls.
    let to = begun (machine.Math function line) [] nodes frames calls state (cost + 1) in
    (to, reaches_itself to, over why now (cost + 1) to (paid_math function line nodes frames calls state (cost + 1)) spends)

pub floor_unpaid : (making : machine.Making) (first : Node) (others : Nodes) (state : State) (cost now : ℕ) (why : LuaError) → SpendsAll (Err why) 2 cost now →
    Halts (λ frames calls. begun making [] (first and others) frames calls state (cost + 2)) why now
floor_unpaid making first others state cost now why spends = λ frames calls.
    let to = begun making [] (first and others) frames calls state (cost + 2) in
    (to, reaches_itself to, over why now (cost + 2) to refl spends)

pub unknown_unpaid : (line : ℕ) (m : Machine) (now : ℕ) (why : LuaError) → Spends (Err why) m.units now → Halts (unknown_calling line m) why now
unknown_unpaid line m now why spends = λ frames calls.
    let to = unknown_calling line m frames calls in
    (to, reaches_itself to, over why now (m.units + 1) to refl spends)

-- ---- one after the other

-- the newest so many values are those of the parts before the ones that are left
pub record IsPassed (making : machine.Making) (all left : Nodes) (count : ℕ) (old now : Machine) : Type 0 where
  pub keeps : Keeps old now
  pub pending : now.pending.items ≡ old.pending.items
  pub others : without count (store_in now) ≡ in_state (state_in now) (store_in old)
  pub reaches : (frames : List machine.Frame) (calls : ℕ) → Reaches (begun making [] all frames calls (state_in old) old.units) (begun making (parts count (store_in now)) left frames calls (state_in now) now.units)

-- none at first
pub none_passed : (making : machine.Making) (all : Nodes) (m : Machine) → IsPassed making all all 0 m m
none_passed making all m = record {
  keeps = (refl, refl);
  pending = refl;
  others = refl;
  reaches = λ frames calls. reaches_itself (begun making [] all frames calls (state_in m) m.units);
}

-- one more
pub one_passed : (making : machine.Making) (all : Nodes) (part : Node) (others : Nodes) (count : ℕ) (old now new : Machine) → IsPassed making all (part and others) count old now → IsValued (evaluation part now) now new → IsPassed making all others (count + 1) old new
one_passed making all part others count old now new passed is =
    let put = in_state is.state (store_in now) in
    let state : is.state ≡ state_in new = sym (ap (λ (s : Store). s.state) is.put) in
    let behind : without (count + 1) (store_in new) ≡ in_state is.state (without count (store_in now)) = ap (without (count + 1)) is.put ∙ without_one_more count is.value put in
    record {
      keeps = (is.keeps.0 ∙ passed.keeps.0, is.keeps.1 ∙ passed.keeps.1);
      pending = is.pending ∙ passed.pending;
      others = behind ∙ ap (in_state is.state) passed.others ∙ ap (λ s. in_state s (store_in old)) state;
      reaches = λ frames calls.
          let from = begun making [] all frames calls (state_in old) old.units in
          let reached : Reaches from (begun making (parts count (store_in now) ++ is.value ∷ []) others frames calls is.state new.units) =
          reaches_through (passed.reaches frames calls) (passed_one making (parts count (store_in now)) part others frames calls (state_in now) is.state now.units new.units is.value is.reaches) in
          subst (λ (s : Store). Reaches from (begun making (parts (count + 1) s) others frames calls s.state new.units)) (sym is.put)
          (subst (λ values. Reaches from (begun making values others frames calls is.state new.units)) (sym (one_part_more count is.value put)) reached);
    }

-- what is left begins with the next one
pub next_left : (making : machine.Making) (all : Nodes) (left : List Expr) (next : Expr) (others : List Expr) (count : ℕ) (old now : Machine) → left ≡ next ∷ others →
    IsPassed making all (nodes (map node_of left)) count old now → IsPassed making all (node_of next and nodes (map node_of others)) count old now
next_left making all left next others count old now is passed = subst (λ (l : List Expr). IsPassed making all (nodes (map node_of l)) count old now) is passed

-- or is nothing
pub none_left : (making : machine.Making) (all : Nodes) (left : List Expr) (count : ℕ) (old now : Machine) → length left ≡ 0 →
    IsPassed making all (nodes (map node_of left)) count old now → IsPassed making all none count old now
none_left making all [] count old now is passed = passed
none_left making all (next ∷ others) count old now is passed = absurd (omega (arith, is))

-- turns came to a place in the next one
pub waits_in_part : (making : machine.Making) (all : Nodes) (part : Node) (others : Nodes) (count : ℕ) (old now new : Machine) → IsPassed making all (part and others) count old now →
    WaitsInside (gathering making count (part and others) now) (waits_in (without count (store_in now))) now new → WaitsInside (gathering making 0 all old) (waits_in (store_in old)) old new
waits_in_part making all part others count old now new passed waits = record {
  keeps = (waits.keeps.0 ∙ passed.keeps.0, waits.keeps.1 ∙ passed.keeps.1);
  inner = waits.inner;
  pending = waits.pending ∙ ap (λ items. items ++ waits.inner) passed.pending;
  reaches = λ frames calls. reaches_through (passed.reaches (frames_of frames (waits_in (store_in old))) calls)
      (subst (λ (s : Store). Reaches (begun making (parts count (store_in now)) (part and others) (frames_of frames (waits_in s)) calls (state_in now) now.units) (place new (waits.inner ++ frames) calls)) passed.others (waits.reaches frames calls));
}

-- or were stopped there
pub halts_in_part : (making : machine.Making) (all left : Nodes) (count : ℕ) (old now new : Machine) → IsPassed making all left count old now →
    IsHalted (gathering making count left now) new → IsHalted (gathering making 0 all old) new
halts_in_part making all left count old now new passed halts = λ frames calls.
    let stop = halts frames calls in
    (stop.0, reaches_through (passed.reaches frames calls) stop.1, stop.2)

-- memory ran out
pub out_of_memory : (from : Start) (now : ℕ) → Halts from e.NoMemory now
out_of_memory from now = λ frames calls. (from frames calls, reaches_itself (from frames calls), tt)

-- ---- what is made of all of them

-- is the value
pub all_passed : (making : machine.Making) (done : List LuaValue → State → Done LuaValue) (all : Nodes) (count : ℕ) (old now : Machine) (state : LuaState) → Makes making done → IsPassed making all none count old now →
    with_done (done (parts count (store_in now)) (state_in now)) (without count (store_in now)) ≡ Ok (store_of state) → IsValued (gathering making 0 all old) old (record now { state = state })
all_passed making done all count old now state makes passed is = by (done (parts count (store_in now)) (state_in now)).outcome (done (parts count (store_in now)) (state_in now)).state refl is
  where
    by : (outcome : Result LuaValue Fault) (s : State) → record { outcome = outcome; state = s } ≡ done (parts count (store_in now)) (state_in now) →
        with_done (record { outcome = outcome; state = s }) (without count (store_in now)) ≡ Ok (store_of state) → IsValued (gathering making 0 all old) old (record now { state = state })
    by (Ok value) s same made_is = record {
      keeps = passed.keeps;
      pending = passed.pending;
      value = value;
      state = s;
      put = sym (ok_is made_is) ∙ ap (λ store. pushed value (in_state s store)) passed.others;
      reaches = λ frames calls.
          let from = begun making [] all frames calls (state_in old) old.units in
          subst (λ d. Reaches from (back d frames calls now.units)) (sym same)
          (subst (λ t. Reaches from t) (makes (parts count (store_in now)) frames calls (state_in now) now.units) (passed.reaches frames calls));
    }
    by (Err why) s same made_is = err_isnt_ok made_is

-- or its fault
pub all_refused : (making : machine.Making) (done : List LuaValue → State → Done LuaValue) (all : Nodes) (count : ℕ) (old now : Machine) (why : LuaError) → Makes making done → IsPassed making all none count old now →
    Refuses why (with_done (done (parts count (store_in now)) (state_in now)) (without count (store_in now))) → Halts (gathering making 0 all old) why now.units
all_refused making done all count old now why makes passed is = λ frames calls.
    let values = parts count (store_in now) in
    let end = done values (state_in now) in
    (back end frames calls now.units, subst (λ t. Reaches (begun making [] all frames calls (state_in old) old.units) t) (makes values frames calls (state_in now) now.units) (passed.reaches frames calls), stopped_back why end.outcome end.state (without count (store_in now)) frames calls now.units is)

-- ---- what waits inside
