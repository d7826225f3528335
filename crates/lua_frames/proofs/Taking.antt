-- Parts that are taken where they stand.
use Rattle.std.proofs.Common.{◌≡◌, ◌∙◌, ℕ, ◌+◌, List, [], ◌∷◌, ◌++◌, Bool, true, false, Option, Some, None, refl, sym, ap, subst, Result, Ok, Err}
use Rattle.lua_machine.specs.Functions.{Function}
use Rattle.lua_machine.specs.Machine as machine
use Rattle.lua_machine.specs.Machine.{Turned, Part}
use Rattle.lua_machine.specs.State.{State, Done, gives}
use Rattle.lua_machine.specs.Tree as t
use Rattle.lua_machine.specs.Tree.{ItemNode, Node, Nodes, none, ◌and◌}
use Rattle.lua_machine.specs.Turn.{after_turns, back, begun, evaluating, expression_begun, made}
use Rattle.lua_machine.specs.Value.{Fault, LuaValue}
use Rattle.lua_machine.specs.declared.error.LuaError.{LuaError}
use Rattle.lua_machine.specs.declared.error.LuaError.TheVariants as e
use Rattle.lua_state.specs.Store.{Refuses, Store, in_state, parts, pushed, with_done, without}
use Rattle.lua_frames.specs.declared.frame.Frame.{Frame}
use Rattle.lua_frames.specs.Frames.{frames_of, waits_in}
use Rattle.lua_frames.specs.Simple.{Gives, IsStopped, Puts, Takes, simple_value}
use Rattle.lua_frames.specs.Turns.{Reaches}
use Rattle.lua_frames.proofs.Backs.{stopped_back}
use Rattle.lua_frames.proofs.Parted.{one_part_more, without_one_more}
use Rattle.lua_frames.proofs.Reaching.{none_after, reaches_itself, reaches_through}

some_is : {T : Type 0} {a b : T} → Some a ≡ Some b → a ≡ b
some_is same = cc

none_isnt : {T : Type 0} {a : T} {A : Type 0} → (let x : Option T = None in x) ≡ Some a → A
none_isnt same = cc

ok_is : {T : Type 0} {a b : T} → (let x : Result T Fault = Ok a in x) ≡ Ok b → a ≡ b
ok_is same = cc

err_isnt_ok : {T : Type 0} {a : T} {b : Fault} {A : Type 0} → Err b ≡ Ok a → A
err_isnt_ok same = cc

-- ---- the turns of a simple expression

taken : (node : Node) (frames : List machine.Frame) (calls : ℕ) (state : State) (cost : ℕ) (value : LuaValue) → simple_value node state ≡ Some value →
    (chunk : List ItemNode) (main : Function) → after_turns chunk main 1 (evaluating node frames calls state cost) ≡ back (gives value state) frames calls (cost + 1)
taken t.Nil frames calls state cost value is chunk main = ap (λ v. back (gives v state) frames calls (cost + 1)) (some_is is)
taken t.True frames calls state cost value is chunk main = ap (λ v. back (gives v state) frames calls (cost + 1)) (some_is is)
taken t.False frames calls state cost value is chunk main = ap (λ v. back (gives v state) frames calls (cost + 1)) (some_is is)
taken (t.Number n) frames calls state cost value is chunk main = ap (λ v. back (gives v state) frames calls (cost + 1)) (some_is is)
taken (t.Name called) frames calls state cost value is chunk main = ap (λ v. back (gives v state) frames calls (cost + 1)) (some_is is)
taken (t.Str bytes line) frames calls state cost value is chunk main = none_isnt is
taken (t.Index table key line) frames calls state cost value is chunk main = none_isnt is
taken (t.Member table called line) frames calls state cost value is chunk main = none_isnt is
taken (t.Call called args line) frames calls state cost value is chunk main = none_isnt is
taken (t.MathCall called args line) frames calls state cost value is chunk main = none_isnt is
taken (t.TableCall called args line) frames calls state cost value is chunk main = none_isnt is
taken (t.Construct _) frames calls state cost value is chunk main = none_isnt is
taken (t.Unary op of line) frames calls state cost value is chunk main = none_isnt is
taken (t.Binary op left right line) frames calls state cost value is chunk main = none_isnt is

one_turn : (node : Node) (frames : List machine.Frame) (calls : ℕ) (state : State) (cost : ℕ) (value : LuaValue) → simple_value node state ≡ Some value →
    Reaches (evaluating node frames calls state cost) (back (gives value state) frames calls (cost + 1))
one_turn node frames calls state cost value is = record { turns = 1; after = taken node frames calls state cost value is }

-- a value that comes back to the parts behind it
resumed_part : (making : machine.Making) (values : List LuaValue) (others : Nodes) (frames : List machine.Frame) (calls : ℕ) (state : State) (cost : ℕ) (value : LuaValue) →
    Reaches (back (gives value state) (Part making values others ∷ frames) calls cost) (begun making (values ++ value ∷ []) others frames calls state cost)
resumed_part making values others frames calls state cost value = record { turns = 1; after = λ chunk main. none_after chunk main (begun making (values ++ value ∷ []) others frames calls state cost) }

-- a simple expression gives its value
pub simple_takes : (result : Result Bool LuaError) (node : Node) (old new : Store) (cost now : ℕ) → Puts result (simple_value node old.state) old cost new now → Takes result node old cost new now
simple_takes result node old new cost now puts = by result (simple_value node old.state) refl puts
  where
    by : (result : Result Bool LuaError) (of : Option LuaValue) → simple_value node old.state ≡ of → Puts result of old cost new now → Takes result node old cost new now
    by (Ok true) None is puts = absurd puts
    by (Ok true) (Some value) is puts = (
      value,
      old.state,
      puts.0,
      λ frames calls. subst (λ n. Reaches (evaluating node frames calls old.state cost) (back (gives value old.state) frames calls n)) (sym puts.1) (one_turn node frames calls old.state cost value is),
    )
    by (Ok false) of is puts = puts
    by (Err e.NoMemory) of is puts = λ frames calls. (evaluating node frames calls old.state cost, reaches_itself (evaluating node frames calls old.state cost), tt)
    by (Err e.Budget) None is puts = absurd puts
    by (Err e.Budget) (Some value) is puts = λ frames calls. (back (gives value old.state) frames calls (cost + 1), one_turn node frames calls old.state cost value is, puts)
    by (Err (e.TypeFault line)) of is puts = absurd puts
    by (Err (e.UnknownName line)) of is puts = absurd puts
    by (Err (e.Inexact line)) of is puts = absurd puts
    by (Err (e.OutOfRange line)) of is puts = absurd puts
    by (Err (e.LongString line)) of is puts = absurd puts
    by (Err (e.TooDeepCalls line)) of is puts = absurd puts

-- ---- an operation on parts

-- what is made of its parts
abbrev pub Makes : machine.Making → (List LuaValue → State → Done LuaValue) → Type 0
Makes making done = (values : List LuaValue) (frames : List machine.Frame) (calls : ℕ) (state : State) (cost : ℕ) → made making values frames calls state cost ≡ back (done values state) frames calls cost

-- its parts were evaluated, and put
abbrev pub ComesToMake : Node → machine.Making → List LuaValue → Store → ℕ → State → ℕ → Type 0
ComesToMake node making values old cost state now = (frames : List machine.Frame) (calls : ℕ) → Reaches (evaluating node frames calls old.state cost) (made making values frames calls state now)

-- what is made of them is its value
pub made_gives : (node : Node) (making : machine.Making) (done : List LuaValue → State → Done LuaValue) → Makes making done → (values : List LuaValue) (old new : Store) (state : State) (cost now : ℕ) →
    ComesToMake node making values old cost state now → with_done (done values state) (in_state state old) ≡ Ok new → Gives node old cost new now
made_gives node making done makes values old new state cost now comes is = by (done values state).outcome (done values state).state refl is
  where
    by : (outcome : Result LuaValue Fault) (s : State) → record { outcome = outcome; state = s } ≡ done values state → with_done (record { outcome = outcome; state = s }) (in_state state old) ≡ Ok new → Gives node old cost new now
    by (Ok value) s same made_is = (
      value,
      s,
      sym (ok_is made_is),
      λ frames calls. subst (λ d. Reaches (evaluating node frames calls old.state cost) (back d frames calls now)) (sym same) (subst (λ t. Reaches (evaluating node frames calls old.state cost) t) (makes values frames calls state now) (comes frames calls)),
    )
    by (Err why) s same made_is = err_isnt_ok made_is

-- or its fault
pub made_stops : (node : Node) (making : machine.Making) (done : List LuaValue → State → Done LuaValue) → Makes making done → (values : List LuaValue) (old : Store) (state : State) (cost now : ℕ) (why : LuaError) →
    ComesToMake node making values old cost state now → Refuses why (with_done (done values state) (in_state state old)) → IsStopped why node old cost now
made_stops node making done makes values old state cost now why comes is = λ frames calls. (
  back (done values state) frames calls now,
  subst (λ t. Reaches (evaluating node frames calls old.state cost) t) (makes values frames calls state now) (comes frames calls),
  stopped_back why (done values state).outcome (done values state).state (in_state state old) frames calls now is,
)

-- ---- its parts

-- how it is begun
pub begun_by : (node : Node) (making : machine.Making) (parts : Nodes) → ((chunk : List ItemNode) (frames : List machine.Frame) (calls : ℕ) (state : State) (cost : ℕ) → expression_begun chunk node frames calls state cost ≡ begun making [] parts frames calls state (cost + 1)) →
    (frames : List machine.Frame) (calls : ℕ) (state : State) (cost : ℕ) → Reaches (evaluating node frames calls state cost) (begun making [] parts frames calls state (cost + 1))
begun_by node making parts begins frames calls state cost = record {
  turns = 1;
  after = λ chunk main. none_after chunk main (expression_begun chunk node frames calls state cost) ∙ begins chunk frames calls state cost;
}

-- the value of a part goes to those before it
abbrev pub PartGiven : Node → State → ℕ → LuaValue → State → ℕ → Type 0
PartGiven node state cost value after now = (frames : List machine.Frame) (calls : ℕ) → Reaches (evaluating node frames calls state cost) (back (gives value after) frames calls now)

pub passed_one : (making : machine.Making) (values : List LuaValue) (part : Node) (others : Nodes) (frames : List machine.Frame) (calls : ℕ) (state after : State) (cost now : ℕ) (value : LuaValue) → PartGiven part state cost value after now →
    Reaches (begun making values (part and others) frames calls state cost) (begun making (values ++ value ∷ []) others frames calls after now)
passed_one making values part others frames calls state after cost now value given = reaches_through (given (Part making values others ∷ frames) calls) (resumed_part making values others frames calls after now value)

-- ---- as a part

-- frames that wait without so many values
abbrev pub frames_without : List Frame → ℕ → Store → List machine.Frame
frames_without frames count store = frames_of frames (waits_in (without count store))

-- the parts that are left
abbrev pub parts_left : machine.Making → ℕ → Nodes → List Frame → ℕ → Store → ℕ → Turned
parts_left making count others frames calls store cost = begun making (parts count store) others (frames_without frames count store) calls store.state cost

pub part_given : (making : machine.Making) (count : ℕ) (node : Node) (others : Nodes) (frames : List Frame) (calls : ℕ) (old new : Store) (cost now : ℕ) → Gives node old cost new now →
    Reaches (parts_left making count (node and others) frames calls old cost) (parts_left making (count + 1) others frames calls new now)
part_given making count node others frames calls old new cost now (value, state, is, reaches) =
    let from = parts_left making count (node and others) frames calls old cost in
    let put = in_state state old in
    let values = one_part_more count value put in
    let rest = ap (λ s. frames_of frames (waits_in s)) (without_one_more count value put) in
    let reached : Reaches from (begun making (parts count old ++ value ∷ []) others (frames_without frames count old) calls state now) =
    reaches_through (reaches (Part making (parts count old) others ∷ frames_without frames count old) calls) (resumed_part making (parts count old) others (frames_without frames count old) calls state now value) in
    let same : begun making (parts count old ++ value ∷ []) others (frames_without frames count old) calls state now ≡ parts_left making (count + 1) others frames calls (pushed value put) now =
    ap (λ vs. begun making vs others (frames_without frames count old) calls state now) (sym values) ∙ ap (λ fs. begun making (parts (count + 1) (pushed value put)) others fs calls state now) (sym rest) in
    subst (λ s. Reaches from (parts_left making (count + 1) others frames calls s now)) (sym is) (subst (λ t. Reaches from t) same reached)
