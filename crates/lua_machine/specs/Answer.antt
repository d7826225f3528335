-- What a call of the machine gives: the chunk's assignments, then the function, then its value made plain.
use Rattle.std.specs.Prelude.{◌≡◌, ◌⊎◌, ℕ, zero, suc, ◌+◌, ◌≤◌, ℤ, Bool, List, [], ◌∷◌, Some, Result, Ok, Err}
use Rattle.lua_machine.specs.Tree as t
use Rattle.lua_machine.specs.Tree.{Node, BlockNode, ItemNode, items_of}
use Rattle.lua_machine.specs.Value.{LuaValue, Nil, Truth, Number, Text, Table, Fault}
use Rattle.lua_machine.specs.Tables.{Row, plain_list, row}
use Rattle.lua_machine.specs.State.{State, fresh, entered}
use Rattle.lua_machine.specs.Functions.{Function, function_of}
use Rattle.lua_machine.specs.Yields.{Gone, goes, stops, Executes, Runs, returned}

-- ---- plain values

infixr 60 ◌and◌
mutual
  -- a value without tables: a table is the list of its values at 1 up to before the first missing key, and deep where it lies inside four others
  pub data PlainValue : Type 0 where
    PlainNil : PlainValue
    PlainTruth : Bool → PlainValue
    PlainNumber : ℤ → PlainValue
    PlainText : List ℕ → PlainValue
    PlainList : PlainValues → PlainValue
    Deep : PlainValue

  pub data PlainValues : Type 0 where
    no_values : PlainValues
    ◌and◌ : PlainValue → PlainValues → PlainValues

-- the units that go with something
pub record Paid (T : Type 0) : Type 0 where
  pub value : T
  pub cost : ℕ

-- what is made of each of these values, as one list, and the sum of the units
abbrev pub each : (LuaValue → Paid PlainValue) → List LuaValue → Paid PlainValues
each make [] = record { value = no_values; cost = 0 }
each make (first ∷ more) = record { value = (make first).value and (each make more).value; cost = (make first).cost + (each make more).cost }

-- a value made plain, where so many tables may still lie one inside the other; each value that is made plain costs a unit, a deep one too
abbrev pub plain_of : ℕ → List Row → LuaValue → Paid PlainValue
plain_of levels tables Nil = record { value = PlainNil; cost = 1 }
plain_of levels tables (Truth b) = record { value = PlainTruth b; cost = 1 }
plain_of levels tables (Number n) = record { value = PlainNumber n; cost = 1 }
plain_of levels tables (Text bytes) = record { value = PlainText bytes; cost = 1 }
plain_of zero tables (Table at) = record { value = Deep; cost = 1 }
plain_of (suc levels) tables (Table at) =
    let inner = each (plain_of levels tables) (plain_list (row tables at)) in
    record { value = PlainList inner.value; cost = inner.cost + 1 }

-- ---- the call

-- the chunk's assignments in order, each as a statement, with no call open
pub data Assigns : List ItemNode → State → List ItemNode → Gone → ℕ → Type 0 where
  no_more : {chunk : List ItemNode} {state : State} → Assigns chunk state [] (goes state) 0
  function : {chunk more : List ItemNode} {state : State} {called : List ℕ} {params : List (List ℕ)} {body : BlockNode} {gone : Gone} {cost : ℕ} →
      Assigns chunk state more gone cost → Assigns chunk state (t.Function called params body ∷ more) gone cost
  stopped : {chunk more : List ItemNode} {state now : State} {called : List ℕ} {of : Node} {why : Fault} {cost : ℕ} →
      Executes chunk 0 state (t.Assign called of) (stops why now) cost → Assigns chunk state (t.Set called of ∷ more) (stops why now) cost
  assignment : {chunk more : List ItemNode} {state now : State} {called : List ℕ} {of : Node} {gone : Gone} {cost rest : ℕ} →
      Executes chunk 0 state (t.Assign called of) (goes now) cost → Assigns chunk now more gone rest → Assigns chunk state (t.Set called of ∷ more) gone (cost + rest)

-- a value made plain, or the fault
abbrev pub made_plain : List Row → Result LuaValue Fault → Result (Paid PlainValue) Fault
made_plain tables (Ok value) = Ok (plain_of 4 tables value)
made_plain tables (Err why) = Err why

-- of the way out of the function
abbrev pub plain_result : Gone → Result (Paid PlainValue) Fault
plain_result gone = made_plain gone.state.tables (returned gone.way gone.state).outcome

-- the units that the plain value costs; a fault costs none
abbrev pub plain_cost : Result (Paid PlainValue) Fault → ℕ
plain_cost (Ok paid) = paid.cost
plain_cost (Err why) = 0

abbrev pub plain_value : Result (Paid PlainValue) Fault → Result PlainValue Fault
plain_value (Ok paid) = Ok paid.value
plain_value (Err why) = Err why

-- what the function of a name gives, called without arguments as the first open call, with the cost of all
pub data Yields : List ItemNode → List ℕ → ℕ → Result PlainValue Fault → ℕ → Type 0 where
  no_start : {chunk : List ItemNode} {called : List ℕ} {seed cost : ℕ} {now : State} {why : Fault} → Assigns chunk (fresh seed) chunk (stops why now) cost → Yields chunk called seed (Err why) cost
  yields : {chunk : List ItemNode} {called : List ℕ} {seed cost more : ℕ} {now : State} {function : Function} {gone : Gone} → Assigns chunk (fresh seed) chunk (goes now) cost →
      function_of chunk called ≡ Some function → Runs chunk 1 (entered function.params [] now) function.body gone more →
      Yields chunk called seed (plain_value (plain_result gone)) (cost + more + plain_cost (plain_result gone))

-- so many units may be paid
abbrev pub most_units : ℕ
most_units = 500000

-- the call gives this, and no more units are paid than may be
abbrev pub Answers : List ItemNode → List ℕ → ℕ → Result PlainValue Fault → ℕ → Type 0
Answers chunk called seed answer cost = Yields chunk called seed answer cost × (cost ≤ most_units)

-- no answer comes at a cost of as many units as may be paid, or fewer
abbrev pub RunsOut : List ItemNode → List ℕ → ℕ → Type 0
RunsOut chunk called seed = (answer : Result PlainValue Fault) (cost : ℕ) → Answers chunk called seed answer cost → ⊥

-- there is one answer at most
abbrev pub YieldsOnce : Type 0
YieldsOnce = (chunk : List ItemNode) (called : List ℕ) (seed : ℕ) (one other : Result PlainValue Fault) (cost more : ℕ) →
    Yields chunk called seed one cost → Yields chunk called seed other more → (one ≡ other) × (cost ≡ more)

-- a call of a function of the chunk gives an answer within the units that may be paid, or runs out
abbrev pub CallsComeToSomething : Type 0
CallsComeToSomething = (chunk : List ItemNode) (called : List ℕ) (seed : ℕ) (main : Function) → function_of chunk called ≡ Some main →
    ((answer : Result PlainValue Fault) × (cost : ℕ) × Answers chunk called seed answer cost) ⊎ RunsOut chunk called seed
