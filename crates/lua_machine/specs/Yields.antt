-- What a node of a chunk comes to, from a state, with so many calls open (`Evaluates` to `Turns`; `Yields` of the file Answer is the whole call): a value, a way out of a block or a fault, the state behind it, and how
-- many units were paid. One unit is paid when a statement, an expression or a turn of a loop is begun, before anything else of it.
-- A fault of a part is the fault of the whole. What never ends comes to nothing.
use Rattle.std.specs.Prelude.{◌≡◌, ℕ, suc, ◌+◌, ℤ, pos, ◌+ℤ◌, nat_abs, int_lt, int_le, Bool, true, false, ◌&&◌, nat_le, nat_lt, List, [], ◌∷◌, ◌++◌, length, if◌then◌else◌, Option, Some, None, Result, Ok, Err}
use Rattle.std.specs.Ordering.{int_eq}
use Rattle.lua_tree.specs.declared.tree.UnaryOp.{UnaryOp}
use Rattle.lua_tree.specs.declared.tree.BinaryOp.{BinaryOp}
use Rattle.lua_tree.specs.declared.tree.BinaryOp.TheVariants as op_of
use Rattle.lua_machine.specs.Tree as t
use Rattle.lua_machine.specs.Tree.{Node, Nodes, none, ◌and◌, EntryNodes, StatementNode, BlockNode, ItemNode, ◌andthen◌, ArmNodes}
use Rattle.lua_machine.specs.Value.{LuaValue, Nil, Truth, Number, Text, Table, Fault, TypeFault, UnknownName, OutOfRange, TooDeepCalls, is_true, is_key}
use Rattle.lua_machine.specs.Tables.{at_key, no_keys, row, stored}
use Rattle.lua_machine.specs.State.{State, Done, gives, fails, value_of, assigned, declared, left_block, entered, left_call}
use Rattle.lua_machine.specs.Operators.{text, greatest, unary_of, binary_of, floor_of_quotient, is_logical, decides}
use Rattle.lua_machine.specs.Library.{MathFunction, Floor, TableFunction, math_of, table_of, math_result, table_result}
use Rattle.lua_machine.specs.Functions.{Function, function_of}

-- so many calls may be open at once
abbrev pub most_calls : ℕ
most_calls = 100

-- ---- what becomes of values

-- an answer that changes nothing
abbrev pub answered : Result LuaValue Fault → State → Done LuaValue
answered answer state = record { outcome = answer; state = state }

-- what is made of the values of the parts, unless one of them was a fault
abbrev pub after_parts : {T R : Type 0} → Result T Fault → State → (T → State → Done R) → Done R
after_parts (Ok values) state make = make values state
after_parts (Err fault) state make = fails fault state

abbrev pub after : {T R : Type 0} → Done T → (T → State → Done R) → Done R
after done make = after_parts done.outcome done.state make

-- the value at a key; a key of a wrong kind is a fault, and so is an index of what is no table
abbrev pub indexed : ℕ → List LuaValue → State → Done LuaValue
indexed line (Table at ∷ key ∷ []) state = if is_key key then gives (at_key (row state.tables at) key) state else fails (TypeFault line) state
indexed line _ state = fails (TypeFault line) state

abbrev pub with_member : List ℕ → List LuaValue → List LuaValue
with_member name (table ∷ []) = table ∷ Text name ∷ []
with_member name values = values

abbrev pub unary_result : UnaryOp → ℕ → List LuaValue → State → Done LuaValue
unary_result op line (a ∷ []) state = answered (unary_of op line state.tables a) state
unary_result op line _ state = fails (TypeFault line) state

abbrev pub binary_result : BinaryOp → ℕ → List LuaValue → State → Done LuaValue
binary_result op line (a ∷ b ∷ []) state = answered (binary_of op line a b) state
binary_result op line _ state = fails (TypeFault line) state

abbrev pub floor_result : ℕ → List LuaValue → State → Done LuaValue
floor_result line (a ∷ b ∷ []) state = answered (floor_of_quotient line a b) state
floor_result line _ state = fails (TypeFault line) state

-- the arguments are one quotient
abbrev pub IsQuotient : Nodes → Type 0
IsQuotient args = (left right : Node) × (line : ℕ) × (args ≡ (t.Binary op_of.Over left right line and none))

-- ---- ways out of a block

-- a statement goes on to the next, or leaves the loop around it, or the function with a value, or it is a fault
pub data Way : Type 0 where
  Goes : Way
  Breaks : Way
  Returns : LuaValue → Way
  Fails : Fault → Way

-- a way, and the state behind it
pub record Gone : Type 0 where
  pub way : Way
  pub state : State

abbrev pub goes : State → Gone
goes state = record { way = Goes; state = state }

abbrev pub stops : Fault → State → Gone
stops fault state = record { way = Fails fault; state = state }

-- where the parts of a statement gave a fault it fails, and else the state is as told
abbrev pub done_parts : {T : Type 0} → Result T Fault → State → (T → State → Gone) → Gone
done_parts (Ok value) state make = make value state
done_parts (Err fault) state make = stops fault state

abbrev pub done_with : {T : Type 0} → Done T → (T → State → Gone) → Gone
done_with done make = done_parts done.outcome done.state make

-- a value goes to a key of a table
abbrev pub put : ℕ → List LuaValue → State → Gone
put line (Table at ∷ key ∷ value ∷ []) state = if is_key key then goes (record state { tables = stored state.tables at key value }) else stops (TypeFault line) state
put line _ state = stops (TypeFault line) state

abbrev pub put_member : ℕ → List ℕ → List LuaValue → State → Gone
put_member line name (table ∷ value ∷ []) state = put line (table ∷ Text name ∷ value ∷ []) state
put_member line name _ state = stops (TypeFault line) state

-- what a call gives by the way out of the function: nil without a `return`
abbrev pub returned : Way → State → Done LuaValue
returned (Returns value) state = gives value state
returned (Fails fault) state = fails fault state
returned _ state = gives Nil state

-- a loop goes on with this way out of its block
abbrev pub loops : Way → Bool
loops Goes = true
loops _ = false

-- what a loop comes to that a way out of its block ends: `break` leaves the loop alone
abbrev pub out_of_loop : Way → Way
out_of_loop Breaks = Goes
out_of_loop way = way

-- ---- the bounds of a `for`

pub record Bounds : Type 0 where
  pub first : ℤ
  pub last : ℤ
  pub by : ℤ

-- three numbers, of which the step isn't 0; it is 1 where none is written
abbrev pub bounds_of : ℕ → List LuaValue → Result Bounds Fault
bounds_of line (Number first ∷ Number last ∷ []) = Ok (record { first = first; last = last; by = pos 1 })
bounds_of line (Number first ∷ Number last ∷ Number by ∷ []) = if int_eq by (pos 0) then Err (OutOfRange line) else Ok (record { first = first; last = last; by = by })
bounds_of line _ = Err (TypeFault line)

-- whether a turn comes: the number isn't past the end, nor past 2^53 either way
abbrev pub comes : Bounds → Bool
comes b = nat_le (nat_abs b.first) greatest && (if int_lt (pos 0) b.by then int_le b.first b.last else int_le b.last b.first)

abbrev pub next_turn : Bounds → Bounds
next_turn b = record b { first = b.first +ℤ b.by }

abbrev pub bounds_parts : Node → Node → Option Node → Nodes
bounds_parts first last None = first and last and none
bounds_parts first last (Some by) = first and last and by and none

mutual
  -- ---- expressions, with the chunk, the calls that are open, the state before, and the units paid
  pub data Evaluates : List ItemNode → ℕ → State → Node → Done LuaValue → ℕ → Type 0 where
    nil : {chunk : List ItemNode} {calls : ℕ} {state : State} → Evaluates chunk calls state t.Nil (gives Nil state) 1
    yes : {chunk : List ItemNode} {calls : ℕ} {state : State} → Evaluates chunk calls state t.True (gives (Truth true) state) 1
    no : {chunk : List ItemNode} {calls : ℕ} {state : State} → Evaluates chunk calls state t.False (gives (Truth false) state) 1
    number : {chunk : List ItemNode} {calls : ℕ} {state : State} {value : ℤ} → Evaluates chunk calls state (t.Number value) (gives (Number value) state) 1
    string : {chunk : List ItemNode} {calls line : ℕ} {state : State} {bytes : List ℕ} → Evaluates chunk calls state (t.Str bytes line) (answered (text line bytes) state) 1
    name : {chunk : List ItemNode} {calls : ℕ} {state : State} {called : List ℕ} → Evaluates chunk calls state (t.Name called) (gives (value_of called state) state) 1
    index : {chunk : List ItemNode} {calls line cost : ℕ} {state : State} {table key : Node} {parts : Done (List LuaValue)} →
        AllEvaluate chunk calls state (table and key and none) parts cost → Evaluates chunk calls state (t.Index table key line) (after parts (indexed line)) (cost + 1)
    member : {chunk : List ItemNode} {calls line cost : ℕ} {state : State} {table : Node} {called : List ℕ} {parts : Done (List LuaValue)} →
        AllEvaluate chunk calls state (table and none) parts cost → Evaluates chunk calls state (t.Member table called line) (after parts (λ values now. indexed line (with_member called values) now)) (cost + 1)
    unary : {chunk : List ItemNode} {calls line cost : ℕ} {state : State} {op : UnaryOp} {of : Node} {parts : Done (List LuaValue)} →
        AllEvaluate chunk calls state (of and none) parts cost → Evaluates chunk calls state (t.Unary op of line) (after parts (unary_result op line)) (cost + 1)
    binary : {chunk : List ItemNode} {calls line cost : ℕ} {state : State} {op : BinaryOp} {left right : Node} {parts : Done (List LuaValue)} → is_logical op ≡ false →
        AllEvaluate chunk calls state (left and right and none) parts cost → Evaluates chunk calls state (t.Binary op left right line) (after parts (binary_result op line)) (cost + 1)
    -- `and` and `or`: the left side decides, or the right side is the value
    left_fails : {chunk : List ItemNode} {calls line cost : ℕ} {state now : State} {op : BinaryOp} {left : Node} {fault : Fault} {right : Node} → is_logical op ≡ true →
        Evaluates chunk calls state left (fails fault now) cost → Evaluates chunk calls state (t.Binary op left right line) (fails fault now) (cost + 1)
    left_decides : {chunk : List ItemNode} {calls line cost : ℕ} {state now : State} {op : BinaryOp} {left : Node} {value : LuaValue} {right : Node} → is_logical op ≡ true → decides op value ≡ true →
        Evaluates chunk calls state left (gives value now) cost → Evaluates chunk calls state (t.Binary op left right line) (gives value now) (cost + 1)
    right_decides : {chunk : List ItemNode} {calls line cost more : ℕ} {state now : State} {op : BinaryOp} {left right : Node} {value : LuaValue} {done : Done LuaValue} → is_logical op ≡ true → decides op value ≡ false →
        Evaluates chunk calls state left (gives value now) cost → Evaluates chunk calls now right done more → Evaluates chunk calls state (t.Binary op left right line) done (cost + more + 1)
    -- a call of no known function is a fault before its arguments
    unknown : {chunk : List ItemNode} {calls line : ℕ} {state : State} {called : List ℕ} {args : Nodes} → function_of chunk called ≡ None →
        Evaluates chunk calls state (t.Call called args line) (fails (UnknownName line) state) 1
    argument_fails : {chunk : List ItemNode} {calls line cost : ℕ} {state now : State} {called : List ℕ} {args : Nodes} {function : Function} {fault : Fault} → function_of chunk called ≡ Some function →
        AllEvaluate chunk calls state args (fails fault now) cost → Evaluates chunk calls state (t.Call called args line) (fails fault now) (cost + 1)
    too_deep : {chunk : List ItemNode} {calls line cost : ℕ} {state now : State} {called : List ℕ} {args : Nodes} {function : Function} {values : List LuaValue} → function_of chunk called ≡ Some function →
        AllEvaluate chunk calls state args (gives values now) cost → nat_lt calls most_calls ≡ false → Evaluates chunk calls state (t.Call called args line) (fails (TooDeepCalls line) now) (cost + 1)
    call : {chunk : List ItemNode} {calls line cost more : ℕ} {state now : State} {called : List ℕ} {args : Nodes} {function : Function} {values : List LuaValue} {gone : Gone} → function_of chunk called ≡ Some function →
        AllEvaluate chunk calls state args (gives values now) cost → nat_lt calls most_calls ≡ true → Runs chunk (suc calls) (entered function.params values now) function.body gone more →
        Evaluates chunk calls state (t.Call called args line) (returned gone.way (left_call now gone.state)) (cost + more + 1)
    -- libraries: a name that isn't known is a fault before the arguments
    math_unknown : {chunk : List ItemNode} {calls line : ℕ} {state : State} {called : List ℕ} {args : Nodes} → math_of called ≡ None →
        Evaluates chunk calls state (t.MathCall called args line) (fails (UnknownName line) state) 1
    math_call : {chunk : List ItemNode} {calls line cost : ℕ} {state : State} {called : List ℕ} {args : Nodes} {function : MathFunction} {parts : Done (List LuaValue)} → math_of called ≡ Some function →
        ¬ ((function ≡ Floor) × IsQuotient args) → AllEvaluate chunk calls state args parts cost →
        Evaluates chunk calls state (t.MathCall called args line) (after parts (math_result function line)) (cost + 1)
    -- the quotient is a node of its own, whose faults are on its line
    floor_call : {chunk : List ItemNode} {calls line cost : ℕ} {state : State} {called : List ℕ} {left right : Node} {parts : Done (List LuaValue)} {at : ℕ} → math_of called ≡ Some Floor →
        AllEvaluate chunk calls state (left and right and none) parts cost →
        Evaluates chunk calls state (t.MathCall called (t.Binary op_of.Over left right at and none) line) (after parts (floor_result at)) (cost + 2)
    table_unknown : {chunk : List ItemNode} {calls line : ℕ} {state : State} {called : List ℕ} {args : Nodes} → table_of called ≡ None →
        Evaluates chunk calls state (t.TableCall called args line) (fails (UnknownName line) state) 1
    table_call : {chunk : List ItemNode} {calls line cost : ℕ} {state : State} {called : List ℕ} {args : Nodes} {function : TableFunction} {parts : Done (List LuaValue)} → table_of called ≡ Some function →
        AllEvaluate chunk calls state args parts cost → Evaluates chunk calls state (t.TableCall called args line) (after parts (table_result function line)) (cost + 1)
    -- a new row, into which the entries go
    construct : {chunk : List ItemNode} {calls cost : ℕ} {state : State} {entries : EntryNodes} {done : Done LuaValue} →
        Fills chunk calls (record state { tables = state.tables ++ no_keys ∷ [] }) (length state.tables) 1 entries done cost → Evaluates chunk calls state (t.Construct entries) done (cost + 1)

  -- several, from left to right, up to the first fault
  pub data AllEvaluate : List ItemNode → ℕ → State → Nodes → Done (List LuaValue) → ℕ → Type 0 where
    all : {chunk : List ItemNode} {calls : ℕ} {state : State} → AllEvaluate chunk calls state none (gives [] state) 0
    fault : {chunk : List ItemNode} {calls cost : ℕ} {state now : State} {first : Node} {others : Nodes} {why : Fault} →
        Evaluates chunk calls state first (fails why now) cost → AllEvaluate chunk calls state (first and others) (fails why now) cost
    onward : {chunk : List ItemNode} {calls cost more : ℕ} {state now : State} {first : Node} {others : Nodes} {value : LuaValue} {rest : Done (List LuaValue)} →
        Evaluates chunk calls state first (gives value now) cost → AllEvaluate chunk calls now others rest more →
        AllEvaluate chunk calls state (first and others) (after rest (λ values last. gives (value ∷ values) last)) (cost + more)

  -- entries go into a row, each before the next is begun; the next one without a key has this number
  pub data Fills : List ItemNode → ℕ → State → ℕ → ℕ → EntryNodes → Done LuaValue → ℕ → Type 0 where
    filled : {chunk : List ItemNode} {calls at next : ℕ} {state : State} → Fills chunk calls state at next t.no_entries (gives (Table at) state) 0
    value : {chunk : List ItemNode} {calls at next cost more : ℕ} {state now : State} {of : Node} {given : LuaValue} {others : EntryNodes} {done : Done LuaValue} →
        Evaluates chunk calls state of (gives given now) cost → Fills chunk calls (record now { tables = stored now.tables at (Number (pos next)) given }) at (next + 1) others done more →
        Fills chunk calls state at next (t.entry (t.Value of) others) done (cost + more)
    value_fails : {chunk : List ItemNode} {calls at next cost : ℕ} {state now : State} {of : Node} {why : Fault} {others : EntryNodes} →
        Evaluates chunk calls state of (fails why now) cost → Fills chunk calls state at next (t.entry (t.Value of) others) (fails why now) cost
    named : {chunk : List ItemNode} {calls at next cost more : ℕ} {state now : State} {called : List ℕ} {of : Node} {given : LuaValue} {others : EntryNodes} {done : Done LuaValue} →
        Evaluates chunk calls state of (gives given now) cost → Fills chunk calls (record now { tables = stored now.tables at (Text called) given }) at next others done more →
        Fills chunk calls state at next (t.entry (t.Named called of) others) done (cost + more)
    named_fails : {chunk : List ItemNode} {calls at next cost : ℕ} {state now : State} {called : List ℕ} {of : Node} {why : Fault} {others : EntryNodes} →
        Evaluates chunk calls state of (fails why now) cost → Fills chunk calls state at next (t.entry (t.Named called of) others) (fails why now) cost
    keyed : {chunk : List ItemNode} {calls at next line cost more : ℕ} {state now : State} {key of : Node} {where_to given : LuaValue} {others : EntryNodes} {done : Done LuaValue} →
        AllEvaluate chunk calls state (key and of and none) (gives (where_to ∷ given ∷ []) now) cost → is_key where_to ≡ true →
        Fills chunk calls (record now { tables = stored now.tables at where_to given }) at next others done more → Fills chunk calls state at next (t.entry (t.Keyed key of line) others) done (cost + more)
    -- the key is looked at where the value is stored
    no_key : {chunk : List ItemNode} {calls at next line cost : ℕ} {state now : State} {key of : Node} {where_to given : LuaValue} {others : EntryNodes} →
        AllEvaluate chunk calls state (key and of and none) (gives (where_to ∷ given ∷ []) now) cost → is_key where_to ≡ false →
        Fills chunk calls state at next (t.entry (t.Keyed key of line) others) (fails (TypeFault line) now) cost
    keyed_fails : {chunk : List ItemNode} {calls at next line cost : ℕ} {state now : State} {key of : Node} {why : Fault} {others : EntryNodes} →
        AllEvaluate chunk calls state (key and of and none) (fails why now) cost → Fills chunk calls state at next (t.entry (t.Keyed key of line) others) (fails why now) cost

  -- ---- statements
  pub data Executes : List ItemNode → ℕ → State → StatementNode → Gone → ℕ → Type 0 where
    -- the value doesn't see the new local
    local_with : {chunk : List ItemNode} {calls cost : ℕ} {state : State} {called : List ℕ} {of : Node} {done : Done LuaValue} →
        Evaluates chunk calls state of done cost → Executes chunk calls state (t.Local called (Some of)) (done_with done (λ given now. goes (declared called given now))) (cost + 1)
    local_without : {chunk : List ItemNode} {calls : ℕ} {state : State} {called : List ℕ} → Executes chunk calls state (t.Local called None) (goes (declared called Nil state)) 1
    assign : {chunk : List ItemNode} {calls cost : ℕ} {state : State} {called : List ℕ} {of : Node} {done : Done LuaValue} →
        Evaluates chunk calls state of done cost → Executes chunk calls state (t.Assign called of) (done_with done (λ given now. goes (assigned called given now))) (cost + 1)
    -- the target's table and key come before the value, and a fault of storing after it
    set_index : {chunk : List ItemNode} {calls line cost : ℕ} {state : State} {table key of : Node} {parts : Done (List LuaValue)} →
        AllEvaluate chunk calls state (table and key and of and none) parts cost → Executes chunk calls state (t.SetIndex table key of line) (done_with parts (put line)) (cost + 1)
    set_member : {chunk : List ItemNode} {calls line cost : ℕ} {state : State} {table of : Node} {called : List ℕ} {parts : Done (List LuaValue)} →
        AllEvaluate chunk calls state (table and of and none) parts cost → Executes chunk calls state (t.SetMember table called of line) (done_with parts (put_member line called)) (cost + 1)
    call_alone : {chunk : List ItemNode} {calls cost : ℕ} {state : State} {of : Node} {done : Done LuaValue} →
        Evaluates chunk calls state of done cost → Executes chunk calls state (t.CallAlone of) (done_with done (λ given now. goes now)) (cost + 1)
    conditional : {chunk : List ItemNode} {calls cost : ℕ} {state : State} {arms : ArmNodes} {gone : Gone} →
        Chooses chunk calls state arms gone cost → Executes chunk calls state (t.If arms) gone (cost + 1)
    while_loop : {chunk : List ItemNode} {calls cost : ℕ} {state : State} {test : Node} {body : BlockNode} {gone : Gone} →
        While chunk calls state test body gone cost → Executes chunk calls state (t.While test body) gone (cost + 1)
    repeat_loop : {chunk : List ItemNode} {calls cost : ℕ} {state : State} {test : Node} {body : BlockNode} {gone : Gone} →
        Repeats chunk calls state body test gone cost → Executes chunk calls state (t.Repeat body test) gone (cost + 1)
    -- the bounds are evaluated once, and then looked at
    bounds_fail : {chunk : List ItemNode} {calls line cost : ℕ} {state now : State} {called : List ℕ} {why : Fault} {first : Node} {last : Node} {by : Option Node} {body : BlockNode} →
        AllEvaluate chunk calls state (bounds_parts first last by) (fails why now) cost → Executes chunk calls state (t.For called first last by body line) (stops why now) (cost + 1)
    no_bounds : {chunk : List ItemNode} {calls line cost : ℕ} {state now : State} {called : List ℕ} {values : List LuaValue} {why : Fault} {first : Node} {last : Node} {by : Option Node} {body : BlockNode} →
        AllEvaluate chunk calls state (bounds_parts first last by) (gives values now) cost → bounds_of line values ≡ Err why →
        Executes chunk calls state (t.For called first last by body line) (stops why now) (cost + 1)
    for_loop : {chunk : List ItemNode} {calls line cost more : ℕ} {state now : State} {called : List ℕ} {body : BlockNode} {values : List LuaValue} {bounds : Bounds} {gone : Gone} {first : Node} {last : Node} {by : Option Node} →
        AllEvaluate chunk calls state (bounds_parts first last by) (gives values now) cost → bounds_of line values ≡ Ok bounds → Turns chunk calls now called bounds body gone more →
        Executes chunk calls state (t.For called first last by body line) gone (cost + more + 1)
    do_block : {chunk : List ItemNode} {calls cost : ℕ} {state : State} {body : BlockNode} {gone : Gone} →
        Runs chunk calls state body gone cost → Executes chunk calls state (t.Do body) (record gone { state = left_block state gone.state }) (cost + 1)
    break_out : {chunk : List ItemNode} {calls : ℕ} {state : State} → Executes chunk calls state t.Break (record { way = Breaks; state = state }) 1
    return_with : {chunk : List ItemNode} {calls cost : ℕ} {state : State} {of : Node} {done : Done LuaValue} →
        Evaluates chunk calls state of done cost → Executes chunk calls state (t.Return (Some of)) (done_with done (λ given now. record { way = Returns given; state = now })) (cost + 1)
    return_without : {chunk : List ItemNode} {calls : ℕ} {state : State} → Executes chunk calls state (t.Return None) (record { way = Returns Nil; state = state }) 1

  -- statements one after the other, up to the first way out; their locals are still there behind them
  pub data Runs : List ItemNode → ℕ → State → BlockNode → Gone → ℕ → Type 0 where
    finished : {chunk : List ItemNode} {calls : ℕ} {state : State} → Runs chunk calls state t.finished (goes state) 0
    ended : {chunk : List ItemNode} {calls cost : ℕ} {state : State} {first : StatementNode} {others : BlockNode} {gone : Gone} →
        Executes chunk calls state first gone cost → loops gone.way ≡ false → Runs chunk calls state (first andthen others) gone cost
    on : {chunk : List ItemNode} {calls cost more : ℕ} {state now : State} {first : StatementNode} {others : BlockNode} {gone : Gone} →
        Executes chunk calls state first (goes now) cost → Runs chunk calls now others gone more → Runs chunk calls state (first andthen others) gone (cost + more)

  -- the first arm whose test holds, or the block of `else`; an arm costs no unit of its own, and its test those of an expression
  pub data Chooses : List ItemNode → ℕ → State → ArmNodes → Gone → ℕ → Type 0 where
    no_else : {chunk : List ItemNode} {calls : ℕ} {state : State} → Chooses chunk calls state t.no_else (goes state) 0
    in_else : {chunk : List ItemNode} {calls cost : ℕ} {state : State} {body : BlockNode} {gone : Gone} →
        Runs chunk calls state body gone cost → Chooses chunk calls state (t.else_do body) (record gone { state = left_block state gone.state }) cost
    test_fails : {chunk : List ItemNode} {calls cost : ℕ} {state now : State} {test : Node} {arms : ArmNodes} {why : Fault} {body : BlockNode} →
        Evaluates chunk calls state test (fails why now) cost → Chooses chunk calls state (t.arm test body arms) (stops why now) cost
    holds : {chunk : List ItemNode} {calls cost more : ℕ} {state now : State} {test : Node} {body : BlockNode} {arms : ArmNodes} {given : LuaValue} {gone : Gone} →
        Evaluates chunk calls state test (gives given now) cost → is_true given ≡ true → Runs chunk calls now body gone more →
        Chooses chunk calls state (t.arm test body arms) (record gone { state = left_block now gone.state }) (cost + more)
    fails_over : {chunk : List ItemNode} {calls cost more : ℕ} {state now : State} {test : Node} {arms : ArmNodes} {given : LuaValue} {gone : Gone} {body : BlockNode} →
        Evaluates chunk calls state test (gives given now) cost → is_true given ≡ false → Chooses chunk calls now arms gone more →
        Chooses chunk calls state (t.arm test body arms) gone (cost + more)

  -- a turn of a `while` is begun, and paid, where its test has held
  pub data While : List ItemNode → ℕ → State → Node → BlockNode → Gone → ℕ → Type 0 where
    while_fails : {chunk : List ItemNode} {calls cost : ℕ} {state now : State} {test : Node} {body : BlockNode} {why : Fault} →
        Evaluates chunk calls state test (fails why now) cost → While chunk calls state test body (stops why now) cost
    while_ends : {chunk : List ItemNode} {calls cost : ℕ} {state now : State} {test : Node} {body : BlockNode} {given : LuaValue} →
        Evaluates chunk calls state test (gives given now) cost → is_true given ≡ false → While chunk calls state test body (goes now) cost
    while_left : {chunk : List ItemNode} {calls cost more : ℕ} {state now : State} {test : Node} {body : BlockNode} {given : LuaValue} {gone : Gone} →
        Evaluates chunk calls state test (gives given now) cost → is_true given ≡ true → Runs chunk calls now body gone more → loops gone.way ≡ false →
        While chunk calls state test body (record { way = out_of_loop gone.way; state = left_block now gone.state }) (cost + more + 1)
    while_on : {chunk : List ItemNode} {calls cost more rest : ℕ} {state now last : State} {test : Node} {body : BlockNode} {given : LuaValue} {gone : Gone} →
        Evaluates chunk calls state test (gives given now) cost → is_true given ≡ true → Runs chunk calls now body (goes last) more → While chunk calls (left_block now last) test body gone rest →
        While chunk calls state test body gone (cost + more + rest + 1)

  -- a turn of a `repeat` is begun before its block, whose locals the test sees
  pub data Repeats : List ItemNode → ℕ → State → BlockNode → Node → Gone → ℕ → Type 0 where
    repeat_left : {chunk : List ItemNode} {calls cost : ℕ} {state : State} {body : BlockNode} {test : Node} {gone : Gone} →
        Runs chunk calls state body gone cost → loops gone.way ≡ false →
        Repeats chunk calls state body test (record { way = out_of_loop gone.way; state = left_block state gone.state }) (cost + 1)
    repeat_fails : {chunk : List ItemNode} {calls cost more : ℕ} {state last now : State} {body : BlockNode} {test : Node} {why : Fault} →
        Runs chunk calls state body (goes last) cost → Evaluates chunk calls last test (fails why now) more → Repeats chunk calls state body test (stops why (left_block state now)) (cost + more + 1)
    repeat_ends : {chunk : List ItemNode} {calls cost more : ℕ} {state last now : State} {body : BlockNode} {test : Node} {given : LuaValue} →
        Runs chunk calls state body (goes last) cost → Evaluates chunk calls last test (gives given now) more → is_true given ≡ true →
        Repeats chunk calls state body test (goes (left_block state now)) (cost + more + 1)
    repeat_on : {chunk : List ItemNode} {calls cost more rest : ℕ} {state last now : State} {body : BlockNode} {test : Node} {given : LuaValue} {gone : Gone} →
        Runs chunk calls state body (goes last) cost → Evaluates chunk calls last test (gives given now) more → is_true given ≡ false → Repeats chunk calls (left_block state now) body test gone rest →
        Repeats chunk calls state body test gone (cost + more + rest + 1)

  -- a turn of a `for` is begun where its number isn't past the end; its name is a new local of the turn
  pub data Turns : List ItemNode → ℕ → State → List ℕ → Bounds → BlockNode → Gone → ℕ → Type 0 where
    past : {chunk : List ItemNode} {calls : ℕ} {state : State} {called : List ℕ} {bounds : Bounds} {body : BlockNode} → comes bounds ≡ false → Turns chunk calls state called bounds body (goes state) 0
    turn_left : {chunk : List ItemNode} {calls cost : ℕ} {state : State} {called : List ℕ} {bounds : Bounds} {body : BlockNode} {gone : Gone} → comes bounds ≡ true →
        Runs chunk calls (declared called (Number bounds.first) state) body gone cost → loops gone.way ≡ false →
        Turns chunk calls state called bounds body (record { way = out_of_loop gone.way; state = left_block state gone.state }) (cost + 1)
    turn_on : {chunk : List ItemNode} {calls cost rest : ℕ} {state last : State} {called : List ℕ} {bounds : Bounds} {body : BlockNode} {gone : Gone} → comes bounds ≡ true →
        Runs chunk calls (declared called (Number bounds.first) state) body (goes last) cost → Turns chunk calls (left_block state last) called (next_turn bounds) body gone rest →
        Turns chunk calls state called bounds body gone (cost + rest + 1)
