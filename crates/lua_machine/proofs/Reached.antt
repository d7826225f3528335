-- What a node comes to is what turns come to: from the node, with any frames behind it, to its value or its way out at the innermost of them.
use Rattle.std.proofs.Common.{◌≡◌, ℕ, suc, ◌+◌, true, false, List, [], ◌∷◌, ◌++◌, length, refl, sym, subst, Ok, Err, Result, arith, append_assoc, append-nil}
use Rattle.std.specs.Prelude.{Some, None}
use Rattle.lua_tree.specs.declared.tree.BinaryOp.TheVariants as op_of
use Rattle.lua_machine.specs.Tree as t
use Rattle.lua_machine.specs.Tree.{Node, Nodes, none, ◌and◌, EntryNodes, StatementNode, BlockNode, ArmNodes, ItemNode}
use Rattle.lua_machine.specs.Value.{LuaValue, Nil, Truth, Number, Table, Fault, UnknownName}
use Rattle.lua_machine.specs.State.{State, Done, Variables, gives, value_of, assigned, declared}
use Rattle.lua_machine.specs.Operators.{text}
use Rattle.lua_machine.specs.Library.{MathFunction, Random, Floor, Abs, Min, Max, math_result, table_result}
use Rattle.lua_machine.specs.Functions.{Function}
use Rattle.lua_machine.specs.Yields.{Evaluates, AllEvaluate, Fills, Executes, Runs, Chooses, While, Repeats, Turns, Gone, Way, Goes, Breaks, Returns, Fails, Bounds, goes, stops, loops, out_of_loop, returned, answered, after, after_parts, indexed, with_member, unary_result, binary_result, floor_result, done_with, done_parts, put, put_member, bounds_of, comes, IsQuotient, most_calls}
use Rattle.lua_machine.specs.Yields as y
use Rattle.lua_machine.specs.Machine.{Making, Indexes, Selects, Unary, Binary, Calls, Math, Floors, Tables, Stores, Puts, PutsMember, Loops, Frame, Part, LeftSide, NextEntry, NamedEntry, Declares, Assigns, Drops, ReturnsIt, ArmTest, WhileTest, RepeatTest, Others, Inner, WhileBody, RepeatBody, ForBody, Caller, Execute, Machine, Turned, Next, Ended}
use Rattle.lua_machine.specs.Turn.{back_by, left, way_of, back, evaluating, running, cut_to, choosing, repeating, turning_if, turning, looping, entering, filling, keyed_if, made, begun, quotient_of, under_floor, math_by, math_begun, table_begun, call_begun, binary_begun, decided_if, arm_if, while_if, until_if, resumed, turn}

-- ---- sums of units

pub one_more : (total c k : ℕ) → total ≡ c + (k + 1) → total ≡ (c + 1) + k
one_more total c k e = omega arith

pub two_more : (total c k : ℕ) → total ≡ c + (k + 2) → total ≡ (c + 2) + k
two_more total c k e = omega arith

pub behind_two : (total c k m : ℕ) → total ≡ c + (k + m) → total ≡ (c + k) + m
behind_two total c k m e = omega arith

pub behind_one : (total c k m : ℕ) → total ≡ c + (k + m + 1) → total ≡ ((c + 1) + k) + m
behind_one total c k m e = omega arith

pub behind_test : (total c k m : ℕ) → total ≡ c + (k + m + 1) → total ≡ ((c + k) + 1) + m
behind_test total c k m e = omega arith

pub behind_turn : (total c k m r : ℕ) → total ≡ c + (k + m + r + 1) → total ≡ (((c + k) + 1) + m) + r
behind_turn total c k m r e = omega arith

pub behind_body : (total c k m r : ℕ) → total ≡ c + (k + m + r + 1) → total ≡ (((c + 1) + k) + m) + r
behind_body total c k m r e = omega arith

pub nothing_more : (total c : ℕ) → total ≡ c + 0 → total ≡ c
nothing_more total c e = omega arith

-- ---- arguments that are no quotient

some_none : {T : Type 0} (value : T) → Some value ≡ None → ⊥
some_none value same = cc

pub data Sorted (args : Nodes) : Type 0 where
  whole : IsQuotient args → Sorted args
  other : quotient_of args ≡ None → Sorted args

pub sorted : (args : Nodes) → Sorted args
sorted (t.Binary op_of.Over left right line and none) = whole (left, right, line, refl)
sorted _ = other refl

not_whole : {args : Nodes} → ¬ (IsQuotient args) → Sorted args → quotient_of args ≡ None
not_whole isnt (whole is) = absurd (isnt is)
not_whole isnt (other same) = same

pub not_under : (function : MathFunction) (args : Nodes) → ¬ ((function ≡ Floor) × IsQuotient args) → under_floor function args ≡ None
not_under Floor args isnt = not_whole (λ is. isnt (refl, is)) (sorted args)
not_under Random args isnt = refl
not_under Abs args isnt = refl
not_under Min args isnt = refl
not_under Max args isnt = refl

-- the parts came to this, behind the values of those before
abbrev pub parts_by : Making → List LuaValue → Result (List LuaValue) Fault → List Frame → ℕ → State → ℕ → Turned
parts_by making before (Ok values) frames calls state cost = made making (before ++ values) frames calls state cost
parts_by making before (Err why) frames calls state cost = Ended (Err why) cost

true_false : true ≡ false → ⊥
true_false same = cc

-- what holds of what a turn comes to holds before it
module _ (chunk : List ItemNode) (main : Function) (E : Turned → Type 0) (once : (m : Machine) → E (turn chunk main m) → E (Next m)) where
  -- ---- what is made of parts

  as_made : (making : Making) (make : List LuaValue → State → Done LuaValue) →
      ((values : List LuaValue) (state : State) (frames : List Frame) (calls cost : ℕ) → made making values frames calls state cost ≡ back (make values state) frames calls cost) →
      (outcome : Result (List LuaValue) Fault) (state : State) (frames : List Frame) (calls cost : ℕ) →
      E (back (after_parts outcome state make) frames calls cost) → E (parts_by making [] outcome frames calls state cost)
  as_made making make same (Ok values) state frames calls cost k = subst E (sym (same values state frames calls cost)) k
  as_made making make same (Err why) state frames calls cost k = k

  as_left : (making : Making) (make : List LuaValue → State → Gone) →
      ((values : List LuaValue) (state : State) (frames : List Frame) (calls cost : ℕ) → made making values frames calls state cost ≡ left (make values state) frames calls cost) →
      (outcome : Result (List LuaValue) Fault) (state : State) (frames : List Frame) (calls cost : ℕ) →
      E (left (done_parts outcome state make) frames calls cost) → E (parts_by making [] outcome frames calls state cost)
  as_left making make same (Ok values) state frames calls cost k = subst E (sym (same values state frames calls cost)) k
  as_left making make same (Err why) state frames calls cost k = k

  one_further : (making : Making) (before : List LuaValue) (value : LuaValue) (outcome : Result (List LuaValue) Fault) (state : State) (frames : List Frame) (calls cost : ℕ) →
      E (parts_by making before (after_parts outcome state (λ values last. gives (value ∷ values) last)).outcome frames calls (after_parts outcome state (λ values last. gives (value ∷ values) last)).state cost) →
      E (parts_by making (before ++ value ∷ []) outcome frames calls state cost)
  one_further making before value (Ok values) state frames calls cost k =
      subst (λ vs. E (made making vs frames calls state cost)) (sym (append_assoc before (value ∷ []) values)) k
  one_further making before value (Err why) state frames calls cost k = k

  -- a statement's value is there
  with_value : (frame : Frame) (make : LuaValue → State → Gone) →
      ((value : LuaValue) (state : State) (frames : List Frame) (calls cost : ℕ) → resumed main frame (Returns value) frames calls state cost ≡ left (make value state) frames calls cost) →
      (outcome : Result LuaValue Fault) (state : State) (frames : List Frame) (calls cost : ℕ) →
      E (left (done_parts outcome state make) frames calls cost) → E (back_by (way_of outcome) state (frame ∷ frames) calls cost)
  with_value frame make same (Ok value) state frames calls cost k = once _ (subst E (sym (same value state frames calls cost)) k)
  with_value frame make same (Err why) state frames calls cost k = k

  -- ---- ways out

  out_of_call : (way : Way) (state : State) (locals : Variables) (frames : List Frame) (calls inner cost : ℕ) →
      E (back (returned way (record state { locals = locals })) frames calls cost) → E (back_by way state (Caller locals calls ∷ frames) inner cost)
  out_of_call Goes state locals frames calls inner cost k = once _ k
  out_of_call Breaks state locals frames calls inner cost k = once _ k
  out_of_call (Returns value) state locals frames calls inner cost k = once _ k
  out_of_call (Fails why) state locals frames calls inner cost k = k

  out_of_block : (way : Way) (state : State) (outer : ℕ) (frames : List Frame) (calls cost : ℕ) →
      E (back_by way (cut_to outer state) frames calls cost) → E (back_by way state (Inner outer ∷ frames) calls cost)
  out_of_block Goes state outer frames calls cost k = once _ k
  out_of_block Breaks state outer frames calls cost k = once _ k
  out_of_block (Returns value) state outer frames calls cost k = once _ k
  out_of_block (Fails why) state outer frames calls cost k = k

  over_others : (way : Way) → loops way ≡ false → (state : State) (others : BlockNode) (frames : List Frame) (calls cost : ℕ) →
      E (back_by way state frames calls cost) → E (back_by way state (Others others ∷ frames) calls cost)
  over_others Goes ends state others frames calls cost k = absurd (true_false ends)
  over_others Breaks ends state others frames calls cost k = once _ k
  over_others (Returns value) ends state others frames calls cost k = once _ k
  over_others (Fails why) ends state others frames calls cost k = k

  out_of_while : (way : Way) → loops way ≡ false → (state : State) (outer : ℕ) (test : Node) (body : BlockNode) (frames : List Frame) (calls cost : ℕ) →
      E (back_by (out_of_loop way) (cut_to outer state) frames calls cost) → E (back_by way state (WhileBody outer test body ∷ frames) calls cost)
  out_of_while Goes ends state outer test body frames calls cost k = absurd (true_false ends)
  out_of_while Breaks ends state outer test body frames calls cost k = once _ k
  out_of_while (Returns value) ends state outer test body frames calls cost k = once _ k
  out_of_while (Fails why) ends state outer test body frames calls cost k = k

  out_of_repeat : (way : Way) → loops way ≡ false → (state : State) (outer : ℕ) (body : BlockNode) (test : Node) (frames : List Frame) (calls cost : ℕ) →
      E (back_by (out_of_loop way) (cut_to outer state) frames calls cost) → E (back_by way state (RepeatBody outer body test ∷ frames) calls cost)
  out_of_repeat Goes ends state outer body test frames calls cost k = absurd (true_false ends)
  out_of_repeat Breaks ends state outer body test frames calls cost k = once _ k
  out_of_repeat (Returns value) ends state outer body test frames calls cost k = once _ k
  out_of_repeat (Fails why) ends state outer body test frames calls cost k = k

  out_of_for : (way : Way) → loops way ≡ false → (state : State) (outer : ℕ) (called : List ℕ) (bounds : Bounds) (body : BlockNode) (frames : List Frame) (calls cost : ℕ) →
      E (back_by (out_of_loop way) (cut_to outer state) frames calls cost) → E (back_by way state (ForBody outer called bounds body ∷ frames) calls cost)
  out_of_for Goes ends state outer called bounds body frames calls cost k = absurd (true_false ends)
  out_of_for Breaks ends state outer called bounds body frames calls cost k = once _ k
  out_of_for (Returns value) ends state outer called bounds body frames calls cost k = once _ k
  out_of_for (Fails why) ends state outer called bounds body frames calls cost k = k

  -- ---- nodes
  mutual
    pub expression : {calls cost : ℕ} {state : State} {node : Node} {done : Done LuaValue} → Evaluates chunk calls state node done cost → (frames : List Frame) (c total : ℕ) → total ≡ c + cost →
        E (back done frames calls total) → E (evaluating node frames calls state c)
    expression (y.nil {calls = calls} {state = state}) frames c total e k = once _ (subst (λ n. E (back (gives Nil state) frames calls n)) e k)
    expression (y.yes {calls = calls} {state = state}) frames c total e k = once _ (subst (λ n. E (back (gives (Truth true) state) frames calls n)) e k)
    expression (y.no {calls = calls} {state = state}) frames c total e k = once _ (subst (λ n. E (back (gives (Truth false) state) frames calls n)) e k)
    expression (y.number {calls = calls} {state = state} {value = value}) frames c total e k = once _ (subst (λ n. E (back (gives (Number value) state) frames calls n)) e k)
    expression (y.string {calls = calls} {line = line} {state = state} {bytes = bytes}) frames c total e k = once _ (subst (λ n. E (back (answered (text line bytes) state) frames calls n)) e k)
    expression (y.name {calls = calls} {state = state} {called = called}) frames c total e k = once _ (subst (λ n. E (back (gives (value_of called state) state) frames calls n)) e k)
    expression (y.index {calls = calls} {line = line} {parts = done} p) frames c total e k =
        once _ (parts p (Indexes line) [] frames (c + 1) total (one_more _ _ _ e) (as_made (Indexes line) (indexed line) (λ v s f n m. refl) done.outcome done.state frames calls total k))
    expression (y.member {calls = calls} {line = line} {called = called} {parts = done} p) frames c total e k =
        once _ (parts p (Selects called line) [] frames (c + 1) total (one_more _ _ _ e) (as_made (Selects called line) (λ values now. indexed line (with_member called values) now) (λ v s f n m. refl) done.outcome done.state frames calls total k))
    expression (y.unary {calls = calls} {line = line} {op = op} {parts = done} p) frames c total e k =
        once _ (parts p (Unary op line) [] frames (c + 1) total (one_more _ _ _ e) (as_made (Unary op line) (unary_result op line) (λ v s f n m. refl) done.outcome done.state frames calls total k))
    expression (y.binary {calls = calls} {line = line} {state = state} {op = op} {left = west} {right = east} {parts = done} kind p) frames c total e k =
        once _ (subst (λ b. E (binary_begun b op west east line frames calls state c)) (sym kind)
        (parts p (Binary op line) [] frames (c + 1) total (one_more _ _ _ e) (as_made (Binary op line) (binary_result op line) (λ v s f n m. refl) done.outcome done.state frames calls total k)))
    expression (y.left_fails {calls = calls} {line = line} {state = state} {op = op} {left = west} {right = east} kind p) frames c total e k =
        once _ (subst (λ b. E (binary_begun b op west east line frames calls state c)) (sym kind) (expression p (LeftSide op east ∷ frames) (c + 1) total (one_more _ _ _ e) k))
    expression (y.left_decides {calls = calls} {line = line} {state = state} {now = now} {op = op} {left = west} {value = value} {right = east} kind side p) frames c total e k =
        once _ (subst (λ b. E (binary_begun b op west east line frames calls state c)) (sym kind)
        (expression p (LeftSide op east ∷ frames) (c + 1) total (one_more _ _ _ e) (once _ (subst (λ b. E (decided_if b east value frames calls now total)) (sym side) k))))
    expression (y.right_decides {calls = calls} {line = line} {cost = cost} {state = state} {now = now} {op = op} {left = west} {right = east} {value = value} kind side p q) frames c total e k =
        once _ (subst (λ b. E (binary_begun b op west east line frames calls state c)) (sym kind)
        (expression p (LeftSide op east ∷ frames) (c + 1) ((c + 1) + cost) refl (once _ (subst (λ b. E (decided_if b east value frames calls now ((c + 1) + cost))) (sym side)
        (expression q frames ((c + 1) + cost) total (behind_one _ _ _ _ e) k)))))
    expression (y.unknown {calls = calls} {line = line} {state = state} {args = args} found) frames c total e k =
        once _ (subst (λ f. E (call_begun f args line frames calls state c)) (sym found) (subst (λ n. E (Ended (Err (UnknownName line)) n)) e k))
    expression (y.argument_fails {calls = calls} {line = line} {state = state} {args = args} {function = function} found p) frames c total e k =
        once _ (subst (λ f. E (call_begun f args line frames calls state c)) (sym found) (parts p (Calls function line) [] frames (c + 1) total (one_more _ _ _ e) k))
    expression (y.too_deep {calls = calls} {line = line} {state = state} {now = now} {args = args} {function = function} {values = values} found p deep) frames c total e k =
        once _ (subst (λ f. E (call_begun f args line frames calls state c)) (sym found)
        (parts p (Calls function line) [] frames (c + 1) total (one_more _ _ _ e) (subst (λ b. E (entering b function line values frames calls now total)) (sym deep) k)))
    expression (y.call {calls = calls} {line = line} {cost = cost} {state = state} {now = now} {args = args} {function = function} {values = values} {gone = gone} found p deep r) frames c total e k =
        once _ (subst (λ f. E (call_begun f args line frames calls state c)) (sym found)
        (parts p (Calls function line) [] frames (c + 1) ((c + 1) + cost) refl (subst (λ b. E (entering b function line values frames calls now ((c + 1) + cost))) (sym deep)
        (block r (Caller now.locals calls ∷ frames) ((c + 1) + cost) total (behind_one _ _ _ _ e) (out_of_call gone.way gone.state now.locals frames calls (suc calls) total k)))))
    expression (y.math_unknown {calls = calls} {line = line} {state = state} {args = args} found) frames c total e k =
        once _ (subst (λ f. E (math_begun f args line frames calls state c)) (sym found) (subst (λ n. E (Ended (Err (UnknownName line)) n)) e k))
    expression (y.math_call {calls = calls} {line = line} {state = state} {args = args} {function = function} {parts = done} found isnt p) frames c total e k =
        once _ (subst (λ f. E (math_begun f args line frames calls state c)) (sym found) (subst (λ q. E (math_by q function args line frames calls state c)) (sym (not_under function args isnt))
        (parts p (Math function line) [] frames (c + 1) total (one_more _ _ _ e) (as_made (Math function line) (math_result function line) (λ v s f n m. refl) done.outcome done.state frames calls total k))))
    expression (y.floor_call {calls = calls} {line = line} {state = state} {left = west} {right = east} {parts = done} {at = at} found p) frames c total e k =
        once _ (subst (λ f. E (math_begun f (t.Binary op_of.Over west east at and none) line frames calls state c)) (sym found)
        (parts p (Floors at) [] frames (c + 2) total (two_more _ _ _ e) (as_made (Floors at) (floor_result at) (λ v s f n m. refl) done.outcome done.state frames calls total k)))
    expression (y.table_unknown {calls = calls} {line = line} {state = state} {args = args} found) frames c total e k =
        once _ (subst (λ f. E (table_begun f args line frames calls state c)) (sym found) (subst (λ n. E (Ended (Err (UnknownName line)) n)) e k))
    expression (y.table_call {calls = calls} {line = line} {state = state} {args = args} {function = function} {parts = done} found p) frames c total e k =
        once _ (subst (λ f. E (table_begun f args line frames calls state c)) (sym found)
        (parts p (Tables function line) [] frames (c + 1) total (one_more _ _ _ e) (as_made (Tables function line) (table_result function line) (λ v s f n m. refl) done.outcome done.state frames calls total k)))
    expression (y.construct p) frames c total e k = once _ (entries p frames (c + 1) total (one_more _ _ _ e) k)

    pub parts : {calls cost : ℕ} {state : State} {nodes : Nodes} {done : Done (List LuaValue)} → AllEvaluate chunk calls state nodes done cost →
        (making : Making) (before : List LuaValue) (frames : List Frame) (c total : ℕ) → total ≡ c + cost →
        E (parts_by making before done.outcome frames calls done.state total) → E (begun making before nodes frames calls state c)
    parts (y.all {calls = calls} {state = state}) making before frames c total e k =
        subst (λ n. E (made making before frames calls state n)) (nothing_more _ _ e) (subst (λ vs. E (made making vs frames calls state total)) (append-nil before) k)
    parts (y.fault {others = others} p) making before frames c total e k = expression p (Part making before others ∷ frames) c total e k
    parts (y.onward {calls = calls} {cost = cost} {others = others} {value = value} {rest = rest} p q) making before frames c total e k =
        expression p (Part making before others ∷ frames) c (c + cost) refl (once _
        (parts q making (before ++ value ∷ []) frames (c + cost) total (behind_two _ _ _ _ e) (one_further making before value rest.outcome rest.state frames calls total k)))

    pub entries : {calls cost : ℕ} {state : State} {at next : ℕ} {nodes : EntryNodes} {done : Done LuaValue} → Fills chunk calls state at next nodes done cost →
        (frames : List Frame) (c total : ℕ) → total ≡ c + cost → E (back done frames calls total) → E (filling at next nodes frames calls state c)
    entries (y.filled {calls = calls} {at = at} {state = state}) frames c total e k = subst (λ n. E (back (gives (Table at) state) frames calls n)) (nothing_more _ _ e) k
    entries (y.value {at = at} {next = next} {cost = cost} {others = others} p q) frames c total e k =
        expression p (NextEntry at next others ∷ frames) c (c + cost) refl (once _ (entries q frames (c + cost) total (behind_two _ _ _ _ e) k))
    entries (y.value_fails {at = at} {next = next} {others = others} p) frames c total e k = expression p (NextEntry at next others ∷ frames) c total e k
    entries (y.named {at = at} {next = next} {cost = cost} {called = called} {others = others} p q) frames c total e k =
        expression p (NamedEntry at next called others ∷ frames) c (c + cost) refl (once _ (entries q frames (c + cost) total (behind_two _ _ _ _ e) k))
    entries (y.named_fails {at = at} {next = next} {called = called} {others = others} p) frames c total e k = expression p (NamedEntry at next called others ∷ frames) c total e k
    entries (y.keyed {calls = calls} {at = at} {next = next} {line = line} {cost = cost} {now = now} {where_to = where_to} {given = given} {others = others} p is q) frames c total e k =
        parts p (Stores at next others line) [] frames c (c + cost) refl (subst (λ b. E (keyed_if b at next others line where_to given frames calls now (c + cost))) (sym is)
        (entries q frames (c + cost) total (behind_two _ _ _ _ e) k))
    entries (y.no_key {calls = calls} {at = at} {next = next} {line = line} {now = now} {where_to = where_to} {given = given} {others = others} p isnt) frames c total e k =
        parts p (Stores at next others line) [] frames c total e (subst (λ b. E (keyed_if b at next others line where_to given frames calls now total)) (sym isnt) k)
    entries (y.keyed_fails {at = at} {next = next} {line = line} {others = others} p) frames c total e k = parts p (Stores at next others line) [] frames c total e k

    pub statement : {calls cost : ℕ} {state : State} {node : StatementNode} {gone : Gone} → Executes chunk calls state node gone cost → (frames : List Frame) (c total : ℕ) → total ≡ c + cost →
        E (left gone frames calls total) → E (Next (record { control = Execute node; frames = frames; calls = calls; state = state; cost = c }))
    statement (y.local_with {calls = calls} {called = called} {done = done} p) frames c total e k =
        once _ (expression p (Declares called ∷ frames) (c + 1) total (one_more _ _ _ e)
        (with_value (Declares called) (λ given now. goes (declared called given now)) (λ v s f n m. refl) done.outcome done.state frames calls total k))
    statement (y.local_without {calls = calls} {state = state} {called = called}) frames c total e k = once _ (subst (λ n. E (left (goes (declared called Nil state)) frames calls n)) e k)
    statement (y.assign {calls = calls} {called = called} {done = done} p) frames c total e k =
        once _ (expression p (Assigns called ∷ frames) (c + 1) total (one_more _ _ _ e)
        (with_value (Assigns called) (λ given now. goes (assigned called given now)) (λ v s f n m. refl) done.outcome done.state frames calls total k))
    statement (y.set_index {calls = calls} {line = line} {parts = done} p) frames c total e k =
        once _ (parts p (Puts line) [] frames (c + 1) total (one_more _ _ _ e) (as_left (Puts line) (put line) (λ v s f n m. refl) done.outcome done.state frames calls total k))
    statement (y.set_member {calls = calls} {line = line} {called = called} {parts = done} p) frames c total e k =
        once _ (parts p (PutsMember called line) [] frames (c + 1) total (one_more _ _ _ e) (as_left (PutsMember called line) (put_member line called) (λ v s f n m. refl) done.outcome done.state frames calls total k))
    statement (y.call_alone {calls = calls} {done = done} p) frames c total e k =
        once _ (expression p (Drops ∷ frames) (c + 1) total (one_more _ _ _ e) (with_value Drops (λ given now. goes now) (λ v s f n m. refl) done.outcome done.state frames calls total k))
    statement (y.conditional p) frames c total e k = once _ (arms p frames (c + 1) total (one_more _ _ _ e) k)
    statement (y.while_loop p) frames c total e k = once _ (while_turns p frames (c + 1) total (one_more _ _ _ e) k)
    statement (y.repeat_loop p) frames c total e k = once _ (repeat_turns p frames (c + 1) total (one_more _ _ _ e) k)
    statement (y.bounds_fail {line = line} {called = called} {body = body} p) frames c total e k = once _ (parts p (Loops called body line) [] frames (c + 1) total (one_more _ _ _ e) k)
    statement (y.no_bounds {calls = calls} {line = line} {now = now} {called = called} {body = body} p bounds) frames c total e k =
        once _ (parts p (Loops called body line) [] frames (c + 1) total (one_more _ _ _ e) (subst (λ r. E (looping r called body frames calls now total)) (sym bounds) k))
    statement (y.for_loop {calls = calls} {line = line} {cost = cost} {now = now} {called = called} {body = body} p bounds q) frames c total e k =
        once _ (parts p (Loops called body line) [] frames (c + 1) ((c + 1) + cost) refl (subst (λ r. E (looping r called body frames calls now ((c + 1) + cost))) (sym bounds)
        (for_turns q frames ((c + 1) + cost) total (behind_one _ _ _ _ e) k)))
    statement (y.do_block {calls = calls} {state = state} {gone = gone} p) frames c total e k =
        once _ (block p (Inner (length state.locals) ∷ frames) (c + 1) total (one_more _ _ _ e) (out_of_block gone.way gone.state (length state.locals) frames calls total k))
    statement (y.break_out {calls = calls} {state = state}) frames c total e k = once _ (subst (λ n. E (left (record { way = Breaks; state = state }) frames calls n)) e k)
    statement (y.return_with {calls = calls} {done = done} p) frames c total e k =
        once _ (expression p (ReturnsIt ∷ frames) (c + 1) total (one_more _ _ _ e)
        (with_value ReturnsIt (λ given now. record { way = Returns given; state = now }) (λ v s f n m. refl) done.outcome done.state frames calls total k))
    statement (y.return_without {calls = calls} {state = state}) frames c total e k = once _ (subst (λ n. E (left (record { way = Returns Nil; state = state }) frames calls n)) e k)

    pub block : {calls cost : ℕ} {state : State} {body : BlockNode} {gone : Gone} → Runs chunk calls state body gone cost → (frames : List Frame) (c total : ℕ) → total ≡ c + cost →
        E (left gone frames calls total) → E (running body frames calls state c)
    block (y.finished {calls = calls} {state = state}) frames c total e k = subst (λ n. E (left (goes state) frames calls n)) (nothing_more _ _ e) k
    block (y.ended {calls = calls} {others = others} {gone = gone} p ends) frames c total e k =
        statement p (Others others ∷ frames) c total e (over_others gone.way ends gone.state others frames calls total k)
    block (y.on {cost = cost} {others = others} p q) frames c total e k =
        statement p (Others others ∷ frames) c (c + cost) refl (once _ (block q frames (c + cost) total (behind_two _ _ _ _ e) k))

    pub arms : {calls cost : ℕ} {state : State} {node : ArmNodes} {gone : Gone} → Chooses chunk calls state node gone cost → (frames : List Frame) (c total : ℕ) → total ≡ c + cost →
        E (left gone frames calls total) → E (choosing node frames calls state c)
    arms (y.no_else {calls = calls} {state = state}) frames c total e k = subst (λ n. E (left (goes state) frames calls n)) (nothing_more _ _ e) k
    arms (y.in_else {calls = calls} {state = state} {gone = gone} p) frames c total e k =
        block p (Inner (length state.locals) ∷ frames) c total e (out_of_block gone.way gone.state (length state.locals) frames calls total k)
    arms (y.test_fails {arms = others} {body = body} p) frames c total e k = expression p (ArmTest body others ∷ frames) c total e k
    arms (y.holds {calls = calls} {cost = cost} {now = now} {body = body} {arms = others} {gone = gone} p is q) frames c total e k =
        expression p (ArmTest body others ∷ frames) c (c + cost) refl (once _ (subst (λ b. E (arm_if b body others frames calls now (c + cost))) (sym is)
        (block q (Inner (length now.locals) ∷ frames) (c + cost) total (behind_two _ _ _ _ e) (out_of_block gone.way gone.state (length now.locals) frames calls total k))))
    arms (y.fails_over {calls = calls} {cost = cost} {now = now} {arms = others} {body = body} p isnt q) frames c total e k =
        expression p (ArmTest body others ∷ frames) c (c + cost) refl (once _ (subst (λ b. E (arm_if b body others frames calls now (c + cost))) (sym isnt)
        (arms q frames (c + cost) total (behind_two _ _ _ _ e) k)))

    pub while_turns : {calls cost : ℕ} {state : State} {test : Node} {body : BlockNode} {gone : Gone} → While chunk calls state test body gone cost → (frames : List Frame) (c total : ℕ) → total ≡ c + cost →
        E (left gone frames calls total) → E (evaluating test (WhileTest test body ∷ frames) calls state c)
    while_turns (y.while_fails {test = test} {body = body} p) frames c total e k = expression p (WhileTest test body ∷ frames) c total e k
    while_turns (y.while_ends {calls = calls} {now = now} {test = test} {body = body} p isnt) frames c total e k =
        expression p (WhileTest test body ∷ frames) c total e (once _ (subst (λ b. E (while_if b test body frames calls now total)) (sym isnt) k))
    while_turns (y.while_left {calls = calls} {cost = cost} {now = now} {test = test} {body = body} {gone = gone} p is q ends) frames c total e k =
        expression p (WhileTest test body ∷ frames) c (c + cost) refl (once _ (subst (λ b. E (while_if b test body frames calls now (c + cost))) (sym is)
        (block q (WhileBody (length now.locals) test body ∷ frames) ((c + cost) + 1) total (behind_test _ _ _ _ e) (out_of_while gone.way ends gone.state (length now.locals) test body frames calls total k))))
    while_turns (y.while_on {calls = calls} {cost = cost} {more = more} {now = now} {test = test} {body = body} p is q r) frames c total e k =
        expression p (WhileTest test body ∷ frames) c (c + cost) refl (once _ (subst (λ b. E (while_if b test body frames calls now (c + cost))) (sym is)
        (block q (WhileBody (length now.locals) test body ∷ frames) ((c + cost) + 1) (((c + cost) + 1) + more) refl (once _
        (while_turns r frames (((c + cost) + 1) + more) total (behind_turn _ _ _ _ _ e) k)))))

    pub repeat_turns : {calls cost : ℕ} {state : State} {body : BlockNode} {test : Node} {gone : Gone} → Repeats chunk calls state body test gone cost → (frames : List Frame) (c total : ℕ) → total ≡ c + cost →
        E (left gone frames calls total) → E (repeating body test frames calls state c)
    repeat_turns (y.repeat_left {calls = calls} {state = state} {body = body} {test = test} {gone = gone} p ends) frames c total e k =
        block p (RepeatBody (length state.locals) body test ∷ frames) (c + 1) total (one_more _ _ _ e) (out_of_repeat gone.way ends gone.state (length state.locals) body test frames calls total k)
    repeat_turns (y.repeat_fails {cost = cost} {state = state} {body = body} {test = test} p q) frames c total e k =
        block p (RepeatBody (length state.locals) body test ∷ frames) (c + 1) ((c + 1) + cost) refl (once _
        (expression q (RepeatTest (length state.locals) body test ∷ frames) ((c + 1) + cost) total (behind_one _ _ _ _ e) k))
    repeat_turns (y.repeat_ends {calls = calls} {cost = cost} {state = state} {now = now} {body = body} {test = test} p q is) frames c total e k =
        block p (RepeatBody (length state.locals) body test ∷ frames) (c + 1) ((c + 1) + cost) refl (once _
        (expression q (RepeatTest (length state.locals) body test ∷ frames) ((c + 1) + cost) total (behind_one _ _ _ _ e)
        (once _ (subst (λ b. E (until_if b (length state.locals) body test frames calls now total)) (sym is) k))))
    repeat_turns (y.repeat_on {calls = calls} {cost = cost} {more = more} {state = state} {now = now} {body = body} {test = test} p q isnt r) frames c total e k =
        block p (RepeatBody (length state.locals) body test ∷ frames) (c + 1) ((c + 1) + cost) refl (once _
        (expression q (RepeatTest (length state.locals) body test ∷ frames) ((c + 1) + cost) (((c + 1) + cost) + more) refl
        (once _ (subst (λ b. E (until_if b (length state.locals) body test frames calls now (((c + 1) + cost) + more))) (sym isnt)
        (repeat_turns r frames (((c + 1) + cost) + more) total (behind_body _ _ _ _ _ e) k)))))

    pub for_turns : {calls cost : ℕ} {state : State} {called : List ℕ} {bounds : Bounds} {body : BlockNode} {gone : Gone} → Turns chunk calls state called bounds body gone cost → (frames : List Frame) (c total : ℕ) → total ≡ c + cost →
        E (left gone frames calls total) → E (turning called bounds body frames calls state c)
    for_turns (y.past {calls = calls} {state = state} {called = called} {bounds = bounds} {body = body} isnt) frames c total e k =
        subst (λ b. E (turning_if b called bounds body frames calls state c)) (sym isnt) (subst (λ n. E (left (goes state) frames calls n)) (nothing_more _ _ e) k)
    for_turns (y.turn_left {calls = calls} {state = state} {called = called} {bounds = bounds} {body = body} {gone = gone} is p ends) frames c total e k =
        subst (λ b. E (turning_if b called bounds body frames calls state c)) (sym is)
        (block p (ForBody (length state.locals) called bounds body ∷ frames) (c + 1) total (one_more _ _ _ e) (out_of_for gone.way ends gone.state (length state.locals) called bounds body frames calls total k))
    for_turns (y.turn_on {calls = calls} {cost = cost} {state = state} {called = called} {bounds = bounds} {body = body} is p q) frames c total e k =
        subst (λ b. E (turning_if b called bounds body frames calls state c)) (sym is)
        (block p (ForBody (length state.locals) called bounds body ∷ frames) (c + 1) ((c + 1) + cost) refl (once _
        (for_turns q frames ((c + 1) + cost) total (behind_one _ _ _ _ e) k)))
