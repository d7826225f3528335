-- What turns come to is what a node comes to: expressions, a turn further.
use Rattle.std.proofs.Common.{◌≡◌, ℕ, zero, suc, ◌+◌, Bool, true, false, List, [], ◌∷◌, ◌++◌, length, refl, ap, ◌∙◌, sym, subst, Ok, Err, Result}
use Rattle.std.specs.Prelude.{Option, Some, None, nat_lt}
use Rattle.lua_tree.specs.declared.tree.BinaryOp.{BinaryOp}
use Rattle.lua_machine.specs.Tree as t
use Rattle.lua_machine.specs.Tree.{Node, Nodes, none, ◌and◌, EntryNodes, StatementNode, BlockNode, ◌andthen◌, ArmNodes, ItemNode}
use Rattle.lua_machine.specs.Tables.{no_keys}
use Rattle.lua_machine.specs.Value.{LuaValue, Nil, Truth, Number, Fault, UnknownName, TooDeepCalls}
use Rattle.lua_machine.specs.State.{State, Done, gives, fails, value_of, entered}
use Rattle.lua_machine.specs.Operators.{text, decides, is_logical}
use Rattle.lua_machine.specs.Library.{MathFunction, math_result, table_result, math_of, table_of, TableFunction}
use Rattle.lua_machine.specs.Functions.{Function, function_of}
use Rattle.lua_machine.specs.Yields.{Evaluates, AllEvaluate, Fills, Executes, Runs, Chooses, While, Repeats, Turns, Gone, Way, Goes, Breaks, Returns, Fails, Bounds, goes, stops, out_of_loop, returned, answered, after, after_parts, indexed, with_member, unary_result, binary_result, floor_result, done_with, done_parts, put, put_member, bounds_of, bounds_parts, comes, next_turn, IsQuotient, most_calls}
use Rattle.lua_machine.specs.Yields as y
use Rattle.lua_machine.specs.Machine.{Making, Indexes, Selects, Unary, Binary, Calls, Math, Floors, Tables, Frame, LeftSide, Caller, Evaluate, Machine, Turned, Next}
use Rattle.lua_machine.specs.Turn.{back_by, way_of, back, entering, made, begun, Quotient, under_floor, math_by, math_begun, table_begun, call_begun, binary_begun, decided_if, turn}
use Rattle.lua_machine.proofs.Reached.{parts_by}
use Rattle.lua_machine.proofs.FoundParts.{Came, isnt_under, sum_body, sum_more, sum_none, sum_test, sum_turn, sum_two, sum_two_more, under_is}
use Rattle.lua_machine.proofs.FoundParts as known

-- turns that end within so many, where none of what is still to be turned has ended
module _ (chunk : List ItemNode) (main : Function) (E : ℕ → Turned → Type 0)
    (never : (m : Machine) → E zero (Next m) → ⊥) (step : (n : ℕ) (m : Machine) → E (suc n) (Next m) → E n (turn chunk main m)) (more : (n : ℕ) (from : Turned) → E n from → E (suc n) from) where
  -- ---- expressions, a turn further

  abbrev pub ExpressionCame : ℕ → List Frame → ℕ → State → ℕ → Node → Type 0
  ExpressionCame n frames calls state c node = Came (λ (done : Done LuaValue) cost. Evaluates chunk calls state node done cost) (λ done total. E n (back done frames calls total)) c

  pub of_parts : (n : ℕ) → known.ExpressionAt chunk main E never step more n → (node : Node) (nodes : Nodes) (extra : ℕ) (making : Making) (make : List LuaValue → State → Done LuaValue) →
      ((values : List LuaValue) (state : State) (frames : List Frame) (calls cost : ℕ) → made making values frames calls state cost ≡ back (make values state) frames calls cost) →
      (frames : List Frame) (calls : ℕ) (state : State) (c : ℕ) →
      ((done : Done (List LuaValue)) (cost : ℕ) → AllEvaluate chunk calls state nodes done cost → Evaluates chunk calls state node (after done make) (cost + extra)) →
      E n (begun making [] nodes frames calls state (c + extra)) → ExpressionCame (suc n) frames calls state c node
  of_parts n x node nodes extra making make same frames calls state c rule h =
      let p = known.parts_at chunk main E never step more n x nodes making [] frames calls state (c + extra) h in
      record {
        given = after p.given make;
        cost = p.cost + extra;
        total = p.total;
        derived = rule p.given p.cost p.derived;
        sum = sum_more _ _ _ _ p.sum;
        rest = more n _ (known.made_as chunk main E never step more n making make same p.given.outcome p.given.state frames calls p.total p.rest);
      }

  pub entering_at : (n : ℕ) → known.StatementAt chunk main E never step more n → (called : List ℕ) (args : Nodes) (line : ℕ) (function : Function) → function_of chunk called ≡ Some function → (frames : List Frame) (calls : ℕ) (state : State) (c : ℕ) →
      (values : List LuaValue) (now : State) (cost total : ℕ) → AllEvaluate chunk calls state args (gives values now) cost → total ≡ (c + 1) + cost →
      (b : Bool) → nat_lt calls most_calls ≡ b → E n (entering b function line values frames calls now total) → ExpressionCame (suc n) frames calls state c (t.Call called args line)
  entering_at n s called args line function found frames calls state c values now cost total p sum false is h =
      record { given = fails (TooDeepCalls line) now; cost = cost + 1; total = total; derived = y.too_deep found p is; sum = sum_more _ _ _ _ sum; rest = more n _ h }
  entering_at n s called args line function found frames calls state c values now cost total p sum true is h =
      let q = known.block_at chunk main E never step more n s function.body (Caller now.locals calls ∷ frames) (suc calls) (entered function.params values now) total h in
      record {
        given = returned q.given.way (record q.given.state { locals = now.locals });
        cost = cost + q.cost + 1;
        total = q.total;
        derived = y.call found p is q.derived;
        sum = sum_two_more _ _ _ _ _ sum q.sum;
        rest = more n _ (known.call_left chunk main E never step more n q.given.way q.given.state now.locals frames calls (suc calls) q.total q.rest);
      }

  pub call_parts : (n : ℕ) → known.StatementAt chunk main E never step more n → (called : List ℕ) (args : Nodes) (line : ℕ) (function : Function) → function_of chunk called ≡ Some function → (frames : List Frame) (calls : ℕ) (state : State) (c : ℕ) →
      (outcome : Result (List LuaValue) Fault) (now : State) (cost total : ℕ) → AllEvaluate chunk calls state args (record { outcome = outcome; state = now }) cost → total ≡ (c + 1) + cost →
      E n (parts_by (Calls function line) [] outcome frames calls now total) → ExpressionCame (suc n) frames calls state c (t.Call called args line)
  call_parts n s called args line function found frames calls state c (Ok values) now cost total p sum h =
      entering_at n s called args line function found frames calls state c values now cost total p sum (nat_lt calls most_calls) refl h
  call_parts n s called args line function found frames calls state c (Err why) now cost total p sum h =
      record { given = fails why now; cost = cost + 1; total = total; derived = y.argument_fails found p; sum = sum_more _ _ _ _ sum; rest = more n _ h }

  pub call_at : (n : ℕ) → known.ExpressionAt chunk main E never step more n → known.StatementAt chunk main E never step more n → (called : List ℕ) (args : Nodes) (line : ℕ) (frames : List Frame) (calls : ℕ) (state : State) (c : ℕ) →
      (found : Option Function) → function_of chunk called ≡ found → E n (call_begun found args line frames calls state c) → ExpressionCame (suc n) frames calls state c (t.Call called args line)
  call_at n x s called args line frames calls state c None is h =
      record { given = fails (UnknownName line) state; cost = 1; total = c + 1; derived = y.unknown is; sum = refl; rest = more n _ h }
  call_at n x s called args line frames calls state c (Some function) is h =
      let p = known.parts_at chunk main E never step more n x args (Calls function line) [] frames calls state (c + 1) h in
      call_parts n s called args line function is frames calls state c p.given.outcome p.given.state p.cost p.total p.derived p.sum p.rest

  pub floor_at : (n : ℕ) → known.ExpressionAt chunk main E never step more n → (called : List ℕ) (args : Nodes) (line : ℕ) (function : MathFunction) → math_of called ≡ Some function → (frames : List Frame) (calls : ℕ) (state : State) (c : ℕ) →
      (q : Option Quotient) → under_floor function args ≡ q → E n (math_by q function args line frames calls state c) → ExpressionCame (suc n) frames calls state c (t.MathCall called args line)
  floor_at n x called args line function found frames calls state c None is h =
      of_parts n x (t.MathCall called args line) args 1 (Math function line) (math_result function line) (λ v s f m k. refl) frames calls state c (λ d k p. y.math_call found (isnt_under function args is) p) h
  floor_at n x called args line function found frames calls state c (Some q) is h =
      of_parts n x (t.MathCall called args line) (q.left and q.right and none) 2 (Floors q.line) (floor_result q.line) (λ v s f m k. refl) frames calls state c
      (λ d k p. subst (λ a. Evaluates chunk calls state (t.MathCall called a line) (after d (floor_result q.line)) (k + 2)) (sym (under_is function args q is).1)
      (y.floor_call (found ∙ ap Some (under_is function args q is).0) p)) h

  pub math_at : (n : ℕ) → known.ExpressionAt chunk main E never step more n → (called : List ℕ) (args : Nodes) (line : ℕ) (frames : List Frame) (calls : ℕ) (state : State) (c : ℕ) →
      (found : Option MathFunction) → math_of called ≡ found → E n (math_begun found args line frames calls state c) → ExpressionCame (suc n) frames calls state c (t.MathCall called args line)
  math_at n x called args line frames calls state c None is h =
      record { given = fails (UnknownName line) state; cost = 1; total = c + 1; derived = y.math_unknown is; sum = refl; rest = more n _ h }
  math_at n x called args line frames calls state c (Some function) is h = floor_at n x called args line function is frames calls state c (under_floor function args) refl h

  pub table_at : (n : ℕ) → known.ExpressionAt chunk main E never step more n → (called : List ℕ) (args : Nodes) (line : ℕ) (frames : List Frame) (calls : ℕ) (state : State) (c : ℕ) →
      (found : Option TableFunction) → table_of called ≡ found → E n (table_begun found args line frames calls state c) → ExpressionCame (suc n) frames calls state c (t.TableCall called args line)
  table_at n x called args line frames calls state c None is h =
      record { given = fails (UnknownName line) state; cost = 1; total = c + 1; derived = y.table_unknown is; sum = refl; rest = more n _ h }
  table_at n x called args line frames calls state c (Some function) is h =
      of_parts n x (t.TableCall called args line) args 1 (Tables function line) (table_result function line) (λ v s f m k. refl) frames calls state c (λ d k p. y.table_call is p) h

  pub right_at : (n : ℕ) → known.ExpressionAt chunk main E never step more n → (op : BinaryOp) (west east : Node) (line : ℕ) → is_logical op ≡ true → (frames : List Frame) (calls : ℕ) (state : State) (c : ℕ) →
      (value : LuaValue) (now : State) (cost total : ℕ) → Evaluates chunk calls state west (gives value now) cost → total ≡ (c + 1) + cost →
      (b : Bool) → decides op value ≡ b → E n (decided_if b east value frames calls now total) → ExpressionCame (suc n) frames calls state c (t.Binary op west east line)
  right_at n x op west east line kind frames calls state c value now cost total p sum true is h =
      record { given = gives value now; cost = cost + 1; total = total; derived = y.left_decides kind is p; sum = sum_more _ _ _ _ sum; rest = more n _ h }
  right_at n x op west east line kind frames calls state c value now cost total p sum false is h =
      let q = x east frames calls now total h in
      record { given = q.given; cost = cost + q.cost + 1; total = q.total; derived = y.right_decides kind is p q.derived; sum = sum_two_more _ _ _ _ _ sum q.sum; rest = more n _ q.rest }

  pub left_at : (n : ℕ) → known.ExpressionAt chunk main E never step more n → (op : BinaryOp) (west east : Node) (line : ℕ) → is_logical op ≡ true → (frames : List Frame) (calls : ℕ) (state : State) (c : ℕ) →
      (outcome : Result LuaValue Fault) (now : State) (cost total : ℕ) → Evaluates chunk calls state west (record { outcome = outcome; state = now }) cost → total ≡ (c + 1) + cost →
      E n (back_by (way_of outcome) now (LeftSide op east ∷ frames) calls total) → ExpressionCame (suc n) frames calls state c (t.Binary op west east line)
  left_at n x op west east line kind frames calls state c (Ok value) now cost total p sum h =
      right_at n x op west east line kind frames calls state c value now cost total p sum (decides op value) refl (known.resume chunk main E never step more n (LeftSide op east) value frames calls now total h)
  left_at n x op west east line kind frames calls state c (Err why) now cost total p sum h =
      record { given = fails why now; cost = cost + 1; total = total; derived = y.left_fails kind p; sum = sum_more _ _ _ _ sum; rest = more n _ h }

  pub binary_at : (n : ℕ) → known.ExpressionAt chunk main E never step more n → (op : BinaryOp) (west east : Node) (line : ℕ) (frames : List Frame) (calls : ℕ) (state : State) (c : ℕ) →
      (b : Bool) → is_logical op ≡ b → E n (binary_begun b op west east line frames calls state c) → ExpressionCame (suc n) frames calls state c (t.Binary op west east line)
  binary_at n x op west east line frames calls state c true is h =
      let p = x west (LeftSide op east ∷ frames) calls state (c + 1) h in
      left_at n x op west east line is frames calls state c p.given.outcome p.given.state p.cost p.total p.derived p.sum p.rest
  binary_at n x op west east line frames calls state c false is h =
      of_parts n x (t.Binary op west east line) (west and east and none) 1 (Binary op line) (binary_result op line) (λ v s f m k. refl) frames calls state c (λ d k p. y.binary is p) h

  pub expression_by : (n : ℕ) → known.ExpressionAt chunk main E never step more n → known.StatementAt chunk main E never step more n → (node : Node) (frames : List Frame) (calls : ℕ) (state : State) (c : ℕ) →
      E n (turn chunk main (record { control = Evaluate node; frames = frames; calls = calls; state = state; cost = c })) → ExpressionCame (suc n) frames calls state c node
  expression_by n x s t.Nil frames calls state c h = record { given = gives Nil state; cost = 1; total = c + 1; derived = y.nil; sum = refl; rest = more n _ h }
  expression_by n x s t.True frames calls state c h = record { given = gives (Truth true) state; cost = 1; total = c + 1; derived = y.yes; sum = refl; rest = more n _ h }
  expression_by n x s t.False frames calls state c h = record { given = gives (Truth false) state; cost = 1; total = c + 1; derived = y.no; sum = refl; rest = more n _ h }
  expression_by n x s (t.Number value) frames calls state c h = record { given = gives (Number value) state; cost = 1; total = c + 1; derived = y.number; sum = refl; rest = more n _ h }
  expression_by n x s (t.Str bytes line) frames calls state c h = record { given = answered (text line bytes) state; cost = 1; total = c + 1; derived = y.string; sum = refl; rest = more n _ h }
  expression_by n x s (t.Name called) frames calls state c h = record { given = gives (value_of called state) state; cost = 1; total = c + 1; derived = y.name; sum = refl; rest = more n _ h }
  expression_by n x s (t.Index table key line) frames calls state c h =
      of_parts n x (t.Index table key line) (table and key and none) 1 (Indexes line) (indexed line) (λ v s f m k. refl) frames calls state c (λ d k p. y.index p) h
  expression_by n x s (t.Member table called line) frames calls state c h =
      of_parts n x (t.Member table called line) (table and none) 1 (Selects called line) (λ values now. indexed line (with_member called values) now) (λ v s f m k. refl) frames calls state c (λ d k p. y.member p) h
  expression_by n x s (t.Call called args line) frames calls state c h = call_at n x s called args line frames calls state c (function_of chunk called) refl h
  expression_by n x s (t.MathCall called args line) frames calls state c h = math_at n x called args line frames calls state c (math_of called) refl h
  expression_by n x s (t.TableCall called args line) frames calls state c h = table_at n x called args line frames calls state c (table_of called) refl h
  expression_by n x s (t.Construct entries) frames calls state c h =
      let p = known.entries_at chunk main E never step more n x entries (length state.tables) 1 frames calls (record state { tables = state.tables ++ no_keys ∷ [] }) (c + 1) h in
      record { given = p.given; cost = p.cost + 1; total = p.total; derived = y.construct p.derived; sum = sum_more _ _ _ _ p.sum; rest = more n _ p.rest }
  expression_by n x s (t.Unary op of line) frames calls state c h =
      of_parts n x (t.Unary op of line) (of and none) 1 (Unary op line) (unary_result op line) (λ v s f m k. refl) frames calls state c (λ d k p. y.unary p) h
  expression_by n x s (t.Binary op west east line) frames calls state c h = binary_at n x op west east line frames calls state c (is_logical op) refl h
