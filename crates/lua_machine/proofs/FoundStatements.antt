-- What turns come to is what a node comes to: statements, a turn further.
use Rattle.std.proofs.Common.{◌≡◌, ℕ, zero, suc, ◌+◌, List, [], ◌∷◌, length, refl, Ok, Err, Result}
use Rattle.std.specs.Prelude.{Option, Some, None}
use Rattle.lua_machine.specs.Tree as t
use Rattle.lua_machine.specs.Tree.{Node, Nodes, none, ◌and◌, EntryNodes, StatementNode, BlockNode, ◌andthen◌, ArmNodes, ItemNode}
use Rattle.lua_machine.specs.Value.{LuaValue, Nil, Fault}
use Rattle.lua_machine.specs.State.{State, Done, gives, assigned, declared, left_block}
use Rattle.lua_machine.specs.Functions.{Function}
use Rattle.lua_machine.specs.Yields.{Evaluates, AllEvaluate, Fills, Executes, Runs, Chooses, While, Repeats, Turns, Gone, Way, Goes, Breaks, Returns, Fails, Bounds, goes, stops, out_of_loop, returned, answered, after, after_parts, indexed, with_member, unary_result, binary_result, floor_result, done_with, done_parts, put, put_member, bounds_of, bounds_parts, comes, next_turn, IsQuotient, most_calls}
use Rattle.lua_machine.specs.Yields as y
use Rattle.lua_machine.specs.Machine.{Making, Puts, PutsMember, Loops, Frame, Declares, Assigns, Drops, ReturnsIt, Inner, Execute, Machine, Turned, Next}
use Rattle.lua_machine.specs.Turn.{left, evaluating, looping, made, begun, resumed, turn}
use Rattle.lua_machine.proofs.Reached.{parts_by}
use Rattle.lua_machine.proofs.FoundParts.{Came, isnt_under, sum_body, sum_more, sum_none, sum_test, sum_turn, sum_two, sum_two_more, under_is}
use Rattle.lua_machine.proofs.FoundParts as known

-- turns that end within so many, where none of what is still to be turned has ended
module _ (chunk : List ItemNode) (main : Function) (E : ℕ → Turned → Type 0)
    (never : (m : Machine) → E zero (Next m) → ⊥) (step : (n : ℕ) (m : Machine) → E (suc n) (Next m) → E n (turn chunk main m)) (more : (n : ℕ) (from : Turned) → E n from → E (suc n) from) where
  -- ---- statements, a turn further

  abbrev pub StatementCame : ℕ → List Frame → ℕ → State → ℕ → StatementNode → Type 0
  StatementCame n frames calls state c node = Came (λ (gone : Gone) cost. Executes chunk calls state node gone cost) (λ gone total. E n (left gone frames calls total)) c

  pub of_value : (n : ℕ) → known.ExpressionAt chunk main E never step more n → (node : StatementNode) (of : Node) (frame : Frame) (make : LuaValue → State → Gone) →
      ((value : LuaValue) (state : State) (frames : List Frame) (calls cost : ℕ) → resumed main frame (Returns value) frames calls state cost ≡ left (make value state) frames calls cost) →
      (frames : List Frame) (calls : ℕ) (state : State) (c : ℕ) →
      ((done : Done LuaValue) (cost : ℕ) → Evaluates chunk calls state of done cost → Executes chunk calls state node (done_with done make) (cost + 1)) →
      E n (evaluating of (frame ∷ frames) calls state (c + 1)) → StatementCame (suc n) frames calls state c node
  of_value n x node of frame make same frames calls state c rule h =
      let p = x of (frame ∷ frames) calls state (c + 1) h in
      record {
        given = done_with p.given make;
        cost = p.cost + 1;
        total = p.total;
        derived = rule p.given p.cost p.derived;
        sum = sum_more _ _ _ _ p.sum;
        rest = more n _ (known.value_as chunk main E never step more n frame make same p.given.outcome p.given.state frames calls p.total p.rest);
      }

  pub put_parts : (n : ℕ) → known.ExpressionAt chunk main E never step more n → (node : StatementNode) (nodes : Nodes) (making : Making) (make : List LuaValue → State → Gone) →
      ((values : List LuaValue) (state : State) (frames : List Frame) (calls cost : ℕ) → made making values frames calls state cost ≡ left (make values state) frames calls cost) →
      (frames : List Frame) (calls : ℕ) (state : State) (c : ℕ) →
      ((done : Done (List LuaValue)) (cost : ℕ) → AllEvaluate chunk calls state nodes done cost → Executes chunk calls state node (done_with done make) (cost + 1)) →
      E n (begun making [] nodes frames calls state (c + 1)) → StatementCame (suc n) frames calls state c node
  put_parts n x node nodes making make same frames calls state c rule h =
      let p = known.parts_at chunk main E never step more n x nodes making [] frames calls state (c + 1) h in
      record {
        given = done_with p.given make;
        cost = p.cost + 1;
        total = p.total;
        derived = rule p.given p.cost p.derived;
        sum = sum_more _ _ _ _ p.sum;
        rest = more n _ (known.left_as chunk main E never step more n making make same p.given.outcome p.given.state frames calls p.total p.rest);
      }

  pub bounds_at : (n : ℕ) → known.ForAt chunk main E never step more n → (called : List ℕ) (first last : Node) (by : Option Node) (body : BlockNode) (line : ℕ) (frames : List Frame) (calls : ℕ) (state : State) (c : ℕ) →
      (values : List LuaValue) (now : State) (cost total : ℕ) → AllEvaluate chunk calls state (bounds_parts first last by) (gives values now) cost → total ≡ (c + 1) + cost →
      (r : Result Bounds Fault) → bounds_of line values ≡ r → E n (looping r called body frames calls now total) → StatementCame (suc n) frames calls state c (t.For called first last by body line)
  bounds_at n f called first last by body line frames calls state c values now cost total p sum (Ok bounds) is h =
      let q = f called bounds body frames calls now total h in
      record { given = q.given; cost = cost + q.cost + 1; total = q.total; derived = y.for_loop p is q.derived; sum = sum_two_more _ _ _ _ _ sum q.sum; rest = more n _ q.rest }
  bounds_at n f called first last by body line frames calls state c values now cost total p sum (Err why) is h =
      record { given = stops why now; cost = cost + 1; total = total; derived = y.no_bounds p is; sum = sum_more _ _ _ _ sum; rest = more n _ h }

  pub for_parts : (n : ℕ) → known.ForAt chunk main E never step more n → (called : List ℕ) (first last : Node) (by : Option Node) (body : BlockNode) (line : ℕ) (frames : List Frame) (calls : ℕ) (state : State) (c : ℕ) →
      (outcome : Result (List LuaValue) Fault) (now : State) (cost total : ℕ) → AllEvaluate chunk calls state (bounds_parts first last by) (record { outcome = outcome; state = now }) cost → total ≡ (c + 1) + cost →
      E n (parts_by (Loops called body line) [] outcome frames calls now total) → StatementCame (suc n) frames calls state c (t.For called first last by body line)
  for_parts n f called first last by body line frames calls state c (Ok values) now cost total p sum h =
      bounds_at n f called first last by body line frames calls state c values now cost total p sum (bounds_of line values) refl h
  for_parts n f called first last by body line frames calls state c (Err why) now cost total p sum h =
      record { given = stops why now; cost = cost + 1; total = total; derived = y.bounds_fail p; sum = sum_more _ _ _ _ sum; rest = more n _ h }

  pub statement_by : (n : ℕ) → known.ExpressionAt chunk main E never step more n → known.StatementAt chunk main E never step more n → known.WhileAt chunk main E never step more n → known.RepeatAt chunk main E never step more n → known.ForAt chunk main E never step more n → (node : StatementNode) (frames : List Frame) (calls : ℕ) (state : State) (c : ℕ) →
      E n (turn chunk main (record { control = Execute node; frames = frames; calls = calls; state = state; cost = c })) → StatementCame (suc n) frames calls state c node
  statement_by n x s w r f (t.Local called (Some of)) frames calls state c h =
      of_value n x (t.Local called (Some of)) of (Declares called) (λ given now. goes (declared called given now)) (λ v s f m k. refl) frames calls state c (λ d k p. y.local_with p) h
  statement_by n x s w r f (t.Local called None) frames calls state c h = record { given = goes (declared called Nil state); cost = 1; total = c + 1; derived = y.local_without; sum = refl; rest = more n _ h }
  statement_by n x s w r f (t.Assign called of) frames calls state c h =
      of_value n x (t.Assign called of) of (Assigns called) (λ given now. goes (assigned called given now)) (λ v s f m k. refl) frames calls state c (λ d k p. y.assign p) h
  statement_by n x s w r f (t.SetIndex table key of line) frames calls state c h =
      put_parts n x (t.SetIndex table key of line) (table and key and of and none) (Puts line) (put line) (λ v s f m k. refl) frames calls state c (λ d k p. y.set_index p) h
  statement_by n x s w r f (t.SetMember table called of line) frames calls state c h =
      put_parts n x (t.SetMember table called of line) (table and of and none) (PutsMember called line) (put_member line called) (λ v s f m k. refl) frames calls state c (λ d k p. y.set_member p) h
  statement_by n x s w r f (t.CallAlone of) frames calls state c h =
      of_value n x (t.CallAlone of) of Drops (λ given now. goes now) (λ v s f m k. refl) frames calls state c (λ d k p. y.call_alone p) h
  statement_by n x s w r f (t.If arms) frames calls state c h =
      let p = known.arms_at chunk main E never step more n x s arms frames calls state (c + 1) h in
      record { given = p.given; cost = p.cost + 1; total = p.total; derived = y.conditional p.derived; sum = sum_more _ _ _ _ p.sum; rest = more n _ p.rest }
  statement_by n x s w r f (t.While test body) frames calls state c h =
      let p = w test body frames calls state (c + 1) h in
      record { given = p.given; cost = p.cost + 1; total = p.total; derived = y.while_loop p.derived; sum = sum_more _ _ _ _ p.sum; rest = more n _ p.rest }
  statement_by n x s w r f (t.Repeat body test) frames calls state c h =
      let p = r body test frames calls state (c + 1) h in
      record { given = p.given; cost = p.cost + 1; total = p.total; derived = y.repeat_loop p.derived; sum = sum_more _ _ _ _ p.sum; rest = more n _ p.rest }
  statement_by n x s w r f (t.For called first last by body line) frames calls state c h =
      let p = known.parts_at chunk main E never step more n x (bounds_parts first last by) (Loops called body line) [] frames calls state (c + 1) h in
      for_parts n f called first last by body line frames calls state c p.given.outcome p.given.state p.cost p.total p.derived p.sum p.rest
  statement_by n x s w r f (t.Do body) frames calls state c h =
      let q = known.block_at chunk main E never step more n s body (Inner (length state.locals) ∷ frames) calls state (c + 1) h in
      record {
        given = record q.given { state = left_block state q.given.state };
        cost = q.cost + 1;
        total = q.total;
        derived = y.do_block q.derived;
        sum = sum_more _ _ _ _ q.sum;
        rest = more n _ (known.block_left chunk main E never step more n q.given.way q.given.state (length state.locals) frames calls q.total q.rest);
      }
  statement_by n x s w r f t.Break frames calls state c h = record { given = record { way = Breaks; state = state }; cost = 1; total = c + 1; derived = y.break_out; sum = refl; rest = more n _ h }
  statement_by n x s w r f (t.Return (Some of)) frames calls state c h =
      of_value n x (t.Return (Some of)) of ReturnsIt (λ given now. record { way = Returns given; state = now }) (λ v s f m k. refl) frames calls state c (λ d k p. y.return_with p) h
  statement_by n x s w r f (t.Return None) frames calls state c h = record { given = record { way = Returns Nil; state = state }; cost = 1; total = c + 1; derived = y.return_without; sum = refl; rest = more n _ h }
