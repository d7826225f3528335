-- What turns come to is what a node comes to: turns that end, from a node with any frames behind it, have its value or its way out at the innermost of them.
use Rattle.std.proofs.Common.{◌≡◌, ℕ, zero, suc, ◌+◌, Bool, true, false, List, ◌∷◌, length, refl, Ok, Err, Result}
use Rattle.lua_machine.specs.Tree as t
use Rattle.lua_machine.specs.Tree.{Node, Nodes, none, ◌and◌, EntryNodes, StatementNode, BlockNode, ◌andthen◌, ArmNodes, ItemNode}
use Rattle.lua_machine.specs.Value.{LuaValue, Number, Fault, is_true}
use Rattle.lua_machine.specs.State.{State, gives, declared, left_block}
use Rattle.lua_machine.specs.Functions.{Function}
use Rattle.lua_machine.specs.Yields.{Evaluates, AllEvaluate, Fills, Executes, Runs, Chooses, While, Repeats, Turns, Gone, Way, Goes, Breaks, Returns, Fails, Bounds, goes, stops, out_of_loop, returned, answered, after, after_parts, indexed, with_member, unary_result, binary_result, floor_result, done_with, done_parts, put, put_member, bounds_of, bounds_parts, comes, next_turn, IsQuotient, most_calls}
use Rattle.lua_machine.specs.Yields as y
use Rattle.lua_machine.specs.Machine.{Frame, WhileTest, RepeatTest, WhileBody, RepeatBody, ForBody, Machine, Turned, Next}
use Rattle.lua_machine.specs.Turn.{back_by, left, way_of, running, turning_if, while_if, until_if, turn}
use Rattle.lua_machine.proofs.FoundParts.{Came, isnt_under, sum_body, sum_more, sum_none, sum_test, sum_turn, sum_two, sum_two_more, under_is}
use Rattle.lua_machine.proofs.FoundParts as known
use Rattle.lua_machine.proofs.FoundExpressions as expressions
use Rattle.lua_machine.proofs.FoundStatements as statements

-- turns that end within so many, where none of what is still to be turned has ended
module _ (chunk : List ItemNode) (main : Function) (E : ℕ → Turned → Type 0)
    (never : (m : Machine) → E zero (Next m) → ⊥) (step : (n : ℕ) (m : Machine) → E (suc n) (Next m) → E n (turn chunk main m)) (more : (n : ℕ) (from : Turned) → E n from → E (suc n) from) where
  -- ---- turns of loops, a turn of the machine further

  abbrev WhileCame : ℕ → List Frame → ℕ → State → ℕ → Node → BlockNode → Type 0
  WhileCame n frames calls state c test body = Came (λ (gone : Gone) cost. While chunk calls state test body gone cost) (λ gone total. E n (left gone frames calls total)) c

  while_way : (n : ℕ) → known.WhileAt chunk main E never step more n → (test : Node) (body : BlockNode) (frames : List Frame) (calls : ℕ) (state : State) (c : ℕ) →
      (value : LuaValue) (now : State) (cost middle : ℕ) → Evaluates chunk calls state test (gives value now) cost → middle ≡ c + cost → is_true value ≡ true →
      (way : Way) (last : State) (further total : ℕ) → Runs chunk calls now body (record { way = way; state = last }) further → total ≡ (middle + 1) + further →
      E n (back_by way last (WhileBody (length now.locals) test body ∷ frames) calls total) → WhileCame (suc n) frames calls state c test body
  while_way n w test body frames calls state c value now cost middle p sum is Goes last further total q after_body h =
      let r = w test body frames calls (left_block now last) total (known.resume_going chunk main E never step more n (WhileBody (length now.locals) test body) frames calls last total h) in
      record { given = r.given; cost = cost + further + r.cost + 1; total = r.total; derived = y.while_on p is q r.derived; sum = sum_turn _ _ _ _ _ _ _ sum after_body r.sum; rest = more n _ r.rest }
  while_way n w test body frames calls state c value now cost middle p sum is Breaks last further total q after_body h =
      record {
        given = record { way = Goes; state = left_block now last };
        cost = cost + further + 1;
        total = total;
        derived = y.while_left p is q refl;
        sum = sum_test _ _ _ _ _ sum after_body;
        rest = more n _ (known.resume_breaking chunk main E never step more n (WhileBody (length now.locals) test body) frames calls last total h);
      }
  while_way n w test body frames calls state c value now cost middle p sum is (Returns given) last further total q after_body h =
      record {
        given = record { way = Returns given; state = left_block now last };
        cost = cost + further + 1;
        total = total;
        derived = y.while_left p is q refl;
        sum = sum_test _ _ _ _ _ sum after_body;
        rest = more n _ (known.resume chunk main E never step more n (WhileBody (length now.locals) test body) given frames calls last total h);
      }
  while_way n w test body frames calls state c value now cost middle p sum is (Fails why) last further total q after_body h =
      record { given = record { way = Fails why; state = left_block now last }; cost = cost + further + 1; total = total; derived = y.while_left p is q refl; sum = sum_test _ _ _ _ _ sum after_body; rest = more n _ h }

  while_holds : (n : ℕ) → known.StatementAt chunk main E never step more n → known.WhileAt chunk main E never step more n → (test : Node) (body : BlockNode) (frames : List Frame) (calls : ℕ) (state : State) (c : ℕ) →
      (value : LuaValue) (now : State) (cost total : ℕ) → Evaluates chunk calls state test (gives value now) cost → total ≡ c + cost →
      (b : Bool) → is_true value ≡ b → E n (while_if b test body frames calls now total) → WhileCame (suc n) frames calls state c test body
  while_holds n s w test body frames calls state c value now cost total p sum true is h =
      let q = known.block_at chunk main E never step more n s body (WhileBody (length now.locals) test body ∷ frames) calls now (total + 1) h in
      while_way n w test body frames calls state c value now cost total p sum is q.given.way q.given.state q.cost q.total q.derived q.sum q.rest
  while_holds n s w test body frames calls state c value now cost total p sum false is h =
      record { given = goes now; cost = cost; total = total; derived = y.while_ends p is; sum = sum; rest = more n _ h }

  while_next : (n : ℕ) → known.StatementAt chunk main E never step more n → known.WhileAt chunk main E never step more n → (test : Node) (body : BlockNode) (frames : List Frame) (calls : ℕ) (state : State) (c : ℕ) →
      (outcome : Result LuaValue Fault) (now : State) (cost total : ℕ) → Evaluates chunk calls state test (record { outcome = outcome; state = now }) cost → total ≡ c + cost →
      E (suc n) (back_by (way_of outcome) now (WhileTest test body ∷ frames) calls total) → WhileCame (suc n) frames calls state c test body
  while_next n s w test body frames calls state c (Ok value) now cost total p sum h = while_holds n s w test body frames calls state c value now cost total p sum (is_true value) refl (step n _ h)
  while_next n s w test body frames calls state c (Err why) now cost total p sum h = record { given = stops why now; cost = cost; total = total; derived = y.while_fails p; sum = sum; rest = h }

  while_by_turn : (n : ℕ) → known.ExpressionAt chunk main E never step more (suc n) → known.StatementAt chunk main E never step more n → known.WhileAt chunk main E never step more n → known.WhileAt chunk main E never step more (suc n)
  while_by_turn n x s w test body frames calls state c h =
      let p = x test (WhileTest test body ∷ frames) calls state c h in
      while_next n s w test body frames calls state c p.given.outcome p.given.state p.cost p.total p.derived p.sum p.rest

  abbrev RepeatCame : ℕ → List Frame → ℕ → State → ℕ → BlockNode → Node → Type 0
  RepeatCame n frames calls state c body test = Came (λ (gone : Gone) cost. Repeats chunk calls state body test gone cost) (λ gone total. E n (left gone frames calls total)) c

  until_at : (n : ℕ) → known.RepeatAt chunk main E never step more n → (body : BlockNode) (test : Node) (frames : List Frame) (calls : ℕ) (state : State) (c : ℕ) →
      (last : State) (cost middle : ℕ) → Runs chunk calls state body (goes last) cost → middle ≡ (c + 1) + cost →
      (value : LuaValue) (now : State) (further total : ℕ) → Evaluates chunk calls last test (gives value now) further → total ≡ middle + further →
      (b : Bool) → is_true value ≡ b → E n (until_if b (length state.locals) body test frames calls now total) → RepeatCame (suc n) frames calls state c body test
  until_at n r body test frames calls state c last cost middle p sum value now further total q after_test true is h =
      record { given = goes (left_block state now); cost = cost + further + 1; total = total; derived = y.repeat_ends p q is; sum = sum_two_more _ _ _ _ _ sum after_test; rest = more n _ h }
  until_at n r body test frames calls state c last cost middle p sum value now further total q after_test false is h =
      let g = r body test frames calls (left_block state now) total h in
      record { given = g.given; cost = cost + further + g.cost + 1; total = g.total; derived = y.repeat_on p q is g.derived; sum = sum_body _ _ _ _ _ _ _ sum after_test g.sum; rest = more n _ g.rest }

  until_next : (n : ℕ) → known.RepeatAt chunk main E never step more n → (body : BlockNode) (test : Node) (frames : List Frame) (calls : ℕ) (state : State) (c : ℕ) →
      (last : State) (cost middle : ℕ) → Runs chunk calls state body (goes last) cost → middle ≡ (c + 1) + cost →
      (outcome : Result LuaValue Fault) (now : State) (further total : ℕ) → Evaluates chunk calls last test (record { outcome = outcome; state = now }) further → total ≡ middle + further →
      E n (back_by (way_of outcome) now (RepeatTest (length state.locals) body test ∷ frames) calls total) → RepeatCame (suc n) frames calls state c body test
  until_next n r body test frames calls state c last cost middle p sum (Ok value) now further total q after_test h =
      until_at n r body test frames calls state c last cost middle p sum value now further total q after_test (is_true value) refl (known.resume chunk main E never step more n (RepeatTest (length state.locals) body test) value frames calls now total h)
  until_next n r body test frames calls state c last cost middle p sum (Err why) now further total q after_test h =
      record { given = stops why (left_block state now); cost = cost + further + 1; total = total; derived = y.repeat_fails p q; sum = sum_two_more _ _ _ _ _ sum after_test; rest = more n _ h }

  repeat_way : (n : ℕ) → known.ExpressionAt chunk main E never step more n → known.RepeatAt chunk main E never step more n → (body : BlockNode) (test : Node) (frames : List Frame) (calls : ℕ) (state : State) (c : ℕ) →
      (way : Way) (last : State) (cost total : ℕ) → Runs chunk calls state body (record { way = way; state = last }) cost → total ≡ (c + 1) + cost →
      E (suc n) (back_by way last (RepeatBody (length state.locals) body test ∷ frames) calls total) → RepeatCame (suc n) frames calls state c body test
  repeat_way n x r body test frames calls state c Goes last cost total p sum h =
      let q = x test (RepeatTest (length state.locals) body test ∷ frames) calls last total (step n _ h) in
      until_next n r body test frames calls state c last cost total p sum q.given.outcome q.given.state q.cost q.total q.derived q.sum q.rest
  repeat_way n x r body test frames calls state c Breaks last cost total p sum h =
      record {
        given = record { way = Goes; state = left_block state last };
        cost = cost + 1;
        total = total;
        derived = y.repeat_left p refl;
        sum = sum_more _ _ _ _ sum;
        rest = known.resume_breaking chunk main E never step more (suc n) (RepeatBody (length state.locals) body test) frames calls last total h;
      }
  repeat_way n x r body test frames calls state c (Returns value) last cost total p sum h =
      record {
        given = record { way = Returns value; state = left_block state last };
        cost = cost + 1;
        total = total;
        derived = y.repeat_left p refl;
        sum = sum_more _ _ _ _ sum;
        rest = known.resume chunk main E never step more (suc n) (RepeatBody (length state.locals) body test) value frames calls last total h;
      }
  repeat_way n x r body test frames calls state c (Fails why) last cost total p sum h =
      record { given = record { way = Fails why; state = left_block state last }; cost = cost + 1; total = total; derived = y.repeat_left p refl; sum = sum_more _ _ _ _ sum; rest = h }

  repeat_by_turn : (n : ℕ) → known.ExpressionAt chunk main E never step more n → known.StatementAt chunk main E never step more (suc n) → known.RepeatAt chunk main E never step more n → known.RepeatAt chunk main E never step more (suc n)
  repeat_by_turn n x s r body test frames calls state c h =
      let p = known.block_at chunk main E never step more (suc n) s body (RepeatBody (length state.locals) body test ∷ frames) calls state (c + 1) h in
      repeat_way n x r body test frames calls state c p.given.way p.given.state p.cost p.total p.derived p.sum p.rest

  abbrev ForCame : ℕ → List Frame → ℕ → State → ℕ → List ℕ → Bounds → BlockNode → Type 0
  ForCame n frames calls state c called bounds body = Came (λ (gone : Gone) cost. Turns chunk calls state called bounds body gone cost) (λ gone total. E n (left gone frames calls total)) c

  for_way : (n : ℕ) → known.ForAt chunk main E never step more n → (called : List ℕ) (bounds : Bounds) (body : BlockNode) (frames : List Frame) (calls : ℕ) (state : State) (c : ℕ) → comes bounds ≡ true →
      (way : Way) (last : State) (cost total : ℕ) → Runs chunk calls (declared called (Number bounds.first) state) body (record { way = way; state = last }) cost → total ≡ (c + 1) + cost →
      E (suc n) (back_by way last (ForBody (length state.locals) called bounds body ∷ frames) calls total) → ForCame (suc n) frames calls state c called bounds body
  for_way n f called bounds body frames calls state c is Goes last cost total p sum h =
      let g = f called (next_turn bounds) body frames calls (left_block state last) total (step n _ h) in
      record { given = g.given; cost = cost + g.cost + 1; total = g.total; derived = y.turn_on is p g.derived; sum = sum_two_more _ _ _ _ _ sum g.sum; rest = more n _ g.rest }
  for_way n f called bounds body frames calls state c is Breaks last cost total p sum h =
      record {
        given = record { way = Goes; state = left_block state last };
        cost = cost + 1;
        total = total;
        derived = y.turn_left is p refl;
        sum = sum_more _ _ _ _ sum;
        rest = known.resume_breaking chunk main E never step more (suc n) (ForBody (length state.locals) called bounds body) frames calls last total h;
      }
  for_way n f called bounds body frames calls state c is (Returns value) last cost total p sum h =
      record {
        given = record { way = Returns value; state = left_block state last };
        cost = cost + 1;
        total = total;
        derived = y.turn_left is p refl;
        sum = sum_more _ _ _ _ sum;
        rest = known.resume chunk main E never step more (suc n) (ForBody (length state.locals) called bounds body) value frames calls last total h;
      }
  for_way n f called bounds body frames calls state c is (Fails why) last cost total p sum h =
      record { given = record { way = Fails why; state = left_block state last }; cost = cost + 1; total = total; derived = y.turn_left is p refl; sum = sum_more _ _ _ _ sum; rest = h }

  for_comes : (n : ℕ) → known.StatementAt chunk main E never step more (suc n) → known.ForAt chunk main E never step more n → (called : List ℕ) (bounds : Bounds) (body : BlockNode) (frames : List Frame) (calls : ℕ) (state : State) (c : ℕ) →
      (b : Bool) → comes bounds ≡ b → E (suc n) (turning_if b called bounds body frames calls state c) → ForCame (suc n) frames calls state c called bounds body
  for_comes n s f called bounds body frames calls state c true is h =
      let p = known.block_at chunk main E never step more (suc n) s body (ForBody (length state.locals) called bounds body ∷ frames) calls (declared called (Number bounds.first) state) (c + 1) h in
      for_way n f called bounds body frames calls state c is p.given.way p.given.state p.cost p.total p.derived p.sum p.rest
  for_comes n s f called bounds body frames calls state c false is h = record { given = goes state; cost = 0; total = c; derived = y.past is; sum = sum_none c; rest = h }

  for_by_turn : (n : ℕ) → known.StatementAt chunk main E never step more (suc n) → known.ForAt chunk main E never step more n → known.ForAt chunk main E never step more (suc n)
  for_by_turn n s f called bounds body frames calls state c h = for_comes n s f called bounds body frames calls state c (comes bounds) refl h

  -- ---- all of it, for so many turns

  -- without a turn nothing has ended that is still to be turned
  running_never : (body : BlockNode) (frames : List Frame) (calls : ℕ) (state : State) (c : ℕ) → E zero (running body frames calls state c) → ⊥
  running_never t.finished frames calls state c h = never _ h
  running_never (first andthen others) frames calls state c h = never _ h

  for_at_start : (called : List ℕ) (bounds : Bounds) (body : BlockNode) (frames : List Frame) (calls : ℕ) (state : State) (c : ℕ) →
      (b : Bool) → comes bounds ≡ b → E zero (turning_if b called bounds body frames calls state c) → ForCame zero frames calls state c called bounds body
  for_at_start called bounds body frames calls state c true is h = absurd (running_never _ _ _ _ _ h)
  for_at_start called bounds body frames calls state c false is h = absurd (never _ h)

  pub record Found (n : ℕ) : Type 0 where
    pub expression : known.ExpressionAt chunk main E never step more n
    pub statement : known.StatementAt chunk main E never step more n
    pub while_turn : known.WhileAt chunk main E never step more n
    pub repeat_turn : known.RepeatAt chunk main E never step more n
    pub for_turn : known.ForAt chunk main E never step more n

  found_at_start : Found zero
  found_at_start = record {
    expression = λ node frames calls state c h. absurd (never _ h);
    statement = λ node frames calls state c h. absurd (never _ h);
    while_turn = λ test body frames calls state c h. absurd (never _ h);
    repeat_turn = λ body test frames calls state c h. absurd (running_never _ _ _ _ _ h);
    for_turn = λ called bounds body frames calls state c h. for_at_start called bounds body frames calls state c (comes bounds) refl h;
  }

  found_further : (n : ℕ) → Found n → Found (suc n)
  found_further n f =
      let expression : known.ExpressionAt chunk main E never step more (suc n) = λ node frames calls state c h. expressions.expression_by chunk main E never step more n f.expression f.statement node frames calls state c (step n _ h) in
      let statement : known.StatementAt chunk main E never step more (suc n) = λ node frames calls state c h. statements.statement_by chunk main E never step more n f.expression f.statement f.while_turn f.repeat_turn f.for_turn node frames calls state c (step n _ h) in
      record {
        expression = expression;
        statement = statement;
        while_turn = while_by_turn n expression f.statement f.while_turn;
        repeat_turn = repeat_by_turn n f.expression statement f.repeat_turn;
        for_turn = for_by_turn n statement f.for_turn;
      }

  pub found : (n : ℕ) → Found n
  found zero = found_at_start
  found (suc n) = found_further n (found n)

  -- a block and a statement, of the turns that are left
  pub block_found : (n : ℕ) (body : BlockNode) (frames : List Frame) (calls : ℕ) (state : State) (c : ℕ) → E n (running body frames calls state c) → known.BlockCame chunk main E never step more n frames calls state c body
  block_found n body frames calls state c h = known.block_at chunk main E never step more n (found n).statement body frames calls state c h
