-- What turns come to is what a node comes to: parts, entries, blocks and arms, with what is known of the nodes in them.
use Rattle.std.proofs.Common.{◌≡◌, ℕ, zero, suc, ◌+◌, Bool, true, false, List, [], ◌∷◌, ◌++◌, length, refl, ap, ◌∙◌, sym, subst, pos, Ok, Err, Result, arith, append-nil, append_assoc}
use Rattle.std.specs.Prelude.{Option, Some, None}
use Rattle.lua_tree.specs.declared.tree.BinaryOp.TheVariants as op_of
use Rattle.lua_machine.specs.Tree as t
use Rattle.lua_machine.specs.Tree.{Node, Nodes, none, ◌and◌, EntryNodes, StatementNode, BlockNode, ◌andthen◌, ArmNodes, ItemNode}
use Rattle.lua_machine.specs.Value.{LuaValue, Number, Text, Table, Fault, TypeFault, is_true, is_key}
use Rattle.lua_machine.specs.Tables.{stored}
use Rattle.lua_machine.specs.State.{State, Done, Variables, gives, fails, left_block}
use Rattle.lua_machine.specs.Library.{MathFunction, Random, Floor, Abs, Min, Max}
use Rattle.lua_machine.specs.Functions.{Function}
use Rattle.lua_machine.specs.Yields.{Evaluates, AllEvaluate, Fills, Executes, Runs, Chooses, While, Repeats, Turns, Gone, Way, Goes, Breaks, Returns, Fails, Bounds, goes, stops, out_of_loop, returned, answered, after, after_parts, indexed, with_member, unary_result, binary_result, floor_result, done_with, done_parts, put, put_member, bounds_of, bounds_parts, comes, next_turn, IsQuotient, most_calls}
use Rattle.lua_machine.specs.Yields as y
use Rattle.lua_machine.specs.Machine.{Making, Stores, Frame, Part, NextEntry, NamedEntry, ArmTest, WhileTest, Others, Inner, Caller, Execute, Machine, Turned, Next}
use Rattle.lua_machine.specs.Turn.{back_by, left, way_of, back, evaluating, running, cut_to, choosing, repeating, turning, filling, keyed_if, made, begun, Quotient, quotient_of, under_floor, arm_if, resumed, turn}
use Rattle.lua_machine.proofs.Reached.{parts_by, Sorted, whole, other, sorted}

-- ---- sums of units

pub sum_more : (total c k extra : ℕ) → total ≡ (c + extra) + k → total ≡ c + (k + extra)
sum_more total c k extra e = omega arith

pub sum_two : (total middle c k m : ℕ) → middle ≡ c + k → total ≡ middle + m → total ≡ c + (k + m)
sum_two total middle c k m e f = omega arith

pub sum_two_more : (total middle c k m : ℕ) → middle ≡ (c + 1) + k → total ≡ middle + m → total ≡ c + (k + m + 1)
sum_two_more total middle c k m e f = omega arith

pub sum_test : (total middle c k m : ℕ) → middle ≡ c + k → total ≡ (middle + 1) + m → total ≡ c + (k + m + 1)
sum_test total middle c k m e f = omega arith

pub sum_turn : (total last middle c k m r : ℕ) → middle ≡ c + k → last ≡ (middle + 1) + m → total ≡ last + r → total ≡ c + (k + m + r + 1)
sum_turn total last middle c k m r e f g = omega arith

pub sum_body : (total last middle c k m r : ℕ) → middle ≡ (c + 1) + k → last ≡ middle + m → total ≡ last + r → total ≡ c + (k + m + r + 1)
sum_body total last middle c k m r e f g = omega arith

pub sum_none : (c : ℕ) → c ≡ c + 0
sum_none c = omega arith

-- ---- arguments that are a quotient

pub none_some : {T : Type 0} (value : T) → None ≡ Some value → ⊥
none_some value same = cc

abbrev pub quotient_or : Quotient → Option Quotient → Quotient
quotient_or first (Some second) = second
quotient_or first None = first

pub the_same : (first second : Quotient) → Some first ≡ Some second → first ≡ second
the_same first second same = ap (quotient_or first) same

pub quotient_is : (args : Nodes) (q : Quotient) → Sorted args → quotient_of args ≡ Some q → args ≡ (t.Binary op_of.Over q.left q.right q.line and none)
quotient_is args q (whole (west, east, line, is)) same =
    is ∙ ap (λ (r : Quotient). t.Binary op_of.Over r.left r.right r.line and none) (the_same (record { left = west; right = east; line = line }) q (sym (ap quotient_of is) ∙ same))
quotient_is args q (other not) same = absurd (none_some q (sym not ∙ same))

pub under_is : (function : MathFunction) (args : Nodes) (q : Quotient) → under_floor function args ≡ Some q → (function ≡ Floor) × (args ≡ (t.Binary op_of.Over q.left q.right q.line and none))
under_is Floor args q same = (refl, quotient_is args q (sorted args) same)
under_is Random args q same = absurd (none_some q same)
under_is Abs args q same = absurd (none_some q same)
under_is Min args q same = absurd (none_some q same)
under_is Max args q same = absurd (none_some q same)

-- ---- as many values as parts

abbrev pub count_of : Nodes → ℕ
count_of none = 0
count_of (first and others) = suc (count_of others)

abbrev pub AsMany : ℕ → Result (List LuaValue) Fault → Type 0
AsMany count (Ok values) = length values ≡ count
AsMany count (Err why) = Unit {0}

pub one_as_many : (count : ℕ) (value : LuaValue) (outcome : Result (List LuaValue) Fault) (state : State) → AsMany count outcome → AsMany (suc count) (after_parts outcome state (λ values last. gives (value ∷ values) last)).outcome
one_as_many count value (Ok values) state same = ap suc same
one_as_many count value (Err why) state same = tt

pub as_many : {chunk : List ItemNode} {calls cost : ℕ} {state : State} {nodes : Nodes} {done : Done (List LuaValue)} → AllEvaluate chunk calls state nodes done cost → AsMany (count_of nodes) done.outcome
as_many y.all = refl
as_many (y.fault p) = tt
as_many (y.onward {others = others} {value = value} {rest = rest} p q) = one_as_many (count_of others) value rest.outcome rest.state (as_many q)

pub isnt_under : (function : MathFunction) (args : Nodes) → under_floor function args ≡ None → ¬ ((function ≡ Floor) × IsQuotient args)
isnt_under function args none_there is = none_some _ (sym none_there ∙ ap (λ f. under_floor f args) is.0 ∙ ap (under_floor Floor) is.1.3)

-- what was derived at which cost, and what is left of the turns behind it, at so many units in all
pub record Came {T : Type 0} (Derived : T → ℕ → Type 0) (Left : T → ℕ → Type 0) (c : ℕ) : Type 0 where
  pub given : T
  pub cost : ℕ
  pub total : ℕ
  pub derived : Derived given cost
  pub sum : total ≡ c + cost
  pub rest : Left given total

-- turns that end within so many, where none of what is still to be turned has ended
module _ (chunk : List ItemNode) (main : Function) (E : ℕ → Turned → Type 0)
    (never : (m : Machine) → E zero (Next m) → ⊥) (step : (n : ℕ) (m : Machine) → E (suc n) (Next m) → E n (turn chunk main m)) (more : (n : ℕ) (from : Turned) → E n from → E (suc n) from) where
  abbrev pub ExpressionAt : ℕ → Type 0
  ExpressionAt n = (node : Node) (frames : List Frame) (calls : ℕ) (state : State) (c : ℕ) → E n (evaluating node frames calls state c) →
      Came (λ (done : Done LuaValue) cost. Evaluates chunk calls state node done cost) (λ done total. E n (back done frames calls total)) c

  abbrev pub StatementAt : ℕ → Type 0
  StatementAt n = (node : StatementNode) (frames : List Frame) (calls : ℕ) (state : State) (c : ℕ) → E n (Next (record { control = Execute node; frames = frames; calls = calls; state = state; cost = c })) →
      Came (λ (gone : Gone) cost. Executes chunk calls state node gone cost) (λ gone total. E n (left gone frames calls total)) c

  abbrev pub WhileAt : ℕ → Type 0
  WhileAt n = (test : Node) (body : BlockNode) (frames : List Frame) (calls : ℕ) (state : State) (c : ℕ) → E n (evaluating test (WhileTest test body ∷ frames) calls state c) →
      Came (λ (gone : Gone) cost. While chunk calls state test body gone cost) (λ gone total. E n (left gone frames calls total)) c

  abbrev pub RepeatAt : ℕ → Type 0
  RepeatAt n = (body : BlockNode) (test : Node) (frames : List Frame) (calls : ℕ) (state : State) (c : ℕ) → E n (repeating body test frames calls state c) →
      Came (λ (gone : Gone) cost. Repeats chunk calls state body test gone cost) (λ gone total. E n (left gone frames calls total)) c

  abbrev pub ForAt : ℕ → Type 0
  ForAt n = (called : List ℕ) (bounds : Bounds) (body : BlockNode) (frames : List Frame) (calls : ℕ) (state : State) (c : ℕ) → E n (turning called bounds body frames calls state c) →
      Came (λ (gone : Gone) cost. Turns chunk calls state called bounds body gone cost) (λ gone total. E n (left gone frames calls total)) c

  -- ---- back at a frame

  pub resume : (n : ℕ) (frame : Frame) (value : LuaValue) (frames : List Frame) (calls : ℕ) (state : State) (cost : ℕ) →
      E n (back_by (Returns value) state (frame ∷ frames) calls cost) → E n (resumed main frame (Returns value) frames calls state cost)
  resume zero frame value frames calls state cost h = absurd (never _ h)
  resume (suc n) frame value frames calls state cost h = more n _ (step n _ h)

  pub resume_going : (n : ℕ) (frame : Frame) (frames : List Frame) (calls : ℕ) (state : State) (cost : ℕ) →
      E n (back_by Goes state (frame ∷ frames) calls cost) → E n (resumed main frame Goes frames calls state cost)
  resume_going zero frame frames calls state cost h = absurd (never _ h)
  resume_going (suc n) frame frames calls state cost h = more n _ (step n _ h)

  pub resume_breaking : (n : ℕ) (frame : Frame) (frames : List Frame) (calls : ℕ) (state : State) (cost : ℕ) →
      E n (back_by Breaks state (frame ∷ frames) calls cost) → E n (resumed main frame Breaks frames calls state cost)
  resume_breaking zero frame frames calls state cost h = absurd (never _ h)
  resume_breaking (suc n) frame frames calls state cost h = more n _ (step n _ h)

  -- ---- what is made of parts

  pub made_as : (n : ℕ) (making : Making) (make : List LuaValue → State → Done LuaValue) →
      ((values : List LuaValue) (state : State) (frames : List Frame) (calls cost : ℕ) → made making values frames calls state cost ≡ back (make values state) frames calls cost) →
      (outcome : Result (List LuaValue) Fault) (state : State) (frames : List Frame) (calls cost : ℕ) →
      E n (parts_by making [] outcome frames calls state cost) → E n (back (after_parts outcome state make) frames calls cost)
  made_as n making make same (Ok values) state frames calls cost k = subst (E n) (same values state frames calls cost) k
  made_as n making make same (Err why) state frames calls cost k = k

  pub left_as : (n : ℕ) (making : Making) (make : List LuaValue → State → Gone) →
      ((values : List LuaValue) (state : State) (frames : List Frame) (calls cost : ℕ) → made making values frames calls state cost ≡ left (make values state) frames calls cost) →
      (outcome : Result (List LuaValue) Fault) (state : State) (frames : List Frame) (calls cost : ℕ) →
      E n (parts_by making [] outcome frames calls state cost) → E n (left (done_parts outcome state make) frames calls cost)
  left_as n making make same (Ok values) state frames calls cost k = subst (E n) (same values state frames calls cost) k
  left_as n making make same (Err why) state frames calls cost k = k

  pub further_as : (n : ℕ) (making : Making) (before : List LuaValue) (value : LuaValue) (outcome : Result (List LuaValue) Fault) (state : State) (frames : List Frame) (calls cost : ℕ) →
      E n (parts_by making (before ++ value ∷ []) outcome frames calls state cost) →
      E n (parts_by making before (after_parts outcome state (λ values last. gives (value ∷ values) last)).outcome frames calls (after_parts outcome state (λ values last. gives (value ∷ values) last)).state cost)
  further_as n making before value (Ok values) state frames calls cost k = subst (λ vs. E n (made making vs frames calls state cost)) (append_assoc before (value ∷ []) values) k
  further_as n making before value (Err why) state frames calls cost k = k

  pub value_as : (n : ℕ) (frame : Frame) (make : LuaValue → State → Gone) →
      ((value : LuaValue) (state : State) (frames : List Frame) (calls cost : ℕ) → resumed main frame (Returns value) frames calls state cost ≡ left (make value state) frames calls cost) →
      (outcome : Result LuaValue Fault) (state : State) (frames : List Frame) (calls cost : ℕ) →
      E n (back_by (way_of outcome) state (frame ∷ frames) calls cost) → E n (left (done_parts outcome state make) frames calls cost)
  value_as n frame make same (Ok value) state frames calls cost k = subst (E n) (same value state frames calls cost) (resume n frame value frames calls state cost k)
  value_as n frame make same (Err why) state frames calls cost k = k

  -- ---- ways out

  pub call_left : (n : ℕ) (way : Way) (state : State) (locals : Variables) (frames : List Frame) (calls inner cost : ℕ) →
      E n (back_by way state (Caller locals calls ∷ frames) inner cost) → E n (back (returned way (record state { locals = locals })) frames calls cost)
  call_left n Goes state locals frames calls inner cost k = resume_going n (Caller locals calls) frames inner state cost k
  call_left n Breaks state locals frames calls inner cost k = resume_breaking n (Caller locals calls) frames inner state cost k
  call_left n (Returns value) state locals frames calls inner cost k = resume n (Caller locals calls) value frames inner state cost k
  call_left n (Fails why) state locals frames calls inner cost k = k

  pub block_left : (n : ℕ) (way : Way) (state : State) (outer : ℕ) (frames : List Frame) (calls cost : ℕ) →
      E n (back_by way state (Inner outer ∷ frames) calls cost) → E n (back_by way (cut_to outer state) frames calls cost)
  block_left n Goes state outer frames calls cost k = resume_going n (Inner outer) frames calls state cost k
  block_left n Breaks state outer frames calls cost k = resume_breaking n (Inner outer) frames calls state cost k
  block_left n (Returns value) state outer frames calls cost k = resume n (Inner outer) value frames calls state cost k
  block_left n (Fails why) state outer frames calls cost k = k

  -- ---- parts and entries, with what is known of their nodes

  abbrev pub PartsCame : ℕ → Making → List LuaValue → List Frame → ℕ → State → ℕ → Nodes → Type 0
  PartsCame n making before frames calls state c nodes =
      Came (λ (done : Done (List LuaValue)) cost. AllEvaluate chunk calls state nodes done cost) (λ done total. E n (parts_by making before done.outcome frames calls done.state total)) c

  pub parts_next : (n : ℕ) (first : Node) (others : Nodes) (making : Making) (before : List LuaValue) (frames : List Frame) (calls : ℕ) (state : State) (c : ℕ) →
      ((before : List LuaValue) (state : State) (c : ℕ) → E n (begun making before others frames calls state c) → PartsCame n making before frames calls state c others) →
      (outcome : Result LuaValue Fault) (now : State) (cost total : ℕ) → Evaluates chunk calls state first (record { outcome = outcome; state = now }) cost → total ≡ c + cost →
      E n (back_by (way_of outcome) now (Part making before others ∷ frames) calls total) → PartsCame n making before frames calls state c (first and others)
  parts_next n first others making before frames calls state c go (Err why) now cost total p sum h =
      record { given = fails why now; cost = cost; total = total; derived = y.fault p; sum = sum; rest = h }
  parts_next n first others making before frames calls state c go (Ok value) now cost total p sum h =
      let q = go (before ++ value ∷ []) now total (resume n (Part making before others) value frames calls now total h) in
      record {
        given = after q.given (λ values last. gives (value ∷ values) last);
        cost = cost + q.cost;
        total = q.total;
        derived = y.onward p q.derived;
        sum = sum_two _ _ _ _ _ sum q.sum;
        rest = further_as n making before value q.given.outcome q.given.state frames calls q.total q.rest;
      }

  pub parts_at : (n : ℕ) → ExpressionAt n → (nodes : Nodes) (making : Making) (before : List LuaValue) (frames : List Frame) (calls : ℕ) (state : State) (c : ℕ) →
      E n (begun making before nodes frames calls state c) → PartsCame n making before frames calls state c nodes
  parts_at n x none making before frames calls state c h =
      record { given = gives [] state; cost = 0; total = c; derived = y.all; sum = sum_none c; rest = subst (λ vs. E n (made making vs frames calls state c)) (sym (append-nil before)) h }
  parts_at n x (first and others) making before frames calls state c h =
      let p = x first (Part making before others ∷ frames) calls state c h in
      parts_next n first others making before frames calls state c (λ before state c. parts_at n x others making before frames calls state c) p.given.outcome p.given.state p.cost p.total p.derived p.sum p.rest

  abbrev pub EntriesCame : ℕ → ℕ → ℕ → List Frame → ℕ → State → ℕ → EntryNodes → Type 0
  EntriesCame n at next frames calls state c entries = Came (λ (done : Done LuaValue) cost. Fills chunk calls state at next entries done cost) (λ done total. E n (back done frames calls total)) c

  abbrev pub EntriesGo : ℕ → ℕ → List Frame → ℕ → EntryNodes → Type 0
  EntriesGo n at frames calls others = (next : ℕ) (state : State) (c : ℕ) → E n (filling at next others frames calls state c) → EntriesCame n at next frames calls state c others

  pub value_next : (n at next : ℕ) (of : Node) (others : EntryNodes) (frames : List Frame) (calls : ℕ) (state : State) (c : ℕ) → EntriesGo n at frames calls others →
      (outcome : Result LuaValue Fault) (now : State) (cost total : ℕ) → Evaluates chunk calls state of (record { outcome = outcome; state = now }) cost → total ≡ c + cost →
      E n (back_by (way_of outcome) now (NextEntry at next others ∷ frames) calls total) → EntriesCame n at next frames calls state c (t.entry (t.Value of) others)
  value_next n at next of others frames calls state c go (Err why) now cost total p sum h =
      record { given = fails why now; cost = cost; total = total; derived = y.value_fails p; sum = sum; rest = h }
  value_next n at next of others frames calls state c go (Ok value) now cost total p sum h =
      let q = go (next + 1) (record now { tables = stored now.tables at (Number (pos next)) value }) total (resume n (NextEntry at next others) value frames calls now total h) in
      record { given = q.given; cost = cost + q.cost; total = q.total; derived = y.value p q.derived; sum = sum_two _ _ _ _ _ sum q.sum; rest = q.rest }

  pub named_next : (n at next : ℕ) (called : List ℕ) (of : Node) (others : EntryNodes) (frames : List Frame) (calls : ℕ) (state : State) (c : ℕ) → EntriesGo n at frames calls others →
      (outcome : Result LuaValue Fault) (now : State) (cost total : ℕ) → Evaluates chunk calls state of (record { outcome = outcome; state = now }) cost → total ≡ c + cost →
      E n (back_by (way_of outcome) now (NamedEntry at next called others ∷ frames) calls total) → EntriesCame n at next frames calls state c (t.entry (t.Named called of) others)
  named_next n at next called of others frames calls state c go (Err why) now cost total p sum h =
      record { given = fails why now; cost = cost; total = total; derived = y.named_fails p; sum = sum; rest = h }
  named_next n at next called of others frames calls state c go (Ok value) now cost total p sum h =
      let q = go next (record now { tables = stored now.tables at (Text called) value }) total (resume n (NamedEntry at next called others) value frames calls now total h) in
      record { given = q.given; cost = cost + q.cost; total = q.total; derived = y.named p q.derived; sum = sum_two _ _ _ _ _ sum q.sum; rest = q.rest }

  pub keyed_next : (n at next : ℕ) (key of : Node) (line : ℕ) (others : EntryNodes) (frames : List Frame) (calls : ℕ) (state : State) (c : ℕ) → EntriesGo n at frames calls others →
      (where_to given : LuaValue) (now : State) (cost total : ℕ) → AllEvaluate chunk calls state (key and of and none) (gives (where_to ∷ given ∷ []) now) cost → total ≡ c + cost →
      (b : Bool) → is_key where_to ≡ b → E n (keyed_if b at next others line where_to given frames calls now total) → EntriesCame n at next frames calls state c (t.entry (t.Keyed key of line) others)
  keyed_next n at next key of line others frames calls state c go where_to given now cost total p sum true is h =
      let q = go next (record now { tables = stored now.tables at where_to given }) total h in
      record { given = q.given; cost = cost + q.cost; total = q.total; derived = y.keyed p is q.derived; sum = sum_two _ _ _ _ _ sum q.sum; rest = q.rest }
  keyed_next n at next key of line others frames calls state c go where_to given now cost total p sum false is h =
      record { given = fails (TypeFault line) now; cost = cost; total = total; derived = y.no_key p is; sum = sum; rest = h }

  pub keyed_values : (n at next : ℕ) (key of : Node) (line : ℕ) (others : EntryNodes) (frames : List Frame) (calls : ℕ) (state : State) (c : ℕ) → EntriesGo n at frames calls others →
      (values : List LuaValue) (now : State) (cost total : ℕ) → length values ≡ 2 → AllEvaluate chunk calls state (key and of and none) (gives values now) cost → total ≡ c + cost →
      E n (made (Stores at next others line) values frames calls now total) → EntriesCame n at next frames calls state c (t.entry (t.Keyed key of line) others)
  keyed_values n at next key of line others frames calls state c go [] now cost total two p sum h = absurd (omega arith)
  keyed_values n at next key of line others frames calls state c go (a ∷ []) now cost total two p sum h = absurd (omega arith)
  keyed_values n at next key of line others frames calls state c go (a ∷ b ∷ []) now cost total two p sum h = keyed_next n at next key of line others frames calls state c go a b now cost total p sum (is_key a) refl h
  keyed_values n at next key of line others frames calls state c go (a ∷ b ∷ d ∷ values) now cost total two p sum h = absurd (omega arith)

  pub keyed_parts : (n at next : ℕ) (key of : Node) (line : ℕ) (others : EntryNodes) (frames : List Frame) (calls : ℕ) (state : State) (c : ℕ) → EntriesGo n at frames calls others →
      (outcome : Result (List LuaValue) Fault) (now : State) (cost total : ℕ) → AllEvaluate chunk calls state (key and of and none) (record { outcome = outcome; state = now }) cost → total ≡ c + cost →
      E n (parts_by (Stores at next others line) [] outcome frames calls now total) → EntriesCame n at next frames calls state c (t.entry (t.Keyed key of line) others)
  keyed_parts n at next key of line others frames calls state c go (Ok values) now cost total p sum h = keyed_values n at next key of line others frames calls state c go values now cost total (as_many p) p sum h
  keyed_parts n at next key of line others frames calls state c go (Err why) now cost total p sum h =
      record { given = fails why now; cost = cost; total = total; derived = y.keyed_fails p; sum = sum; rest = h }

  pub entries_at : (n : ℕ) → ExpressionAt n → (entries : EntryNodes) (at next : ℕ) (frames : List Frame) (calls : ℕ) (state : State) (c : ℕ) →
      E n (filling at next entries frames calls state c) → EntriesCame n at next frames calls state c entries
  entries_at n x t.no_entries at next frames calls state c h = record { given = gives (Table at) state; cost = 0; total = c; derived = y.filled; sum = sum_none c; rest = h }
  entries_at n x (t.entry (t.Value of) others) at next frames calls state c h =
      let p = x of (NextEntry at next others ∷ frames) calls state c h in
      value_next n at next of others frames calls state c (λ next state c. entries_at n x others at next frames calls state c) p.given.outcome p.given.state p.cost p.total p.derived p.sum p.rest
  entries_at n x (t.entry (t.Named called of) others) at next frames calls state c h =
      let p = x of (NamedEntry at next called others ∷ frames) calls state c h in
      named_next n at next called of others frames calls state c (λ next state c. entries_at n x others at next frames calls state c) p.given.outcome p.given.state p.cost p.total p.derived p.sum p.rest
  entries_at n x (t.entry (t.Keyed key of line) others) at next frames calls state c h =
      let p = parts_at n x (key and of and none) (Stores at next others line) [] frames calls state c h in
      keyed_parts n at next key of line others frames calls state c (λ next state c. entries_at n x others at next frames calls state c) p.given.outcome p.given.state p.cost p.total p.derived p.sum p.rest

  -- ---- blocks and arms, with what is known of their statements

  abbrev pub BlockCame : ℕ → List Frame → ℕ → State → ℕ → BlockNode → Type 0
  BlockCame n frames calls state c body = Came (λ (gone : Gone) cost. Runs chunk calls state body gone cost) (λ gone total. E n (left gone frames calls total)) c

  pub block_next : (n : ℕ) (first : StatementNode) (others : BlockNode) (frames : List Frame) (calls : ℕ) (state : State) (c : ℕ) →
      ((state : State) (c : ℕ) → E n (running others frames calls state c) → BlockCame n frames calls state c others) →
      (way : Way) (now : State) (cost total : ℕ) → Executes chunk calls state first (record { way = way; state = now }) cost → total ≡ c + cost →
      E n (back_by way now (Others others ∷ frames) calls total) → BlockCame n frames calls state c (first andthen others)
  block_next n first others frames calls state c go Goes now cost total p sum h =
      let q = go now total (resume_going n (Others others) frames calls now total h) in
      record { given = q.given; cost = cost + q.cost; total = q.total; derived = y.on p q.derived; sum = sum_two _ _ _ _ _ sum q.sum; rest = q.rest }
  block_next n first others frames calls state c go Breaks now cost total p sum h =
      record { given = record { way = Breaks; state = now }; cost = cost; total = total; derived = y.ended p refl; sum = sum; rest = resume_breaking n (Others others) frames calls now total h }
  block_next n first others frames calls state c go (Returns value) now cost total p sum h =
      record { given = record { way = Returns value; state = now }; cost = cost; total = total; derived = y.ended p refl; sum = sum; rest = resume n (Others others) value frames calls now total h }
  block_next n first others frames calls state c go (Fails why) now cost total p sum h =
      record { given = record { way = Fails why; state = now }; cost = cost; total = total; derived = y.ended p refl; sum = sum; rest = h }

  pub block_at : (n : ℕ) → StatementAt n → (body : BlockNode) (frames : List Frame) (calls : ℕ) (state : State) (c : ℕ) → E n (running body frames calls state c) → BlockCame n frames calls state c body
  block_at n s t.finished frames calls state c h = record { given = goes state; cost = 0; total = c; derived = y.finished; sum = sum_none c; rest = h }
  block_at n s (first andthen others) frames calls state c h =
      let p = s first (Others others ∷ frames) calls state c h in
      block_next n first others frames calls state c (λ state c. block_at n s others frames calls state c) p.given.way p.given.state p.cost p.total p.derived p.sum p.rest

  abbrev pub ArmsCame : ℕ → List Frame → ℕ → State → ℕ → ArmNodes → Type 0
  ArmsCame n frames calls state c arms = Came (λ (gone : Gone) cost. Chooses chunk calls state arms gone cost) (λ gone total. E n (left gone frames calls total)) c

  pub arm_by : (n : ℕ) → StatementAt n → (test : Node) (body : BlockNode) (others : ArmNodes) (frames : List Frame) (calls : ℕ) (state : State) (c : ℕ) →
      ((state : State) (c : ℕ) → E n (choosing others frames calls state c) → ArmsCame n frames calls state c others) →
      (value : LuaValue) (now : State) (cost total : ℕ) → Evaluates chunk calls state test (gives value now) cost → total ≡ c + cost →
      (b : Bool) → is_true value ≡ b → E n (arm_if b body others frames calls now total) → ArmsCame n frames calls state c (t.arm test body others)
  arm_by n s test body others frames calls state c go value now cost total p sum true is h =
      let q = block_at n s body (Inner (length now.locals) ∷ frames) calls now total h in
      record {
        given = record q.given { state = left_block now q.given.state };
        cost = cost + q.cost;
        total = q.total;
        derived = y.holds p is q.derived;
        sum = sum_two _ _ _ _ _ sum q.sum;
        rest = block_left n q.given.way q.given.state (length now.locals) frames calls q.total q.rest;
      }
  arm_by n s test body others frames calls state c go value now cost total p sum false is h =
      let q = go now total h in
      record { given = q.given; cost = cost + q.cost; total = q.total; derived = y.fails_over p is q.derived; sum = sum_two _ _ _ _ _ sum q.sum; rest = q.rest }

  pub arm_next : (n : ℕ) → StatementAt n → (test : Node) (body : BlockNode) (others : ArmNodes) (frames : List Frame) (calls : ℕ) (state : State) (c : ℕ) →
      ((state : State) (c : ℕ) → E n (choosing others frames calls state c) → ArmsCame n frames calls state c others) →
      (outcome : Result LuaValue Fault) (now : State) (cost total : ℕ) → Evaluates chunk calls state test (record { outcome = outcome; state = now }) cost → total ≡ c + cost →
      E n (back_by (way_of outcome) now (ArmTest body others ∷ frames) calls total) → ArmsCame n frames calls state c (t.arm test body others)
  arm_next n s test body others frames calls state c go (Ok value) now cost total p sum h =
      arm_by n s test body others frames calls state c go value now cost total p sum (is_true value) refl (resume n (ArmTest body others) value frames calls now total h)
  arm_next n s test body others frames calls state c go (Err why) now cost total p sum h =
      record { given = stops why now; cost = cost; total = total; derived = y.test_fails p; sum = sum; rest = h }

  pub arms_at : (n : ℕ) → ExpressionAt n → StatementAt n → (arms : ArmNodes) (frames : List Frame) (calls : ℕ) (state : State) (c : ℕ) → E n (choosing arms frames calls state c) → ArmsCame n frames calls state c arms
  arms_at n x s t.no_else frames calls state c h = record { given = goes state; cost = 0; total = c; derived = y.no_else; sum = sum_none c; rest = h }
  arms_at n x s (t.else_do body) frames calls state c h =
      let q = block_at n s body (Inner (length state.locals) ∷ frames) calls state c h in
      record {
        given = record q.given { state = left_block state q.given.state };
        cost = q.cost;
        total = q.total;
        derived = y.in_else q.derived;
        sum = q.sum;
        rest = block_left n q.given.way q.given.state (length state.locals) frames calls q.total q.rest;
      }
  arms_at n x s (t.arm test body others) frames calls state c h =
      let p = x test (ArmTest body others ∷ frames) calls state c h in
      arm_next n s test body others frames calls state c (λ state c. arms_at n x s others frames calls state c) p.given.outcome p.given.state p.cost p.total p.derived p.sum p.rest
