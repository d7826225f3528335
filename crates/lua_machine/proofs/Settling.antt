-- Each turn pays, or leaves fewer that may pay nothing: so turns end, or come to have paid more than any number of units.
use Rattle.std.proofs.Common.{◌≡◌, ℕ, zero, suc, ◌+◌, ◌≤◌, ◌<◌, ◌⊎◌, inl, inr, refl, sym, ◌↔◌, Bool, true, false, List, [], ◌∷◌, ◌++◌, length, subst, pos, Ok, Err, Result, arith}
use Rattle.std.specs.Prelude.{Some, nat_le, nat_lt}
use Rattle.std.proofs.lemmas.Bool.{leb-true, leb-false}
use Rattle.lua_machine.specs.Tree as t
use Rattle.lua_machine.specs.Tree.{Node, Nodes, none, ◌and◌, EntryNodes, StatementNode, BlockNode, ◌andthen◌, ArmNodes, ItemNode}
use Rattle.lua_machine.specs.Value.{LuaValue, Number, Text, Fault, is_true, is_key}
use Rattle.lua_machine.specs.Tables.{stored}
use Rattle.lua_machine.specs.State.{State, Done, declared, entered}
use Rattle.lua_machine.specs.Operators.{decides}
use Rattle.lua_machine.specs.Library.{math_result, table_result}
use Rattle.lua_machine.specs.Functions.{Function, function_of}
use Rattle.lua_machine.specs.Yields.{Gone, Way, Goes, Breaks, Returns, Fails, Bounds, indexed, with_member, unary_result, binary_result, floor_result, put, put_member, bounds_of, comes, next_turn, returned, most_calls}
use Rattle.lua_machine.specs.Answer.{PlainValue, Answers, RunsOut, CallsComeToSomething, most_units}
use Rattle.lua_machine.specs.Machine.{Making, Indexes, Selects, Unary, Binary, Calls, Math, Floors, Tables, Stores, Puts, PutsMember, Loops, Frame, Part, LeftSide, NextEntry, NamedEntry, Declares, Assigns, Drops, ReturnsIt, ArmTest, WhileTest, RepeatTest, Others, Inner, WhileBody, RepeatBody, ForBody, Caller, Items, Control, Evaluate, Execute, Back, Machine, Turned, Next, Ended}
use Rattle.lua_machine.specs.Turn.{back_by, left, back, value_in, way_of, running, cut_to, choosing, turning_if, looping, entering, filling, keyed_if, keyed, made, begun, assigning, decided_if, arm_if, while_if, until_if, others_by, while_by, repeat_by, for_by, resumed, turn_at, turn, begins, after_turns, paid}
use Rattle.lua_machine.specs.Turn.{evaluating, frames_weight, control_weight, unpaid_turns}
use Rattle.lua_machine.proofs.TurnLaws.{turns_yield}
use Rattle.lua_machine.proofs.Growing.{by_expression, by_statement, by_block, paid_on_the_way}

-- a unit is paid, or fewer turns than these are left
abbrev Moves : ℕ → ℕ → Turned → Type 0
Moves c w (Next m) = (c < m.cost) ⊎ ((m.cost ≡ c) × (unpaid_turns m < w))
Moves c w (Ended answer cost) = Unit {0}

pays : (c w : ℕ) (to : Turned) → c + 1 ≤ paid to → Moves c w to
pays c w (Next m) h = inl (omega arith)
pays c w (Ended answer cost) h = tt

by_way : (way : Way) (state : State) (frames : List Frame) (calls c w : ℕ) → 1 + frames_weight frames < w → Moves c w (back_by way state frames calls c)
by_way Goes state frames calls c w h = inr (refl, h)
by_way Breaks state frames calls c w h = inr (refl, h)
by_way (Returns value) state frames calls c w h = inr (refl, h)
by_way (Fails why) state frames calls c w h = tt

by_node : (node : Node) (frames : List Frame) (calls : ℕ) (state : State) (c w : ℕ) → frames_weight frames < w → Moves c w (evaluating node frames calls state c)
by_node node frames calls state c w h = inr (refl, omega arith)

to_block : (body : BlockNode) (frames : List Frame) (calls : ℕ) (state : State) (c w : ℕ) → 1 + frames_weight frames < w → Moves c w (running body frames calls state c)
to_block t.finished frames calls state c w h = inr (refl, h)
to_block (first andthen others) frames calls state c w h = inr (refl, omega arith)

to_arms : (arms : ArmNodes) (frames : List Frame) (calls : ℕ) (state : State) (c w : ℕ) → 2 + frames_weight frames < w → Moves c w (choosing arms frames calls state c)
to_arms t.no_else frames calls state c w h = inr (refl, omega arith)
to_arms (t.else_do body) frames calls state c w h = to_block body (Inner (length state.locals) ∷ frames) calls state c w (omega arith)
to_arms (t.arm test body others) frames calls state c w h = inr (refl, omega arith)

to_for : (b : Bool) (called : List ℕ) (bounds : Bounds) (body : BlockNode) (frames : List Frame) (calls : ℕ) (state : State) (c w : ℕ) → 1 + frames_weight frames < w → Moves c w (turning_if b called bounds body frames calls state c)
to_for true called bounds body frames calls state c w h = pays c w _ (by_block body (ForBody (length state.locals) called bounds body ∷ frames) calls (declared called (Number bounds.first) state) (c + 1))
to_for false called bounds body frames calls state c w h = inr (refl, h)

to_bounds : (bounds : Result Bounds Fault) (called : List ℕ) (body : BlockNode) (frames : List Frame) (calls : ℕ) (state : State) (c w : ℕ) → 1 + frames_weight frames < w → Moves c w (looping bounds called body frames calls state c)
to_bounds (Ok bounds) called body frames calls state c w h = to_for (comes bounds) called bounds body frames calls state c w h
to_bounds (Err why) called body frames calls state c w h = tt

to_function : (b : Bool) (function : Function) (line : ℕ) (values : List LuaValue) (frames : List Frame) (calls : ℕ) (state : State) (c w : ℕ) → 2 + frames_weight frames < w → Moves c w (entering b function line values frames calls state c)
to_function true function line values frames calls state c w h = to_block function.body (Caller state.locals calls ∷ frames) (suc calls) (entered function.params values state) c w (omega arith)
to_function false function line values frames calls state c w h = tt

to_entries : (entries : EntryNodes) (at next : ℕ) (frames : List Frame) (calls : ℕ) (state : State) (c w : ℕ) → 2 + frames_weight frames < w → Moves c w (filling at next entries frames calls state c)
to_entries t.no_entries at next frames calls state c w h = inr (refl, omega arith)
to_entries (t.entry (t.Value of) others) at next frames calls state c w h = inr (refl, omega arith)
to_entries (t.entry (t.Named called of) others) at next frames calls state c w h = inr (refl, omega arith)
to_entries (t.entry (t.Keyed key of line) others) at next frames calls state c w h = inr (refl, omega arith)

to_key : (b : Bool) (at next : ℕ) (others : EntryNodes) (line : ℕ) (key value : LuaValue) (frames : List Frame) (calls : ℕ) (state : State) (c w : ℕ) → 2 + frames_weight frames < w → Moves c w (keyed_if b at next others line key value frames calls state c)
to_key true at next others line key value frames calls state c w h = to_entries others at next frames calls (record state { tables = stored state.tables at key value }) c w h
to_key false at next others line key value frames calls state c w h = tt

to_keyed : (values : List LuaValue) (at next : ℕ) (others : EntryNodes) (line : ℕ) (frames : List Frame) (calls : ℕ) (state : State) (c w : ℕ) → 2 + frames_weight frames < w → Moves c w (keyed at next others line values frames calls state c)
to_keyed [] at next others line frames calls state c w h = tt
to_keyed (a ∷ []) at next others line frames calls state c w h = tt
to_keyed (a ∷ b ∷ []) at next others line frames calls state c w h = to_key (is_key a) at next others line a b frames calls state c w h
to_keyed (a ∷ b ∷ d ∷ more) at next others line frames calls state c w h = tt

less : (a w : ℕ) → 2 + a < w → 1 + a < w
less a w h = omega arith

by_done : (done : Done LuaValue) (frames : List Frame) (calls c w : ℕ) → 2 + frames_weight frames < w → Moves c w (back done frames calls c)
by_done done frames calls c w h = by_way (way_of done.outcome) done.state frames calls c w (less _ _ h)

by_gone : (gone : Gone) (frames : List Frame) (calls c w : ℕ) → 2 + frames_weight frames < w → Moves c w (left gone frames calls c)
by_gone gone frames calls c w h = by_way gone.way gone.state frames calls c w (less _ _ h)

to_making : (making : Making) (values : List LuaValue) (frames : List Frame) (calls : ℕ) (state : State) (c w : ℕ) → 2 + frames_weight frames < w → Moves c w (made making values frames calls state c)
to_making (Indexes line) values frames calls state c w h = by_done (indexed line values state) frames calls c w h
to_making (Selects called line) values frames calls state c w h = by_done (indexed line (with_member called values) state) frames calls c w h
to_making (Unary op line) values frames calls state c w h = by_done (unary_result op line values state) frames calls c w h
to_making (Binary op line) values frames calls state c w h = by_done (binary_result op line values state) frames calls c w h
to_making (Calls function line) values frames calls state c w h = to_function (nat_lt calls most_calls) function line values frames calls state c w h
to_making (Math function line) values frames calls state c w h = by_done (math_result function line values state) frames calls c w h
to_making (Floors line) values frames calls state c w h = by_done (floor_result line values state) frames calls c w h
to_making (Tables function line) values frames calls state c w h = by_done (table_result function line values state) frames calls c w h
to_making (Stores at next others line) values frames calls state c w h = to_keyed values at next others line frames calls state c w h
to_making (Puts line) values frames calls state c w h = by_gone (put line values state) frames calls c w h
to_making (PutsMember called line) values frames calls state c w h = by_gone (put_member line called values state) frames calls c w h
to_making (Loops called body line) values frames calls state c w h = to_bounds (bounds_of line values) called body frames calls state c w (less _ _ h)

to_parts : (nodes : Nodes) (making : Making) (values : List LuaValue) (frames : List Frame) (calls : ℕ) (state : State) (c w : ℕ) → 2 + frames_weight frames < w → Moves c w (begun making values nodes frames calls state c)
to_parts none making values frames calls state c w h = to_making making values frames calls state c w h
to_parts (first and others) making values frames calls state c w h = inr (refl, omega arith)

to_side : (b : Bool) (east : Node) (value : LuaValue) (frames : List Frame) (calls : ℕ) (state : State) (c w : ℕ) → 1 + frames_weight frames < w → Moves c w (decided_if b east value frames calls state c)
to_side true east value frames calls state c w h = inr (refl, h)
to_side false east value frames calls state c w h = inr (refl, omega arith)

to_arm : (b : Bool) (body : BlockNode) (others : ArmNodes) (frames : List Frame) (calls : ℕ) (state : State) (c w : ℕ) → 2 + frames_weight frames < w → Moves c w (arm_if b body others frames calls state c)
to_arm true body others frames calls state c w h = to_block body (Inner (length state.locals) ∷ frames) calls state c w (omega arith)
to_arm false body others frames calls state c w h = to_arms others frames calls state c w h

to_while : (b : Bool) (test : Node) (body : BlockNode) (frames : List Frame) (calls : ℕ) (state : State) (c w : ℕ) → 1 + frames_weight frames < w → Moves c w (while_if b test body frames calls state c)
to_while true test body frames calls state c w h = pays c w _ (by_block body (WhileBody (length state.locals) test body ∷ frames) calls state (c + 1))
to_while false test body frames calls state c w h = inr (refl, h)

to_until : (b : Bool) (outer : ℕ) (body : BlockNode) (test : Node) (frames : List Frame) (calls : ℕ) (state : State) (c w : ℕ) → 1 + frames_weight frames < w → Moves c w (until_if b outer body test frames calls state c)
to_until true outer body test frames calls state c w h = inr (refl, h)
to_until false outer body test frames calls state c w h = pays c w _ (by_block body (RepeatBody (length (cut_to outer state).locals) body test ∷ frames) calls (cut_to outer state) (c + 1))

to_others : (way : Way) (others : BlockNode) (frames : List Frame) (calls : ℕ) (state : State) (c w : ℕ) → 1 + frames_weight frames < w → Moves c w (others_by way others frames calls state c)
to_others Goes others frames calls state c w h = to_block others frames calls state c w h
to_others Breaks others frames calls state c w h = inr (refl, h)
to_others (Returns value) others frames calls state c w h = inr (refl, h)
to_others (Fails why) others frames calls state c w h = tt

-- a loop's body is left, and its test is next
to_while_test : (way : Way) (outer : ℕ) (test : Node) (body : BlockNode) (frames : List Frame) (calls : ℕ) (state : State) (c w : ℕ) → 1 + frames_weight frames < w → Moves c w (while_by way outer test body frames calls state c)
to_while_test Goes outer test body frames calls state c w h = inr (refl, omega arith)
to_while_test Breaks outer test body frames calls state c w h = inr (refl, h)
to_while_test (Returns value) outer test body frames calls state c w h = inr (refl, h)
to_while_test (Fails why) outer test body frames calls state c w h = tt

to_repeat_test : (way : Way) (outer : ℕ) (body : BlockNode) (test : Node) (frames : List Frame) (calls : ℕ) (state : State) (c w : ℕ) → 1 + frames_weight frames < w → Moves c w (repeat_by way outer body test frames calls state c)
to_repeat_test Goes outer body test frames calls state c w h = inr (refl, omega arith)
to_repeat_test Breaks outer body test frames calls state c w h = inr (refl, h)
to_repeat_test (Returns value) outer body test frames calls state c w h = inr (refl, h)
to_repeat_test (Fails why) outer body test frames calls state c w h = tt

to_next_turn : (way : Way) (outer : ℕ) (called : List ℕ) (bounds : Bounds) (body : BlockNode) (frames : List Frame) (calls : ℕ) (state : State) (c w : ℕ) → 1 + frames_weight frames < w → Moves c w (for_by way outer called bounds body frames calls state c)
to_next_turn Goes outer called bounds body frames calls state c w h = to_for (comes (next_turn bounds)) called (next_turn bounds) body frames calls (cut_to outer state) c w h
to_next_turn Breaks outer called bounds body frames calls state c w h = inr (refl, h)
to_next_turn (Returns value) outer called bounds body frames calls state c w h = inr (refl, h)
to_next_turn (Fails why) outer called bounds body frames calls state c w h = tt

to_items : (main : Function) (items : List ItemNode) (state : State) (c w : ℕ) → 1 < w → Moves c w (assigning main items state c)
to_items main [] state c w h = to_block main.body [] 1 (entered main.params [] state) c w h
to_items main (t.Function called params body ∷ more) state c w h = to_items main more state c w h
to_items main (t.Set called of ∷ more) state c w h = inr (refl, h)

by_frame : (main : Function) (frame : Frame) (way : Way) (frames : List Frame) (calls : ℕ) (state : State) (c : ℕ) → Moves c (1 + frames_weight (frame ∷ frames)) (resumed main frame way frames calls state c)
by_frame main (Part making values others) way frames calls state c = to_parts others making (values ++ value_in way ∷ []) frames calls state c _ (omega arith)
by_frame main (LeftSide op east) way frames calls state c = to_side (decides op (value_in way)) east (value_in way) frames calls state c _ (omega arith)
by_frame main (NextEntry at next others) way frames calls state c = to_entries others at (next + 1) frames calls (record state { tables = stored state.tables at (Number (pos next)) (value_in way) }) c _ (omega arith)
by_frame main (NamedEntry at next called others) way frames calls state c = to_entries others at next frames calls (record state { tables = stored state.tables at (Text called) (value_in way) }) c _ (omega arith)
by_frame main (Declares called) way frames calls state c = inr (refl, omega arith)
by_frame main (Assigns called) way frames calls state c = inr (refl, omega arith)
by_frame main Drops way frames calls state c = inr (refl, omega arith)
by_frame main ReturnsIt way frames calls state c = inr (refl, omega arith)
by_frame main (ArmTest body others) way frames calls state c = to_arm (is_true (value_in way)) body others frames calls state c _ (omega arith)
by_frame main (WhileTest test body) way frames calls state c = to_while (is_true (value_in way)) test body frames calls state c _ (omega arith)
by_frame main (RepeatTest outer body test) way frames calls state c = to_until (is_true (value_in way)) outer body test frames calls state c _ (omega arith)
by_frame main (Others others) way frames calls state c = to_others way others frames calls state c _ (omega arith)
by_frame main (Inner outer) way frames calls state c = by_way way (cut_to outer state) frames calls c _ (omega arith)
by_frame main (WhileBody outer test body) way frames calls state c = to_while_test way outer test body frames calls state c _ (omega arith)
by_frame main (RepeatBody outer body test) way frames calls state c = to_repeat_test way outer body test frames calls state c _ (omega arith)
by_frame main (ForBody outer called bounds body) way frames calls state c = to_next_turn way outer called bounds body frames calls state c _ (omega arith)
by_frame main (Caller locals outer) way frames calls state c = by_way (way_of (returned way (record state { locals = locals })).outcome) (returned way (record state { locals = locals })).state frames outer c _ (omega arith)
by_frame main (Items items) way frames calls state c = to_items main items state c _ (omega arith)

by_control : (chunk : List ItemNode) (main : Function) (control : Control) (frames : List Frame) (calls : ℕ) (state : State) (c : ℕ) → Moves c (control_weight control + frames_weight frames) (turn_at chunk main control frames calls state c)
by_control chunk main (Evaluate node) frames calls state c = pays c _ _ (by_expression chunk node frames calls state c)
by_control chunk main (Execute statement) frames calls state c = pays c _ _ (by_statement statement frames calls state c)
by_control chunk main (Back way) [] calls state c = tt
by_control chunk main (Back way) (frame ∷ frames) calls state c = by_frame main frame way frames calls state c

pub turns_pay : (chunk : List ItemNode) (main : Function) (m next : Machine) → turn chunk main m ≡ Next next → (m.cost < next.cost) ⊎ ((next.cost ≡ m.cost) × (unpaid_turns next < unpaid_turns m))
turns_pay chunk main m next is = subst (λ to. Moves m.cost (unpaid_turns m) to) is (by_control chunk main m.control m.frames m.calls m.state m.cost)

-- ---- turns end, or pay more than any number of units

data Settled (chunk : List ItemNode) (main : Function) (most : ℕ) (from : Turned) : Type 0 where
  spent : (turns : ℕ) → most < paid (after_turns chunk main turns from) → Settled chunk main most from
  ended : (turns : ℕ) (answer : Result PlainValue Fault) (cost : ℕ) → after_turns chunk main turns from ≡ Ended answer cost → Settled chunk main most from

one_further : (chunk : List ItemNode) (main : Function) (most : ℕ) (m : Machine) → Settled chunk main most (turn chunk main m) → Settled chunk main most (Next m)
one_further chunk main most m (spent turns h) = spent (suc turns) h
one_further chunk main most m (ended turns answer cost is) = ended (suc turns) answer cost is

abbrev SettledAt : List ItemNode → Function → ℕ → ℕ → Type 0
SettledAt chunk main most units = (weight : ℕ) (m : Machine) → most < m.cost + units → unpaid_turns m ≤ weight → Settled chunk main most (Next m)

by_next : (chunk : List ItemNode) (main : Function) (most units : ℕ) → SettledAt chunk main most units → (m : Machine) → most < m.cost + suc units →
    ((next : Machine) → most < next.cost + suc units → unpaid_turns next < unpaid_turns m → Settled chunk main most (Next next)) →
    (to : Turned) → turn chunk main m ≡ to → Settled chunk main most to
by_next chunk main most units all m h again (Ended answer cost) is = ended 0 answer cost refl
by_next chunk main most units all m h again (Next next) is =
    elim (turns_pay chunk main m next is) [ inl more ↦ all (unpaid_turns next) next (omega arith) (omega arith) | inr fewer ↦ again next (subst (λ n. most < n + suc units) (sym fewer.0) h) fewer.1 ]

below_none : (a b : ℕ) → a < b → b ≤ 0 → ⊥
below_none a b h l = omega arith

below_next : (a b w : ℕ) → a < b → b ≤ suc w → a ≤ w
below_next a b w h l = omega arith

settled_by : (chunk : List ItemNode) (main : Function) (most units : ℕ) → SettledAt chunk main most units → SettledAt chunk main most (suc units)
settled_by chunk main most units all zero m h l =
    one_further chunk main most m (by_next chunk main most units all m h (λ next more fewer. absurd (below_none _ _ fewer l)) (turn chunk main m) refl)
settled_by chunk main most units all (suc weight) m h l =
    one_further chunk main most m (by_next chunk main most units all m h (λ next more fewer. settled_by chunk main most units all weight next more (below_next _ _ _ fewer l)) (turn chunk main m) refl)

settled_now : (chunk : List ItemNode) (main : Function) (most : ℕ) → SettledAt chunk main most 0
settled_now chunk main most weight m h l = spent 0 (omega arith)

settled : (chunk : List ItemNode) (main : Function) (most units : ℕ) → SettledAt chunk main most units
settled chunk main most zero = settled_now chunk main most
settled chunk main most (suc units) = settled_by chunk main most units (settled chunk main most units)

all_settle : (chunk : List ItemNode) (main : Function) (most : ℕ) (from : Turned) → Settled chunk main most from
all_settle chunk main most (Ended answer cost) = ended 0 answer cost refl
all_settle chunk main most (Next m) = settled chunk main most (suc most) (unpaid_turns m) m (omega arith) (omega arith)

-- ---- the budget

too_much : (most paid cost : ℕ) → most < paid → paid ≤ cost → cost ≤ most → ⊥
too_much most paid cost g h i = omega arith

by_cost : (most cost : ℕ) → (cost ≤ most → ⊥) → most < cost
by_cost most cost h = omega arith

spent_by : (chunk : List ItemNode) (called : List ℕ) (seed : ℕ) (main : Function) → function_of chunk called ≡ Some main → RunsOut chunk called seed →
    Settled chunk main most_units (begins chunk main seed) → (turns : ℕ) × (most_units < paid (after_turns chunk main turns (begins chunk main seed)))
spent_by chunk called seed main is out (spent turns h) = (turns, h)
spent_by chunk called seed main is out (ended turns answer cost ends) =
    (turns, subst (λ to. most_units < paid to) (sym ends) (by_cost most_units cost (λ few. out answer cost ((turns_yield chunk called seed main answer cost is).1 (turns, ends), few))))

pub spent_turns_run_out : (chunk : List ItemNode) (called : List ℕ) (seed : ℕ) (main : Function) → function_of chunk called ≡ Some main →
    RunsOut chunk called seed ↔ ((turns : ℕ) × (most_units < paid (after_turns chunk main turns (begins chunk main seed))))
spent_turns_run_out chunk called seed main is = (
  λ out. spent_by chunk called seed main is out (all_settle chunk main most_units (begins chunk main seed)),
  λ h answer cost given. let ends = (turns_yield chunk called seed main answer cost is).0 given.0 in
      too_much most_units (paid (after_turns chunk main h.0 (begins chunk main seed))) cost h.1 (paid_on_the_way chunk main h.0 ends.0 (begins chunk main seed) answer cost ends.1) given.1,
)

-- ---- each call comes to something

abbrev Comes : List ItemNode → List ℕ → ℕ → Type 0
Comes chunk called seed = ((answer : Result PlainValue Fault) × (cost : ℕ) × Answers chunk called seed answer cost) ⊎ RunsOut chunk called seed

within_or_past : (cost most : ℕ) → (cost ≤ most) ⊎ (most < cost)
within_or_past cost most =
    elim (nat_le cost most) as (λ b. nat_le cost most ≡ b → (cost ≤ most) ⊎ (most < cost)) [
      | true ↦ λ is. inl (leb-true cost most is)
      | false ↦ λ is. inr (leb-false cost most is)
    ] refl

comes_by : (chunk : List ItemNode) (called : List ℕ) (seed : ℕ) (main : Function) → function_of chunk called ≡ Some main → Settled chunk main most_units (begins chunk main seed) → Comes chunk called seed
comes_by chunk called seed main is (spent turns h) = inr ((spent_turns_run_out chunk called seed main is).1 (turns, h))
comes_by chunk called seed main is (ended turns answer cost ends) =
    elim (within_or_past cost most_units) [
      | inl few ↦ inl (answer, cost, ((turns_yield chunk called seed main answer cost is).1 (turns, ends), few))
      | inr many ↦ inr ((spent_turns_run_out chunk called seed main is).1 (turns, subst (λ to. most_units < paid to) (sym ends) many))
    ]

pub calls_come_to_something : CallsComeToSomething
calls_come_to_something chunk called seed main is = comes_by chunk called seed main is (all_settle chunk main most_units (begins chunk main seed))
