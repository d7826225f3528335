-- What has been paid stays paid: no turn lowers the cost.
use Rattle.std.proofs.Common.{◌≡◌, ℕ, zero, suc, ◌+◌, ◌≤◌, Bool, true, false, List, [], ◌∷◌, ◌++◌, length, ap, subst, pos, Ok, Err, Result, arith}
use Rattle.std.specs.Prelude.{Option, Some, None, nat_lt}
use Rattle.lua_tree.specs.declared.tree.BinaryOp.{BinaryOp}
use Rattle.lua_machine.specs.Tree as t
use Rattle.lua_machine.specs.Tree.{Node, Nodes, none, ◌and◌, EntryNodes, StatementNode, BlockNode, ◌andthen◌, ArmNodes, ItemNode}
use Rattle.lua_machine.specs.Value.{LuaValue, Number, Text, Fault, is_true, is_key}
use Rattle.lua_machine.specs.Tables.{no_keys, stored}
use Rattle.lua_machine.specs.State.{State, Done, declared, entered}
use Rattle.lua_machine.specs.Operators.{text, decides, is_logical}
use Rattle.lua_machine.specs.Library.{MathFunction, TableFunction, math_of, table_of, math_result, table_result}
use Rattle.lua_machine.specs.Functions.{Function, function_of}
use Rattle.lua_machine.specs.Yields.{Gone, Way, Goes, Breaks, Returns, Fails, Bounds, indexed, with_member, unary_result, binary_result, floor_result, put, put_member, bounds_of, bounds_parts, comes, next_turn, returned, most_calls}
use Rattle.lua_machine.specs.Answer.{PlainValue, plain_result, plain_cost}
use Rattle.lua_machine.specs.Machine.{Making, Indexes, Selects, Unary, Binary, Calls, Math, Floors, Tables, Stores, Puts, PutsMember, Loops, Frame, Part, LeftSide, NextEntry, NamedEntry, Declares, Assigns, Drops, ReturnsIt, ArmTest, WhileTest, RepeatTest, Others, Inner, WhileBody, RepeatBody, ForBody, Caller, Items, Control, Evaluate, Execute, Back, Machine, Turned, Next, Ended}
use Rattle.lua_machine.specs.Turn.{back_by, left, back, value_in, way_of, running, cut_to, choosing, repeating, turning_if, looping, entering, filling, keyed_if, keyed, made, begun, Quotient, under_floor, math_by, math_begun, table_begun, call_begun, binary_begun, expression_begun, statement_begun, assigning, decided_if, arm_if, while_if, until_if, others_by, while_by, repeat_by, for_by, resumed, back_at, turn_at, turn, after_turns, paid}

pub same : (c : ℕ) → c ≤ c
same c = omega arith

two_more : (c : ℕ) → c + 1 ≤ c + 2
two_more c = omega arith

by_one : (c d : ℕ) → c + 1 ≤ d → c ≤ d
by_one c d h = omega arith

by_two : (c d : ℕ) → c + 2 ≤ d → c ≤ d
by_two c d h = omega arith

with_more : (c d : ℕ) → c ≤ c + d
with_more c d = omega arith

over : (a b c : ℕ) → a ≤ b → b ≤ c → a ≤ c
over a b c g h = omega arith

by_way : (way : Way) (state : State) (frames : List Frame) (calls c : ℕ) → c ≤ paid (back_by way state frames calls c)
by_way Goes state frames calls c = same c
by_way Breaks state frames calls c = same c
by_way (Returns value) state frames calls c = same c
by_way (Fails why) state frames calls c = same c

by_done : (done : Done LuaValue) (frames : List Frame) (calls c : ℕ) → c ≤ paid (back done frames calls c)
by_done done frames calls c = by_way (way_of done.outcome) done.state frames calls c

by_gone : (gone : Gone) (frames : List Frame) (calls c : ℕ) → c ≤ paid (left gone frames calls c)
by_gone gone frames calls c = by_way gone.way gone.state frames calls c

pub by_block : (body : BlockNode) (frames : List Frame) (calls : ℕ) (state : State) (c : ℕ) → c ≤ paid (running body frames calls state c)
by_block t.finished frames calls state c = same c
by_block (first andthen others) frames calls state c = same c

pub by_arms : (arms : ArmNodes) (frames : List Frame) (calls : ℕ) (state : State) (c : ℕ) → c ≤ paid (choosing arms frames calls state c)
by_arms t.no_else frames calls state c = same c
by_arms (t.else_do body) frames calls state c = by_block body (Inner (length state.locals) ∷ frames) calls state c
by_arms (t.arm test body others) frames calls state c = same c

pub by_repeat : (body : BlockNode) (test : Node) (frames : List Frame) (calls : ℕ) (state : State) (c : ℕ) → c ≤ paid (repeating body test frames calls state c)
by_repeat body test frames calls state c = by_one _ _ (by_block body (RepeatBody (length state.locals) body test ∷ frames) calls state (c + 1))

pub by_for : (b : Bool) (called : List ℕ) (bounds : Bounds) (body : BlockNode) (frames : List Frame) (calls : ℕ) (state : State) (c : ℕ) → c ≤ paid (turning_if b called bounds body frames calls state c)
by_for true called bounds body frames calls state c = by_one _ _ (by_block body (ForBody (length state.locals) called bounds body ∷ frames) calls (declared called (Number bounds.first) state) (c + 1))
by_for false called bounds body frames calls state c = same c

by_bounds : (bounds : Result Bounds Fault) (called : List ℕ) (body : BlockNode) (frames : List Frame) (calls : ℕ) (state : State) (c : ℕ) → c ≤ paid (looping bounds called body frames calls state c)
by_bounds (Ok bounds) called body frames calls state c = by_for (comes bounds) called bounds body frames calls state c
by_bounds (Err why) called body frames calls state c = same c

by_entering : (b : Bool) (function : Function) (line : ℕ) (values : List LuaValue) (frames : List Frame) (calls : ℕ) (state : State) (c : ℕ) → c ≤ paid (entering b function line values frames calls state c)
by_entering true function line values frames calls state c = by_block function.body (Caller state.locals calls ∷ frames) (suc calls) (entered function.params values state) c
by_entering false function line values frames calls state c = same c

by_entries : (entries : EntryNodes) (at next : ℕ) (frames : List Frame) (calls : ℕ) (state : State) (c : ℕ) → c ≤ paid (filling at next entries frames calls state c)
by_entries t.no_entries at next frames calls state c = same c
by_entries (t.entry (t.Value of) others) at next frames calls state c = same c
by_entries (t.entry (t.Named called of) others) at next frames calls state c = same c
by_entries (t.entry (t.Keyed key of line) others) at next frames calls state c = same c

by_key : (b : Bool) (at next : ℕ) (others : EntryNodes) (line : ℕ) (key value : LuaValue) (frames : List Frame) (calls : ℕ) (state : State) (c : ℕ) → c ≤ paid (keyed_if b at next others line key value frames calls state c)
by_key true at next others line key value frames calls state c = by_entries others at next frames calls (record state { tables = stored state.tables at key value }) c
by_key false at next others line key value frames calls state c = same c

by_keyed : (values : List LuaValue) (at next : ℕ) (others : EntryNodes) (line : ℕ) (frames : List Frame) (calls : ℕ) (state : State) (c : ℕ) → c ≤ paid (keyed at next others line values frames calls state c)
by_keyed [] at next others line frames calls state c = same c
by_keyed (a ∷ []) at next others line frames calls state c = same c
by_keyed (a ∷ b ∷ []) at next others line frames calls state c = by_key (is_key a) at next others line a b frames calls state c
by_keyed (a ∷ b ∷ d ∷ more) at next others line frames calls state c = same c

by_making : (making : Making) (values : List LuaValue) (frames : List Frame) (calls : ℕ) (state : State) (c : ℕ) → c ≤ paid (made making values frames calls state c)
by_making (Indexes line) values frames calls state c = by_done (indexed line values state) frames calls c
by_making (Selects called line) values frames calls state c = by_done (indexed line (with_member called values) state) frames calls c
by_making (Unary op line) values frames calls state c = by_done (unary_result op line values state) frames calls c
by_making (Binary op line) values frames calls state c = by_done (binary_result op line values state) frames calls c
by_making (Calls function line) values frames calls state c = by_entering (nat_lt calls most_calls) function line values frames calls state c
by_making (Math function line) values frames calls state c = by_done (math_result function line values state) frames calls c
by_making (Floors line) values frames calls state c = by_done (floor_result line values state) frames calls c
by_making (Tables function line) values frames calls state c = by_done (table_result function line values state) frames calls c
by_making (Stores at next others line) values frames calls state c = by_keyed values at next others line frames calls state c
by_making (Puts line) values frames calls state c = by_gone (put line values state) frames calls c
by_making (PutsMember called line) values frames calls state c = by_gone (put_member line called values state) frames calls c
by_making (Loops called body line) values frames calls state c = by_bounds (bounds_of line values) called body frames calls state c

by_parts : (nodes : Nodes) (making : Making) (values : List LuaValue) (frames : List Frame) (calls : ℕ) (state : State) (c : ℕ) → c ≤ paid (begun making values nodes frames calls state c)
by_parts none making values frames calls state c = by_making making values frames calls state c
by_parts (first and others) making values frames calls state c = same c

by_floor : (q : Option Quotient) (function : MathFunction) (args : Nodes) (line : ℕ) (frames : List Frame) (calls : ℕ) (state : State) (c : ℕ) → c + 1 ≤ paid (math_by q function args line frames calls state c)
by_floor (Some of) function args line frames calls state c = two_more c
by_floor None function args line frames calls state c = by_parts args (Math function line) [] frames calls state (c + 1)

by_math : (found : Option MathFunction) (args : Nodes) (line : ℕ) (frames : List Frame) (calls : ℕ) (state : State) (c : ℕ) → c + 1 ≤ paid (math_begun found args line frames calls state c)
by_math (Some function) args line frames calls state c = by_floor (under_floor function args) function args line frames calls state c
by_math None args line frames calls state c = same (c + 1)

by_table : (found : Option TableFunction) (args : Nodes) (line : ℕ) (frames : List Frame) (calls : ℕ) (state : State) (c : ℕ) → c + 1 ≤ paid (table_begun found args line frames calls state c)
by_table (Some function) args line frames calls state c = by_parts args (Tables function line) [] frames calls state (c + 1)
by_table None args line frames calls state c = same (c + 1)

by_call : (found : Option Function) (args : Nodes) (line : ℕ) (frames : List Frame) (calls : ℕ) (state : State) (c : ℕ) → c + 1 ≤ paid (call_begun found args line frames calls state c)
by_call (Some function) args line frames calls state c = by_parts args (Calls function line) [] frames calls state (c + 1)
by_call None args line frames calls state c = same (c + 1)

by_binary : (b : Bool) (op : BinaryOp) (west east : Node) (line : ℕ) (frames : List Frame) (calls : ℕ) (state : State) (c : ℕ) → c + 1 ≤ paid (binary_begun b op west east line frames calls state c)
by_binary true op west east line frames calls state c = same (c + 1)
by_binary false op west east line frames calls state c = same (c + 1)

pub by_expression : (chunk : List ItemNode) (node : Node) (frames : List Frame) (calls : ℕ) (state : State) (c : ℕ) → c + 1 ≤ paid (expression_begun chunk node frames calls state c)
by_expression chunk t.Nil frames calls state c = same (c + 1)
by_expression chunk t.True frames calls state c = same (c + 1)
by_expression chunk t.False frames calls state c = same (c + 1)
by_expression chunk (t.Number value) frames calls state c = same (c + 1)
by_expression chunk (t.Str bytes line) frames calls state c = by_way (way_of (text line bytes)) state frames calls (c + 1)
by_expression chunk (t.Name called) frames calls state c = same (c + 1)
by_expression chunk (t.Index table key line) frames calls state c = same (c + 1)
by_expression chunk (t.Member table called line) frames calls state c = same (c + 1)
by_expression chunk (t.Call called args line) frames calls state c = by_call (function_of chunk called) args line frames calls state c
by_expression chunk (t.MathCall called args line) frames calls state c = by_math (math_of called) args line frames calls state c
by_expression chunk (t.TableCall called args line) frames calls state c = by_table (table_of called) args line frames calls state c
by_expression chunk (t.Construct entries) frames calls state c = by_entries entries (length state.tables) 1 frames calls (record state { tables = state.tables ++ no_keys ∷ [] }) (c + 1)
by_expression chunk (t.Unary op of line) frames calls state c = same (c + 1)
by_expression chunk (t.Binary op west east line) frames calls state c = by_binary (is_logical op) op west east line frames calls state c

pub by_statement : (node : StatementNode) (frames : List Frame) (calls : ℕ) (state : State) (c : ℕ) → c + 1 ≤ paid (statement_begun node frames calls state c)
by_statement (t.Local called (Some of)) frames calls state c = same (c + 1)
by_statement (t.Local called None) frames calls state c = same (c + 1)
by_statement (t.Assign called of) frames calls state c = same (c + 1)
by_statement (t.SetIndex table key of line) frames calls state c = same (c + 1)
by_statement (t.SetMember table called of line) frames calls state c = same (c + 1)
by_statement (t.CallAlone of) frames calls state c = same (c + 1)
by_statement (t.If arms) frames calls state c = by_arms arms frames calls state (c + 1)
by_statement (t.While test body) frames calls state c = same (c + 1)
by_statement (t.Repeat body test) frames calls state c = by_repeat body test frames calls state (c + 1)
by_statement (t.For called first last by body line) frames calls state c = by_parts (bounds_parts first last by) (Loops called body line) [] frames calls state (c + 1)
by_statement (t.Do body) frames calls state c = by_block body (Inner (length state.locals) ∷ frames) calls state (c + 1)
by_statement t.Break frames calls state c = same (c + 1)
by_statement (t.Return (Some of)) frames calls state c = same (c + 1)
by_statement (t.Return None) frames calls state c = same (c + 1)

by_items : (main : Function) (items : List ItemNode) (state : State) (c : ℕ) → c ≤ paid (assigning main items state c)
by_items main [] state c = by_block main.body [] 1 (entered main.params [] state) c
by_items main (t.Function called params body ∷ more) state c = by_items main more state c
by_items main (t.Set called of ∷ more) state c = same c

by_side : (b : Bool) (east : Node) (value : LuaValue) (frames : List Frame) (calls : ℕ) (state : State) (c : ℕ) → c ≤ paid (decided_if b east value frames calls state c)
by_side true east value frames calls state c = same c
by_side false east value frames calls state c = same c

by_arm : (b : Bool) (body : BlockNode) (others : ArmNodes) (frames : List Frame) (calls : ℕ) (state : State) (c : ℕ) → c ≤ paid (arm_if b body others frames calls state c)
by_arm true body others frames calls state c = by_block body (Inner (length state.locals) ∷ frames) calls state c
by_arm false body others frames calls state c = by_arms others frames calls state c

pub by_while : (b : Bool) (test : Node) (body : BlockNode) (frames : List Frame) (calls : ℕ) (state : State) (c : ℕ) → c ≤ paid (while_if b test body frames calls state c)
by_while true test body frames calls state c = by_one _ _ (by_block body (WhileBody (length state.locals) test body ∷ frames) calls state (c + 1))
by_while false test body frames calls state c = same c

by_until : (b : Bool) (outer : ℕ) (body : BlockNode) (test : Node) (frames : List Frame) (calls : ℕ) (state : State) (c : ℕ) → c ≤ paid (until_if b outer body test frames calls state c)
by_until true outer body test frames calls state c = same c
by_until false outer body test frames calls state c = by_repeat body test frames calls (cut_to outer state) c

after_others : (way : Way) (others : BlockNode) (frames : List Frame) (calls : ℕ) (state : State) (c : ℕ) → c ≤ paid (others_by way others frames calls state c)
after_others Goes others frames calls state c = by_block others frames calls state c
after_others Breaks others frames calls state c = same c
after_others (Returns value) others frames calls state c = same c
after_others (Fails why) others frames calls state c = same c

after_while : (way : Way) (outer : ℕ) (test : Node) (body : BlockNode) (frames : List Frame) (calls : ℕ) (state : State) (c : ℕ) → c ≤ paid (while_by way outer test body frames calls state c)
after_while Goes outer test body frames calls state c = same c
after_while Breaks outer test body frames calls state c = same c
after_while (Returns value) outer test body frames calls state c = same c
after_while (Fails why) outer test body frames calls state c = same c

after_repeat : (way : Way) (outer : ℕ) (body : BlockNode) (test : Node) (frames : List Frame) (calls : ℕ) (state : State) (c : ℕ) → c ≤ paid (repeat_by way outer body test frames calls state c)
after_repeat Goes outer body test frames calls state c = same c
after_repeat Breaks outer body test frames calls state c = same c
after_repeat (Returns value) outer body test frames calls state c = same c
after_repeat (Fails why) outer body test frames calls state c = same c

after_for : (way : Way) (outer : ℕ) (called : List ℕ) (bounds : Bounds) (body : BlockNode) (frames : List Frame) (calls : ℕ) (state : State) (c : ℕ) → c ≤ paid (for_by way outer called bounds body frames calls state c)
after_for Goes outer called bounds body frames calls state c = by_for (comes (next_turn bounds)) called (next_turn bounds) body frames calls (cut_to outer state) c
after_for Breaks outer called bounds body frames calls state c = same c
after_for (Returns value) outer called bounds body frames calls state c = same c
after_for (Fails why) outer called bounds body frames calls state c = same c

by_frame : (main : Function) (frame : Frame) (way : Way) (frames : List Frame) (calls : ℕ) (state : State) (c : ℕ) → c ≤ paid (resumed main frame way frames calls state c)
by_frame main (Part making values others) way frames calls state c = by_parts others making (values ++ value_in way ∷ []) frames calls state c
by_frame main (LeftSide op east) way frames calls state c = by_side (decides op (value_in way)) east (value_in way) frames calls state c
by_frame main (NextEntry at next others) way frames calls state c = by_entries others at (next + 1) frames calls (record state { tables = stored state.tables at (Number (pos next)) (value_in way) }) c
by_frame main (NamedEntry at next called others) way frames calls state c = by_entries others at next frames calls (record state { tables = stored state.tables at (Text called) (value_in way) }) c
by_frame main (Declares called) way frames calls state c = same c
by_frame main (Assigns called) way frames calls state c = same c
by_frame main Drops way frames calls state c = same c
by_frame main ReturnsIt way frames calls state c = same c
by_frame main (ArmTest body others) way frames calls state c = by_arm (is_true (value_in way)) body others frames calls state c
by_frame main (WhileTest test body) way frames calls state c = by_while (is_true (value_in way)) test body frames calls state c
by_frame main (RepeatTest outer body test) way frames calls state c = by_until (is_true (value_in way)) outer body test frames calls state c
by_frame main (Others others) way frames calls state c = after_others way others frames calls state c
by_frame main (Inner outer) way frames calls state c = by_way way (cut_to outer state) frames calls c
by_frame main (WhileBody outer test body) way frames calls state c = after_while way outer test body frames calls state c
by_frame main (RepeatBody outer body test) way frames calls state c = after_repeat way outer body test frames calls state c
by_frame main (ForBody outer called bounds body) way frames calls state c = after_for way outer called bounds body frames calls state c
by_frame main (Caller locals outer) way frames calls state c = by_done (returned way (record state { locals = locals })) frames outer c
by_frame main (Items items) way frames calls state c = by_items main items state c

at_frames : (main : Function) (frames : List Frame) (way : Way) (calls : ℕ) (state : State) (c : ℕ) → c ≤ paid (back_at main frames way calls state c)
at_frames main [] way calls state c = with_more c (plain_cost (plain_result (record { way = way; state = state })))
at_frames main (frame ∷ frames) way calls state c = by_frame main frame way frames calls state c

by_control : (chunk : List ItemNode) (main : Function) (control : Control) (frames : List Frame) (calls : ℕ) (state : State) (c : ℕ) → c ≤ paid (turn_at chunk main control frames calls state c)
by_control chunk main (Evaluate node) frames calls state c = by_one _ _ (by_expression chunk node frames calls state c)
by_control chunk main (Execute statement) frames calls state c = by_one _ _ (by_statement statement frames calls state c)
by_control chunk main (Back way) frames calls state c = at_frames main frames way calls state c

pub by_turn : (chunk : List ItemNode) (main : Function) (m : Machine) → m.cost ≤ paid (turn chunk main m)
by_turn chunk main m = by_control chunk main m.control m.frames m.calls m.state m.cost

-- ---- what was paid at some time is no more than the end's cost

next_or_end : (m : Machine) (answer : Result PlainValue Fault) (cost : ℕ) → Next m ≡ Ended answer cost → ⊥
next_or_end m answer cost same = cc

paid_before : (chunk : List ItemNode) (main : Function) (turns : ℕ) (from : Turned) (answer : Result PlainValue Fault) (cost : ℕ) → after_turns chunk main turns from ≡ Ended answer cost → paid from ≤ cost
paid_before chunk main turns (Ended given cost) answer all is = subst (λ n. cost ≤ n) (ap paid is) (same cost)
paid_before chunk main zero (Next m) answer all is = absurd (next_or_end m answer all is)
paid_before chunk main (suc turns) (Next m) answer all is = over _ _ _ (by_turn chunk main m) (paid_before chunk main turns (turn chunk main m) answer all is)

pub paid_on_the_way : (chunk : List ItemNode) (main : Function) (some turns : ℕ) (from : Turned) (answer : Result PlainValue Fault) (cost : ℕ) →
    after_turns chunk main turns from ≡ Ended answer cost → paid (after_turns chunk main some from) ≤ cost
paid_on_the_way chunk main some turns (Ended given cost) answer all ends = subst (λ n. cost ≤ n) (ap paid ends) (same cost)
paid_on_the_way chunk main zero turns (Next first) answer all ends = paid_before chunk main turns (Next first) answer all ends
paid_on_the_way chunk main (suc some) zero (Next first) answer all ends = absurd (next_or_end first answer all ends)
paid_on_the_way chunk main (suc some) (suc turns) (Next first) answer all ends = paid_on_the_way chunk main some turns (turn chunk main first) answer all ends
