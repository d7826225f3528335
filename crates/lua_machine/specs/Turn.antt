-- One turn of the machine. What a frame waits for comes back to it alone; a fault ends all.
use Rattle.std.specs.Prelude.{◌≡◌, ◌↔◌, ◌⊎◌, ℕ, zero, suc, ◌+◌, ◌-◌, ◌<◌, pos, Bool, true, false, nat_lt, List, [], ◌∷◌, ◌++◌, length, drop, Option, Some, None, Result, Ok, Err}
use Rattle.lua_tree.specs.declared.tree.BinaryOp.{BinaryOp}
use Rattle.lua_tree.specs.declared.tree.BinaryOp.TheVariants as op_of
use Rattle.lua_machine.specs.Tree as t
use Rattle.lua_machine.specs.Tree.{Node, Nodes, none, ◌and◌, EntryNodes, StatementNode, BlockNode, ItemNode, ◌andthen◌, ArmNodes}
use Rattle.lua_machine.specs.Value.{LuaValue, Nil, Truth, Number, Text, Table, Fault, TypeFault, UnknownName, TooDeepCalls, is_true, is_key}
use Rattle.lua_machine.specs.Tables.{no_keys, stored}
use Rattle.lua_machine.specs.State.{State, Done, gives, value_of, assigned, declared, entered, fresh}
use Rattle.lua_machine.specs.Operators.{text, is_logical, decides}
use Rattle.lua_machine.specs.Library.{MathFunction, Floor, TableFunction, math_of, table_of, math_result, table_result}
use Rattle.lua_machine.specs.Functions.{Function, function_of}
use Rattle.lua_machine.specs.Yields.{Way, Goes, Breaks, Returns, Fails, Gone, goes, Bounds, answered, indexed, with_member, unary_result, binary_result, floor_result, put, put_member, returned, out_of_loop, bounds_of, comes, next_turn, bounds_parts, most_calls}
use Rattle.lua_machine.specs.Answer.{PlainValue, plain_result, plain_value, plain_cost, Yields, most_units, RunsOut}
use Rattle.lua_machine.specs.Machine.{Making, Indexes, Selects, Unary, Binary, Calls, Math, Floors, Tables, Stores, Puts, PutsMember, Loops, Frame, Part, LeftSide, NextEntry, NamedEntry, Declares, Assigns, Drops, ReturnsIt, ArmTest, WhileTest, RepeatTest, Others, Inner, WhileBody, RepeatBody, ForBody, Caller, Items, Control, Evaluate, Execute, Back, Machine, Turned, Next, Ended}

-- ---- back at a frame

-- with a way out of a statement, unless it is a fault
abbrev pub back_by : Way → State → List Frame → ℕ → ℕ → Turned
back_by (Fails why) state frames calls cost = Ended (Err why) cost
back_by way state frames calls cost = Next (record { control = Back way; frames = frames; calls = calls; state = state; cost = cost })

-- with a way out of a statement and the state behind it
abbrev pub left : Gone → List Frame → ℕ → ℕ → Turned
left gone frames calls cost = back_by gone.way gone.state frames calls cost

-- a value comes back as the way `Returns`
abbrev pub way_of : Result LuaValue Fault → Way
way_of (Ok value) = Returns value
way_of (Err why) = Fails why

-- with a value, unless it is a fault
abbrev pub back : Done LuaValue → List Frame → ℕ → ℕ → Turned
back done frames calls cost = back_by (way_of done.outcome) done.state frames calls cost

-- the value that comes back to a frame that waits for one; nothing else comes to it
abbrev pub value_in : Way → LuaValue
value_in (Returns value) = value
value_in _ = Nil

-- ---- how parts are begun

-- an expression
abbrev pub evaluating : Node → List Frame → ℕ → State → ℕ → Turned
evaluating node frames calls state cost = Next (record { control = Evaluate node; frames = frames; calls = calls; state = state; cost = cost })

-- the statements of a block
abbrev pub running : BlockNode → List Frame → ℕ → State → ℕ → Turned
running t.finished frames calls state cost = left (goes state) frames calls cost
running (first andthen others) frames calls state cost = Next (record { control = Execute first; frames = Others others ∷ frames; calls = calls; state = state; cost = cost })

-- so many locals stay
abbrev pub cut_to : ℕ → State → State
cut_to outer state = record state { locals = drop (length state.locals - outer) state.locals }

-- the arms of a choice
abbrev pub choosing : ArmNodes → List Frame → ℕ → State → ℕ → Turned
choosing t.no_else frames calls state cost = left (goes state) frames calls cost
choosing (t.else_do body) frames calls state cost = running body (Inner (length state.locals) ∷ frames) calls state cost
choosing (t.arm test body others) frames calls state cost = evaluating test (ArmTest body others ∷ frames) calls state cost

-- a turn of a `repeat`
abbrev pub repeating : BlockNode → Node → List Frame → ℕ → State → ℕ → Turned
repeating body test frames calls state cost = running body (RepeatBody (length state.locals) body test ∷ frames) calls state (cost + 1)

-- a turn of a `for`, if one comes; its name is a new local of the turn
abbrev pub turning_if : Bool → List ℕ → Bounds → BlockNode → List Frame → ℕ → State → ℕ → Turned
turning_if false called bounds body frames calls state cost = left (goes state) frames calls cost
turning_if true called bounds body frames calls state cost = running body (ForBody (length state.locals) called bounds body ∷ frames) calls (declared called (Number bounds.first) state) (cost + 1)

-- a turn of a `for`, where one comes
abbrev pub turning : List ℕ → Bounds → BlockNode → List Frame → ℕ → State → ℕ → Turned
turning called bounds body frames calls state cost = turning_if (comes bounds) called bounds body frames calls state cost

-- a `for` with its bounds, unless they are a fault
abbrev pub looping : Result Bounds Fault → List ℕ → BlockNode → List Frame → ℕ → State → ℕ → Turned
looping (Ok bounds) called body frames calls state cost = turning called bounds body frames calls state cost
looping (Err why) called body frames calls state cost = Ended (Err why) cost

-- the function of a call, where one more call may be open
abbrev pub entering : Bool → Function → ℕ → List LuaValue → List Frame → ℕ → State → ℕ → Turned
entering true function line values frames calls state cost = running function.body (Caller state.locals calls ∷ frames) (suc calls) (entered function.params values state) cost
entering false function line values frames calls state cost = Ended (Err (TooDeepCalls line)) cost

-- the entries of a row
abbrev pub filling : ℕ → ℕ → EntryNodes → List Frame → ℕ → State → ℕ → Turned
filling at next t.no_entries frames calls state cost = back (gives (Table at) state) frames calls cost
filling at next (t.entry (t.Value of) others) frames calls state cost = evaluating of (NextEntry at next others ∷ frames) calls state cost
filling at next (t.entry (t.Named called of) others) frames calls state cost = evaluating of (NamedEntry at next called others ∷ frames) calls state cost
filling at next (t.entry (t.Keyed key of line) others) frames calls state cost = evaluating key (Part (Stores at next others line) [] (of and none) ∷ frames) calls state cost

-- the entries behind a value that is stored in the row
abbrev pub filled : ℕ → ℕ → LuaValue → LuaValue → EntryNodes → List Frame → ℕ → State → ℕ → Turned
filled at next key value others frames calls state cost = filling at next others frames calls (record state { tables = stored state.tables at key value }) cost

-- ---- what becomes of parts

-- an entry with a key, if it is one
abbrev pub keyed_if : Bool → ℕ → ℕ → EntryNodes → ℕ → LuaValue → LuaValue → List Frame → ℕ → State → ℕ → Turned
keyed_if true at next others line key value frames calls state cost = filled at next key value others frames calls state cost
keyed_if false at next others line key value frames calls state cost = Ended (Err (TypeFault line)) cost

-- an entry with a key, of which key and value are there
abbrev pub keyed : ℕ → ℕ → EntryNodes → ℕ → List LuaValue → List Frame → ℕ → State → ℕ → Turned
keyed at next others line (key ∷ value ∷ []) frames calls state cost = keyed_if (is_key key) at next others line key value frames calls state cost
keyed at next others line _ frames calls state cost = Ended (Err (TypeFault line)) cost

-- once the values of all parts are there
abbrev pub made : Making → List LuaValue → List Frame → ℕ → State → ℕ → Turned
made (Indexes line) values frames calls state cost = back (indexed line values state) frames calls cost
made (Selects called line) values frames calls state cost = back (indexed line (with_member called values) state) frames calls cost
made (Unary op line) values frames calls state cost = back (unary_result op line values state) frames calls cost
made (Binary op line) values frames calls state cost = back (binary_result op line values state) frames calls cost
made (Calls function line) values frames calls state cost = entering (nat_lt calls most_calls) function line values frames calls state cost
made (Math function line) values frames calls state cost = back (math_result function line values state) frames calls cost
made (Floors line) values frames calls state cost = back (floor_result line values state) frames calls cost
made (Tables function line) values frames calls state cost = back (table_result function line values state) frames calls cost
made (Stores at next others line) values frames calls state cost = keyed at next others line values frames calls state cost
made (Puts line) values frames calls state cost = left (put line values state) frames calls cost
made (PutsMember called line) values frames calls state cost = left (put_member line called values state) frames calls cost
made (Loops called body line) values frames calls state cost = looping (bounds_of line values) called body frames calls state cost

-- the parts that are left, behind the values of those before
abbrev pub begun : Making → List LuaValue → Nodes → List Frame → ℕ → State → ℕ → Turned
begun making values none frames calls state cost = made making values frames calls state cost
begun making values (first and others) frames calls state cost = evaluating first (Part making values others ∷ frames) calls state cost

-- ---- how a node is begun: its unit is paid, and its first part is evaluated

-- the sides of a quotient, where the arguments are one
pub record Quotient : Type 0 where
  pub left : Node
  pub right : Node
  pub line : ℕ

-- the quotient that the arguments are as a whole
abbrev pub quotient_of : Nodes → Option Quotient
quotient_of (t.Binary op_of.Over left right line and none) = Some (record { left = left; right = right; line = line })
quotient_of _ = None

-- the quotient of which `math.floor` gives the floor
abbrev pub under_floor : MathFunction → Nodes → Option Quotient
under_floor Floor args = quotient_of args
under_floor _ args = None

-- a call of a function of `math`: the quotient under `math.floor` is a node of its own, which pays its unit too
abbrev pub math_by : Option Quotient → MathFunction → Nodes → ℕ → List Frame → ℕ → State → ℕ → Turned
math_by (Some of) function args line frames calls state cost = begun (Floors of.line) [] (of.left and of.right and none) frames calls state (cost + 2)
math_by None function args line frames calls state cost = begun (Math function line) [] args frames calls state (cost + 1)

-- a call of `math`, whose name is looked at before its arguments
abbrev pub math_begun : Option MathFunction → Nodes → ℕ → List Frame → ℕ → State → ℕ → Turned
math_begun (Some function) args line frames calls state cost = math_by (under_floor function args) function args line frames calls state cost
math_begun None args line frames calls state cost = Ended (Err (UnknownName line)) (cost + 1)

-- a call of `table`, likewise
abbrev pub table_begun : Option TableFunction → Nodes → ℕ → List Frame → ℕ → State → ℕ → Turned
table_begun (Some function) args line frames calls state cost = begun (Tables function line) [] args frames calls state (cost + 1)
table_begun None args line frames calls state cost = Ended (Err (UnknownName line)) (cost + 1)

-- a call of a function of the chunk, likewise
abbrev pub call_begun : Option Function → Nodes → ℕ → List Frame → ℕ → State → ℕ → Turned
call_begun (Some function) args line frames calls state cost = begun (Calls function line) [] args frames calls state (cost + 1)
call_begun None args line frames calls state cost = Ended (Err (UnknownName line)) (cost + 1)

-- a binary operator: `and` and `or` begin with their left side alone
abbrev pub binary_begun : Bool → BinaryOp → Node → Node → ℕ → List Frame → ℕ → State → ℕ → Turned
binary_begun true op left right line frames calls state cost = evaluating left (LeftSide op right ∷ frames) calls state (cost + 1)
binary_begun false op left right line frames calls state cost = begun (Binary op line) [] (left and right and none) frames calls state (cost + 1)

-- an expression, by its kind
abbrev pub expression_begun : List ItemNode → Node → List Frame → ℕ → State → ℕ → Turned
expression_begun chunk t.Nil frames calls state cost = back (gives Nil state) frames calls (cost + 1)
expression_begun chunk t.True frames calls state cost = back (gives (Truth true) state) frames calls (cost + 1)
expression_begun chunk t.False frames calls state cost = back (gives (Truth false) state) frames calls (cost + 1)
expression_begun chunk (t.Number value) frames calls state cost = back (gives (Number value) state) frames calls (cost + 1)
expression_begun chunk (t.Str bytes line) frames calls state cost = back (answered (text line bytes) state) frames calls (cost + 1)
expression_begun chunk (t.Name called) frames calls state cost = back (gives (value_of called state) state) frames calls (cost + 1)
expression_begun chunk (t.Index table key line) frames calls state cost = begun (Indexes line) [] (table and key and none) frames calls state (cost + 1)
expression_begun chunk (t.Member table called line) frames calls state cost = begun (Selects called line) [] (table and none) frames calls state (cost + 1)
expression_begun chunk (t.Call called args line) frames calls state cost = call_begun (function_of chunk called) args line frames calls state cost
expression_begun chunk (t.MathCall called args line) frames calls state cost = math_begun (math_of called) args line frames calls state cost
expression_begun chunk (t.TableCall called args line) frames calls state cost = table_begun (table_of called) args line frames calls state cost
expression_begun chunk (t.Construct entries) frames calls state cost = filling (length state.tables) 1 entries frames calls (record state { tables = state.tables ++ no_keys ∷ [] }) (cost + 1)
expression_begun chunk (t.Unary op of line) frames calls state cost = begun (Unary op line) [] (of and none) frames calls state (cost + 1)
expression_begun chunk (t.Binary op left right line) frames calls state cost = binary_begun (is_logical op) op left right line frames calls state cost

-- a statement, by its kind; a loop's first turn is begun with it where nothing has to be evaluated before
abbrev pub statement_begun : StatementNode → List Frame → ℕ → State → ℕ → Turned
statement_begun (t.Local called (Some of)) frames calls state cost = evaluating of (Declares called ∷ frames) calls state (cost + 1)
statement_begun (t.Local called None) frames calls state cost = left (goes (declared called Nil state)) frames calls (cost + 1)
statement_begun (t.Assign called of) frames calls state cost = evaluating of (Assigns called ∷ frames) calls state (cost + 1)
statement_begun (t.SetIndex table key of line) frames calls state cost = begun (Puts line) [] (table and key and of and none) frames calls state (cost + 1)
statement_begun (t.SetMember table called of line) frames calls state cost = begun (PutsMember called line) [] (table and of and none) frames calls state (cost + 1)
statement_begun (t.CallAlone of) frames calls state cost = evaluating of (Drops ∷ frames) calls state (cost + 1)
statement_begun (t.If arms) frames calls state cost = choosing arms frames calls state (cost + 1)
statement_begun (t.While test body) frames calls state cost = evaluating test (WhileTest test body ∷ frames) calls state (cost + 1)
statement_begun (t.Repeat body test) frames calls state cost = repeating body test frames calls state (cost + 1)
statement_begun (t.For called first last by body line) frames calls state cost = begun (Loops called body line) [] (bounds_parts first last by) frames calls state (cost + 1)
statement_begun (t.Do body) frames calls state cost = running body (Inner (length state.locals) ∷ frames) calls state (cost + 1)
statement_begun t.Break frames calls state cost = left (record { way = Breaks; state = state }) frames calls (cost + 1)
statement_begun (t.Return (Some of)) frames calls state cost = evaluating of (ReturnsIt ∷ frames) calls state (cost + 1)
statement_begun (t.Return None) frames calls state cost = left (record { way = Returns Nil; state = state }) frames calls (cost + 1)

-- the chunk's assignments one after the other, and then the function
abbrev pub assigning : Function → List ItemNode → State → ℕ → Turned
assigning main [] state cost = running main.body [] 1 (entered main.params [] state) cost
assigning main (t.Function called params body ∷ more) state cost = assigning main more state cost
assigning main (t.Set called of ∷ more) state cost = Next (record { control = Execute (t.Assign called of); frames = Items more ∷ []; calls = 0; state = state; cost = cost })

-- ---- back at a frame: what it does

-- the left side of `and` or `or` decides, or the right side is the value
abbrev pub decided_if : Bool → Node → LuaValue → List Frame → ℕ → State → ℕ → Turned
decided_if true right value frames calls state cost = back (gives value state) frames calls cost
decided_if false right value frames calls state cost = evaluating right frames calls state cost

-- an arm whose test holds, or the arms behind it
abbrev pub arm_if : Bool → BlockNode → ArmNodes → List Frame → ℕ → State → ℕ → Turned
arm_if true body others frames calls state cost = running body (Inner (length state.locals) ∷ frames) calls state cost
arm_if false body others frames calls state cost = choosing others frames calls state cost

-- the unit of a turn of a `while` is paid where its test has held
abbrev pub while_if : Bool → Node → BlockNode → List Frame → ℕ → State → ℕ → Turned
while_if true test body frames calls state cost = running body (WhileBody (length state.locals) test body ∷ frames) calls state (cost + 1)
while_if false test body frames calls state cost = left (goes state) frames calls cost

-- a `repeat` ends where its test holds, and else begins its next turn
abbrev pub until_if : Bool → ℕ → BlockNode → Node → List Frame → ℕ → State → ℕ → Turned
until_if true outer body test frames calls state cost = left (goes (cut_to outer state)) frames calls cost
until_if false outer body test frames calls state cost = repeating body test frames calls (cut_to outer state) cost

-- a statement ended in some way: the statements behind it come next, or the block ends in that way
abbrev pub others_by : Way → BlockNode → List Frame → ℕ → State → ℕ → Turned
others_by Goes others frames calls state cost = running others frames calls state cost
others_by way others frames calls state cost = back_by way state frames calls cost

-- the body of a `while` ended in some way
abbrev pub while_by : Way → ℕ → Node → BlockNode → List Frame → ℕ → State → ℕ → Turned
while_by Goes outer test body frames calls state cost = evaluating test (WhileTest test body ∷ frames) calls (cut_to outer state) cost
while_by way outer test body frames calls state cost = back_by (out_of_loop way) (cut_to outer state) frames calls cost

-- the test of a `repeat` sees the locals of the block
abbrev pub repeat_by : Way → ℕ → BlockNode → Node → List Frame → ℕ → State → ℕ → Turned
repeat_by Goes outer body test frames calls state cost = evaluating test (RepeatTest outer body test ∷ frames) calls state cost
repeat_by way outer body test frames calls state cost = back_by (out_of_loop way) (cut_to outer state) frames calls cost

-- the body of a `for` ended in some way
abbrev pub for_by : Way → ℕ → List ℕ → Bounds → BlockNode → List Frame → ℕ → State → ℕ → Turned
for_by Goes outer called bounds body frames calls state cost = turning called (next_turn bounds) body frames calls (cut_to outer state) cost
for_by way outer called bounds body frames calls state cost = back_by (out_of_loop way) (cut_to outer state) frames calls cost

-- a frame goes on with what comes back to it
abbrev pub resumed : Function → Frame → Way → List Frame → ℕ → State → ℕ → Turned
resumed main (Part making values others) way frames calls state cost = begun making (values ++ value_in way ∷ []) others frames calls state cost
resumed main (LeftSide op right) way frames calls state cost = decided_if (decides op (value_in way)) right (value_in way) frames calls state cost
resumed main (NextEntry at next others) way frames calls state cost = filled at (next + 1) (Number (pos next)) (value_in way) others frames calls state cost
resumed main (NamedEntry at next called others) way frames calls state cost = filled at next (Text called) (value_in way) others frames calls state cost
resumed main (Declares called) way frames calls state cost = left (goes (declared called (value_in way) state)) frames calls cost
resumed main (Assigns called) way frames calls state cost = left (goes (assigned called (value_in way) state)) frames calls cost
resumed main Drops way frames calls state cost = left (goes state) frames calls cost
resumed main ReturnsIt way frames calls state cost = left (record { way = Returns (value_in way); state = state }) frames calls cost
resumed main (ArmTest body others) way frames calls state cost = arm_if (is_true (value_in way)) body others frames calls state cost
resumed main (WhileTest test body) way frames calls state cost = while_if (is_true (value_in way)) test body frames calls state cost
resumed main (RepeatTest outer body test) way frames calls state cost = until_if (is_true (value_in way)) outer body test frames calls state cost
resumed main (Others others) way frames calls state cost = others_by way others frames calls state cost
resumed main (Inner outer) way frames calls state cost = back_by way (cut_to outer state) frames calls cost
resumed main (WhileBody outer test body) way frames calls state cost = while_by way outer test body frames calls state cost
resumed main (RepeatBody outer body test) way frames calls state cost = repeat_by way outer body test frames calls state cost
resumed main (ForBody outer called bounds body) way frames calls state cost = for_by way outer called bounds body frames calls state cost
resumed main (Caller locals outer) way frames calls state cost = back (returned way (record state { locals = locals })) frames outer cost
resumed main (Items items) way frames calls state cost = assigning main items state cost

-- the answer, where no frame waits
abbrev pub finished_by : Way → State → ℕ → Turned
finished_by way state cost = Ended (plain_value (plain_result (record { way = way; state = state }))) (cost + plain_cost (plain_result (record { way = way; state = state })))

-- the innermost frame goes on
abbrev pub back_at : Function → List Frame → Way → ℕ → State → ℕ → Turned
back_at main [] way calls state cost = finished_by way state cost
back_at main (frame ∷ frames) way calls state cost = resumed main frame way frames calls state cost

-- ---- turns

-- a turn, by where the machine is
abbrev pub turn_at : List ItemNode → Function → Control → List Frame → ℕ → State → ℕ → Turned
turn_at chunk main (Evaluate node) frames calls state cost = expression_begun chunk node frames calls state cost
turn_at chunk main (Execute statement) frames calls state cost = statement_begun statement frames calls state cost
turn_at chunk main (Back way) frames calls state cost = back_at main frames way calls state cost

-- one turn, in a call of this function of a chunk
abbrev pub turn : List ItemNode → Function → Machine → Turned
turn chunk main m = turn_at chunk main m.control m.frames m.calls m.state m.cost

-- how a call begins
abbrev pub begins : List ItemNode → Function → ℕ → Turned
begins chunk main seed = assigning main chunk (fresh seed) 0

-- so many turns, or up to the end
abbrev pub after_turns : List ItemNode → Function → ℕ → Turned → Turned
after_turns chunk main turns (Ended answer cost) = Ended answer cost
after_turns chunk main zero (Next m) = Next m
after_turns chunk main (suc turns) (Next m) = after_turns chunk main turns (turn chunk main m)

-- turns come to this end
abbrev pub Ends : List ItemNode → Function → Turned → Result PlainValue Fault → ℕ → Type 0
Ends chunk main from answer cost = (turns : ℕ) × (after_turns chunk main turns from ≡ Ended answer cost)

-- ---- laws

-- turns come to an answer at a cost exactly where a call of the function gives it at that cost
abbrev pub TurnsYield : Type 0
TurnsYield = (chunk : List ItemNode) (called : List ℕ) (seed : ℕ) (main : Function) (answer : Result PlainValue Fault) (cost : ℕ) → function_of chunk called ≡ Some main →
    Yields chunk called seed answer cost ↔ Ends chunk main (begins chunk main seed) answer cost

-- what has been paid behind a turn
abbrev pub paid : Turned → ℕ
paid (Next m) = m.cost
paid (Ended answer cost) = cost

-- no answer comes within the units that may be paid exactly where turns come to have paid more
abbrev pub SpentTurnsRunOut : Type 0
SpentTurnsRunOut = (chunk : List ItemNode) (called : List ℕ) (seed : ℕ) (main : Function) → function_of chunk called ≡ Some main →
    RunsOut chunk called seed ↔ ((turns : ℕ) × (most_units < paid (after_turns chunk main turns (begins chunk main seed))))

-- ---- how many turns may come before a unit is paid

-- the turns that a frame may take at most without paying: for most it is the one that goes on with it
abbrev pub frame_weight : Frame → ℕ
frame_weight (Part making values others) = 2
frame_weight (NextEntry at next others) = 2
frame_weight (NamedEntry at next called others) = 2
frame_weight (ArmTest body others) = 2
frame_weight _ = 1

-- of all frames
abbrev pub frames_weight : List Frame → ℕ
frames_weight [] = 0
frames_weight (frame ∷ frames) = frame_weight frame + frames_weight frames

-- what comes back takes a turn, and a node pays at its own
abbrev pub control_weight : Control → ℕ
control_weight (Evaluate node) = 0
control_weight (Execute statement) = 0
control_weight (Back way) = 1

-- of a configuration
abbrev pub unpaid_turns : Machine → ℕ
unpaid_turns m = control_weight m.control + frames_weight m.frames

-- a turn pays, or fewer turns are left that may pay nothing
abbrev pub TurnsPay : Type 0
TurnsPay = (chunk : List ItemNode) (main : Function) (m next : Machine) → turn chunk main m ≡ Next next →
    (m.cost < next.cost) ⊎ ((next.cost ≡ m.cost) × (unpaid_turns next < unpaid_turns m))
