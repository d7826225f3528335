-- The machine that evaluates a chunk: where it is, the frames of all that waits, the state, and the units paid so far.
use Rattle.std.specs.Prelude.{ℕ, List, Result}
use Rattle.lua_tree.specs.declared.tree.UnaryOp.{UnaryOp}
use Rattle.lua_tree.specs.declared.tree.BinaryOp.{BinaryOp}
use Rattle.lua_machine.specs.Tree.{Node, Nodes, EntryNodes, StatementNode, BlockNode, ItemNode, ArmNodes}
use Rattle.lua_machine.specs.Value.{LuaValue, Fault}
use Rattle.lua_machine.specs.State.{State, Variables}
use Rattle.lua_machine.specs.Library.{MathFunction, TableFunction}
use Rattle.lua_machine.specs.Functions.{Function}
use Rattle.lua_machine.specs.Yields.{Way, Bounds}
use Rattle.lua_machine.specs.Answer.{PlainValue}

-- what is made of the values of several parts, once the last of them is there
pub data Making : Type 0 where
  Indexes : (line : ℕ) → Making
  Selects : (called : List ℕ) → (line : ℕ) → Making
  Unary : (op : UnaryOp) → (line : ℕ) → Making
  Binary : (op : BinaryOp) → (line : ℕ) → Making
  Calls : (function : Function) → (line : ℕ) → Making
  Math : (function : MathFunction) → (line : ℕ) → Making
  Floors : (line : ℕ) → Making
  Tables : (function : TableFunction) → (line : ℕ) → Making
  -- an entry of a row: the number of the next one without a key, and the entries behind it
  Stores : (at next : ℕ) → (others : EntryNodes) → (line : ℕ) → Making
  Puts : (line : ℕ) → Making
  PutsMember : (called : List ℕ) → (line : ℕ) → Making
  -- the bounds of a `for`
  Loops : (called : List ℕ) → (body : BlockNode) → (line : ℕ) → Making

-- what waits
pub data Frame : Type 0 where
  -- for a value: with the values of the parts before it, and the parts behind it
  Part : (making : Making) → (values : List LuaValue) → (others : Nodes) → Frame
  -- for the left side of `and` or `or`
  LeftSide : (op : BinaryOp) → (right : Node) → Frame
  -- for the value of an entry, without a key or with a name for one
  NextEntry : (at next : ℕ) → (others : EntryNodes) → Frame
  NamedEntry : (at next : ℕ) → (called : List ℕ) → (others : EntryNodes) → Frame
  -- for the value of a statement
  Declares : (called : List ℕ) → Frame
  Assigns : (called : List ℕ) → Frame
  Drops : Frame
  ReturnsIt : Frame
  -- for the value of a test; a block that is still open behind it had so many locals around it
  ArmTest : (body : BlockNode) → (others : ArmNodes) → Frame
  WhileTest : (test : Node) → (body : BlockNode) → Frame
  RepeatTest : (outer : ℕ) → (body : BlockNode) → (test : Node) → Frame
  -- for the end of a statement: the statements behind it
  Others : (others : BlockNode) → Frame
  -- for the end of a block, which had so many locals around it
  Inner : (outer : ℕ) → Frame
  WhileBody : (outer : ℕ) → (test : Node) → (body : BlockNode) → Frame
  RepeatBody : (outer : ℕ) → (body : BlockNode) → (test : Node) → Frame
  ForBody : (outer : ℕ) → (called : List ℕ) → (bounds : Bounds) → (body : BlockNode) → Frame
  -- for the end of a called function: the locals of its caller, and how many calls were open there
  Caller : (locals : Variables) → (calls : ℕ) → Frame
  -- for the end of an assignment of the chunk: the items behind it
  Items : (items : List ItemNode) → Frame

-- where the machine is
pub data Control : Type 0 where
  Evaluate : (node : Node) → Control
  Execute : (statement : StatementNode) → Control
  -- back at the innermost frame: with a value, which is the way `Returns`, or with the way out of a statement
  Back : (way : Way) → Control

-- a configuration; the frames stand innermost first
pub record Machine : Type 0 where
  pub control : Control
  pub frames : List Frame
  pub calls : ℕ
  pub state : State
  pub cost : ℕ

-- what comes after a turn: the next configuration, or the end with the answer and what all of it costs
pub data Turned : Type 0 where
  Next : (machine : Machine) → Turned
  Ended : (answer : Result PlainValue Fault) → (cost : ℕ) → Turned
