-- The tree of a chunk as plain data, over which its meaning is told: a box is what is in it, and a list is a type of its own.
use Rattle.std.specs.Prelude.{ℕ, ℤ, pos, neg_ℤ, List, [], ◌∷◌, Option, Some, None}
use Rattle.std.specs.Int.{int_min, int_max}
use Rattle.std.specs.Option.{option_map}
use Rattle.lua_tree.specs.declared.tree.UnaryOp.{UnaryOp}
use Rattle.lua_tree.specs.declared.tree.BinaryOp.{BinaryOp}
use Rattle.lua_tree.specs.declared.tree.Expr.{Expr}
use Rattle.lua_tree.specs.declared.tree.Entry.{Entry}
use Rattle.lua_tree.specs.declared.tree.Entry.TheOpen as e
use Rattle.lua_tree.specs.declared.tree.Entry.TheFolds as expression
use Rattle.lua_tree.specs.declared.tree.LuaStatement.{LuaStatement}
use Rattle.lua_tree.specs.declared.tree.LuaBlock.{LuaBlock}
use Rattle.lua_tree.specs.declared.tree.Arm.{Arm}
use Rattle.lua_tree.specs.declared.tree.LuaStatement.TheOpen as s
use Rattle.lua_tree.specs.declared.tree.LuaStatement.TheFolds as block
use Rattle.lua_tree.specs.declared.tree.Item.{Item}
use Rattle.lua_tree.specs.declared.tree.Item.TheVariants as item

infixr 60 ◌and◌ ◌andthen◌
mutual
  pub data Node : Type 0 where
    Nil True False : Node
    Number : (value : ℤ) → Node
    Str : (bytes : List ℕ) → (line : ℕ) → Node
    Name : (called : List ℕ) → Node
    Index : (table key : Node) → (line : ℕ) → Node
    Member : (table : Node) → (called : List ℕ) → (line : ℕ) → Node
    Call MathCall TableCall : (called : List ℕ) → (args : Nodes) → (line : ℕ) → Node
    Construct : (entries : EntryNodes) → Node
    Unary : (op : UnaryOp) → (of : Node) → (line : ℕ) → Node
    Binary : (op : BinaryOp) → (left right : Node) → (line : ℕ) → Node

  pub data Nodes : Type 0 where
    none : Nodes
    ◌and◌ : Node → Nodes → Nodes

  pub data EntryNode : Type 0 where
    Value : (of : Node) → EntryNode
    Named : (called : List ℕ) → (of : Node) → EntryNode
    Keyed : (key of : Node) → (line : ℕ) → EntryNode

  pub data EntryNodes : Type 0 where
    no_entries : EntryNodes
    entry : EntryNode → EntryNodes → EntryNodes

mutual
  pub data StatementNode : Type 0 where
    Local : (called : List ℕ) → (of : Option Node) → StatementNode
    Assign : (called : List ℕ) → (of : Node) → StatementNode
    SetIndex : (table key of : Node) → (line : ℕ) → StatementNode
    SetMember : (table : Node) → (called : List ℕ) → (of : Node) → (line : ℕ) → StatementNode
    CallAlone : (call : Node) → StatementNode
    If : (arms : ArmNodes) → StatementNode
    While : (test : Node) → (body : BlockNode) → StatementNode
    Repeat : (body : BlockNode) → (test : Node) → StatementNode
    For : (called : List ℕ) → (first last : Node) → (by : Option Node) → (body : BlockNode) → (line : ℕ) → StatementNode
    Do : (body : BlockNode) → StatementNode
    Break : StatementNode
    Return : (of : Option Node) → StatementNode

  pub data BlockNode : Type 0 where
    finished : BlockNode
    ◌andthen◌ : StatementNode → BlockNode → BlockNode

  -- tests with their blocks, and the block of `else`
  pub data ArmNodes : Type 0 where
    no_else : ArmNodes
    else_do : (body : BlockNode) → ArmNodes
    arm : (test : Node) → (body : BlockNode) → (others : ArmNodes) → ArmNodes

-- ---- the tree in memory, one level at a time, where what a level holds is seen already

-- expressions one after the other
abbrev pub nodes : List Node → Nodes
nodes [] = none
nodes (first ∷ others) = first and nodes others

abbrev pub entry_nodes : List EntryNode → EntryNodes
entry_nodes [] = no_entries
entry_nodes (first ∷ others) = entry first (entry_nodes others)

-- a numeral; one past 2^53 either way, which no text has, is the number at that end
abbrev pub numeral : ℤ → ℤ
numeral value = int_max (neg_ℤ (pos 9007199254740992)) (int_min (pos 9007199254740992) value)

abbrev pub expression_level : e.Expr-F EntryNode Node → Node
expression_level e.Nil = Nil
expression_level e.True = True
expression_level e.False = False
expression_level (e.Number value) = Number (numeral value)
expression_level (e.Str bytes line) = Str bytes line
expression_level (e.Name called) = Name called
expression_level (e.Index table key line) = Index table key line
expression_level (e.Member table called line) = Member table called line
expression_level (e.Call called args line) = Call called (nodes args) line
expression_level (e.MathCall called args line) = MathCall called (nodes args) line
expression_level (e.TableCall called args line) = TableCall called (nodes args) line
expression_level (e.Construct entries) = Construct (entry_nodes entries)
expression_level (e.Unary op of line) = Unary op of line
expression_level (e.Binary op left right line) = Binary op left right line

abbrev pub entry_level : e.Entry-F EntryNode Node → EntryNode
entry_level (e.Value of) = Value of
entry_level (e.Named called of) = Named called of
entry_level (e.Keyed key of line) = Keyed key of line

-- an expression
abbrev pub node_of : Expr → Node
node_of = expression.fold-Expr EntryNode Node entry_level expression_level

-- an item of a constructor
abbrev pub entry_node_of : Entry → EntryNode
entry_node_of = expression.fold-Entry EntryNode Node entry_level expression_level

-- a test with its block
abbrev pub ArmNode : Type 0
ArmNode = Node × BlockNode

-- statements one after the other
abbrev pub statements : List StatementNode → BlockNode
statements [] = finished
statements (first ∷ others) = first andthen statements others

abbrev pub last_arm : Option BlockNode → ArmNodes
last_arm None = no_else
last_arm (Some body) = else_do body

-- tests with their blocks, and the block of `else`
abbrev pub arms : List ArmNode → Option BlockNode → ArmNodes
arms [] otherwise = last_arm otherwise
arms (first ∷ others) otherwise = arm first.0 first.1 (arms others otherwise)

abbrev pub statement_level : s.LuaStatement-F StatementNode ArmNode BlockNode → StatementNode
statement_level (s.Local called of) = Local called (option_map node_of of)
statement_level (s.Assign called of) = Assign called (node_of of)
statement_level (s.SetIndex table key of line) = SetIndex (node_of table) (node_of key) (node_of of) line
statement_level (s.SetMember table called of line) = SetMember (node_of table) called (node_of of) line
statement_level (s.Call call) = CallAlone (node_of call)
statement_level (s.If tests otherwise) = If (arms tests otherwise)
statement_level (s.While test body) = While (node_of test) body
statement_level (s.Repeat body test) = Repeat body (node_of test)
statement_level (s.For called first last by body line) = For called (node_of first) (node_of last) (option_map node_of by) body line
statement_level (s.Do body) = Do body
statement_level s.Break = Break
statement_level (s.Return of) = Return (option_map node_of of)

abbrev pub arm_level : s.Arm-F StatementNode ArmNode BlockNode → ArmNode
arm_level a = (node_of a.test, a.body)

abbrev pub block_level : s.LuaBlock-F StatementNode ArmNode BlockNode → BlockNode
block_level b = statements b.statements

-- a statement
abbrev pub statement_of : LuaStatement → StatementNode
statement_of = block.fold-LuaStatement StatementNode ArmNode BlockNode statement_level arm_level block_level

abbrev pub arm_of : Arm → ArmNode
arm_of = block.fold-Arm StatementNode ArmNode BlockNode statement_level arm_level block_level

-- a block
abbrev pub block_of : LuaBlock → BlockNode
block_of = block.fold-LuaBlock StatementNode ArmNode BlockNode statement_level arm_level block_level

-- what a chunk defines and assigns
pub data ItemNode : Type 0 where
  Function : (called : List ℕ) → (params : List (List ℕ)) → (body : BlockNode) → ItemNode
  Set : (called : List ℕ) → (of : Node) → ItemNode

abbrev pub item_of : Item → ItemNode
item_of (item.Function called params body) = Function called params (block_of body)
item_of (item.Assign called of) = Set called (node_of of)

-- a chunk, as it is told of here
abbrev pub items_of : List Item → List ItemNode
items_of [] = []
items_of (first ∷ others) = item_of first ∷ items_of others
