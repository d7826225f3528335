-- The tree as plain data: numbers, bytes and pairs. A list is its elements, each paired with the rest; a form is its
-- number, paired with the list of its parts. An expression in a box is a list of one.
use Rattle.std.specs.Prelude.{ℕ, ℤ, List, [], ◌∷◌, Option, Some, None}
use Rattle.lua_tree.specs.declared.tree.Expr.{Expr, Nil, True, False, Number, Str, Name, Index', Member', Call', MathCall', TableCall', Construct', Unary', Binary', Row_of-Expr, end_of-Expr, more_of-Expr, Row_of-Entry, end_of-Entry, more_of-Entry}
use Rattle.lua_tree.specs.declared.tree.Entry.{Entry, Value, Named, Keyed}
use Rattle.lua_tree.specs.declared.tree.LuaStatement.{LuaStatement, Local, Assign, SetIndex, SetMember, Call, If', While', Repeat', For', Do', Break, Return, Row_of-LuaStatement, end_of-LuaStatement, more_of-LuaStatement, Row_of-Arm, end_of-Arm, more_of-Arm, Held-LuaStatement-If-1, None', Some'}
use Rattle.lua_tree.specs.declared.tree.LuaBlock.{out-LuaBlock}
use Rattle.lua_tree.specs.declared.tree.Item.{Item}
use Rattle.lua_tree.specs.declared.tree.Item.TheVariants as item
use Rattle.lua_tree.specs.declared.tree.UnaryOp.{UnaryOp}
use Rattle.lua_tree.specs.declared.tree.UnaryOp.TheVariants as unary
use Rattle.lua_tree.specs.declared.tree.BinaryOp.{BinaryOp}
use Rattle.lua_tree.specs.declared.tree.BinaryOp.TheVariants as binary

pub data Plain : Type 0 where
  Empty : Plain
  Natural : ℕ → Plain
  Whole : ℤ → Plain
  Bytes : List ℕ → Plain
  Pair : Plain → Plain → Plain

abbrev pub plain_unary : UnaryOp → ℕ
plain_unary unary.Not = 0
plain_unary unary.Length = 1
plain_unary unary.Minus = 2

abbrev pub plain_binary : BinaryOp → ℕ
plain_binary binary.Or = 0
plain_binary binary.And = 1
plain_binary binary.Less = 2
plain_binary binary.Greater = 3
plain_binary binary.LessEqual = 4
plain_binary binary.GreaterEqual = 5
plain_binary binary.NotEqual = 6
plain_binary binary.Equal = 7
plain_binary binary.Join = 8
plain_binary binary.Plus = 9
plain_binary binary.Minus = 10
plain_binary binary.Times = 11
plain_binary binary.Over = 12
plain_binary binary.Mod = 13

abbrev pub form : ℕ → Plain → Plain
form number parts = Pair (Natural number) parts

abbrev pub one : Plain → Plain
one a = Pair a Empty

abbrev pub two : Plain → Plain → Plain
two a b = Pair a (one b)

abbrev pub three : Plain → Plain → Plain → Plain
three a b c = Pair a (two b c)

abbrev pub four : Plain → Plain → Plain → Plain → Plain
four a b c d = Pair a (three b c d)

abbrev mutual
  pub plain_expr : Expr → Plain
  plain_expr Nil = form 0 Empty
  plain_expr True = form 1 Empty
  plain_expr False = form 2 Empty
  plain_expr (Number value) = form 3 (one (Whole value))
  plain_expr (Str text line) = form 4 (two (Bytes text) (Natural line))
  plain_expr (Name name) = form 5 (one (Bytes name))
  plain_expr (Index' p table q key line) = form 6 (three (plain_exprs table) (plain_exprs key) (Natural line))
  plain_expr (Member' p table name line) = form 7 (three (plain_exprs table) (Bytes name) (Natural line))
  plain_expr (Call' name shape args line) = form 8 (three (Bytes name) (plain_exprs args) (Natural line))
  plain_expr (MathCall' name shape args line) = form 9 (three (Bytes name) (plain_exprs args) (Natural line))
  plain_expr (TableCall' name shape args line) = form 10 (three (Bytes name) (plain_exprs args) (Natural line))
  plain_expr (Construct' shape entries) = form 11 (one (plain_entries entries))
  plain_expr (Unary' op p operand line) = form 12 (three (Natural (plain_unary op)) (plain_exprs operand) (Natural line))
  plain_expr (Binary' op p left q right line) = form 13 (four (Natural (plain_binary op)) (plain_exprs left) (plain_exprs right) (Natural line))

  pub plain_exprs : {m : _} → Row_of-Expr m → Plain
  plain_exprs end_of-Expr = Empty
  plain_exprs (more_of-Expr first rest) = Pair (plain_expr first) (plain_exprs rest)

  pub plain_entry : Entry → Plain
  plain_entry (Value value) = form 0 (one (plain_expr value))
  plain_entry (Named name value) = form 1 (two (Bytes name) (plain_expr value))
  plain_entry (Keyed key value line) = form 2 (three (plain_expr key) (plain_expr value) (Natural line))

  pub plain_entries : {m : _} → Row_of-Entry m → Plain
  plain_entries end_of-Entry = Empty
  plain_entries (more_of-Entry first rest) = Pair (plain_entry first) (plain_entries rest)

abbrev pub plain_option : Option Expr → Plain
plain_option None = Empty
plain_option (Some value) = one (plain_expr value)

abbrev mutual
  pub plain_statement : LuaStatement → Plain
  plain_statement (Local name value) = form 0 (two (Bytes name) (plain_option value))
  plain_statement (Assign name value) = form 1 (two (Bytes name) (plain_expr value))
  plain_statement (SetIndex table key value line) = form 2 (four (plain_expr table) (plain_expr key) (plain_expr value) (Natural line))
  plain_statement (SetMember table name value line) = form 3 (four (plain_expr table) (Bytes name) (plain_expr value) (Natural line))
  plain_statement (Call call) = form 4 (one (plain_expr call))
  plain_statement (If' shape arms otherwise) = form 5 (two (plain_arms arms) (plain_otherwise otherwise))
  plain_statement (While' test shape statements) = form 6 (two (plain_expr test) (plain_statements statements))
  plain_statement (Repeat' shape statements test) = form 7 (two (plain_statements statements) (plain_expr test))
  plain_statement (For' name first last step shape statements line) = form 8 (Pair (Bytes name) (Pair (plain_expr first) (four (plain_expr last) (plain_option step) (plain_statements statements) (Natural line))))
  plain_statement (Do' shape statements) = form 9 (one (plain_statements statements))
  plain_statement Break = form 10 Empty
  plain_statement (Return value) = form 11 (one (plain_option value))

  pub plain_statements : {m : _} → Row_of-LuaStatement m → Plain
  plain_statements end_of-LuaStatement = Empty
  plain_statements (more_of-LuaStatement first rest) = Pair (plain_statement first) (plain_statements rest)

  pub plain_arms : {m : _} → Row_of-Arm m → Plain
  plain_arms end_of-Arm = Empty
  plain_arms (more_of-Arm test shape statements rest) = Pair (two (plain_expr test) (plain_statements statements)) (plain_arms rest)

  pub plain_otherwise : Held-LuaStatement-If-1 → Plain
  plain_otherwise None' = Empty
  plain_otherwise (Some' shape statements) = one (plain_statements statements)

abbrev pub plain_block : List LuaStatement → Plain
plain_block [] = Empty
plain_block (first ∷ rest) = Pair (plain_statement first) (plain_block rest)

abbrev pub plain_names : List (List ℕ) → Plain
plain_names [] = Empty
plain_names (name ∷ names) = Pair (Bytes name) (plain_names names)

abbrev pub plain_item : Item → Plain
plain_item (item.Function name params body) = form 0 (three (Bytes name) (plain_names params) (plain_block (out-LuaBlock body).statements))
plain_item (item.Assign name value) = form 1 (two (Bytes name) (plain_expr value))

-- the items of a chunk
abbrev pub plain_items : List Item → Plain
plain_items [] = Empty
plain_items (item ∷ items) = Pair (plain_item item) (plain_items items)
