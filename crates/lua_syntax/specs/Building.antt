-- What is made of the parts that were read: the actions of the grammar, over stacks of parts, one for each sort. Most
-- take the newest. So that each action is defined everywhere, an empty stack counts as `nil`, an empty name or an empty list.
use Rattle.std.specs.Prelude.{ℕ, List, [], ◌∷◌, ◌++◌, Some, None}
use Rattle.lua_tree.specs.declared.tree.Item.TheVariants as item
use Rattle.lua_tree.specs.declared.tree.Expr.{Expr}
use Rattle.lua_tree.specs.declared.tree.Expr.TheVariants as e
use Rattle.lua_tree.specs.declared.tree.Entry.{Entry}
use Rattle.lua_tree.specs.declared.tree.Entry.TheVariants as entry
use Rattle.lua_tree.specs.declared.tree.LuaStatement.{LuaStatement}
use Rattle.lua_tree.specs.declared.tree.LuaStatement.TheVariants as statement
use Rattle.lua_tree.specs.declared.tree.LuaBlock.{LuaBlock, roll-LuaBlock}
use Rattle.lua_tree.specs.declared.tree.Arm.{roll-Arm}
use Rattle.lua_grammar.specs.declared.symbol.Action.{Action}
use Rattle.lua_grammar.specs.declared.symbol.Action.TheVariants as a
use Rattle.lua_syntax.specs.declared.building.Building.{Building}
use Rattle.lua_syntax.specs.Stacks.{top, below}

-- nothing was read yet
abbrev pub nothing_read : Building
nothing_read = record { items = []; params = []; texts = []; exprs = []; lists = []; entries = []; blocks = []; arms = []; opened = 0 }

-- ---- the newest parts

abbrev pub text : Building → List ℕ
text b = top [] b.texts

abbrev pub expression : Building → Expr
expression b = top e.Nil b.exprs

-- the expression below the newest
abbrev pub second : Building → Expr
second b = top e.Nil (below b.exprs)

-- the one below that
abbrev pub third : Building → Expr
third b = top e.Nil (below (below b.exprs))

abbrev pub block : Building → LuaBlock
block b = roll-LuaBlock (record { statements = top [] b.blocks })

-- ---- where a new part goes

-- on top of the expressions
abbrev pub with_expression : Expr → Building → Building
with_expression new b = record b { exprs = new ∷ b.exprs }

-- at the end of the list that is being read
abbrev pub at_end : {T : Type 0} → T → List (List T) → List (List T)
at_end new lists = (top [] lists ++ new ∷ []) ∷ below lists

abbrev pub with_statement : LuaStatement → Building → Building
with_statement new b = record b { blocks = at_end new b.blocks }

abbrev pub with_entry : Entry → Building → Building
with_entry new b = record b { entries = at_end new b.entries }

-- without the newest
abbrev pub less_text : Building → Building
less_text b = record b { texts = below b.texts }

abbrev pub less_expression : Building → Building
less_expression b = record b { exprs = below b.exprs }

abbrev pub less_block : Building → Building
less_block b = record b { blocks = below b.blocks }

abbrev pub less_list : Building → Building
less_list b = record b { lists = below b.lists }

abbrev pub less_arms : Building → Building
less_arms b = record b { arms = below b.arms }

-- ---- expressions

-- a library call takes the place of the library's name, which was read as an expression
unfoldable pub act_expression : Action → Building → Building
act_expression a.Nil b = with_expression e.Nil b
act_expression a.True b = with_expression e.True b
act_expression a.False b = with_expression e.False b
act_expression (a.Number value) b = with_expression (e.Number value) b
act_expression (a.Str line) b = with_expression (e.Str (text b) line) (less_text b)
act_expression a.Name b = with_expression (e.Name (text b)) (less_text b)
act_expression (a.Index line) b = with_expression (e.Index (second b) (expression b) line) (less_expression (less_expression b))
act_expression (a.Member line) b = with_expression (e.Member (expression b) (text b) line) (less_text (less_expression b))
act_expression (a.Call line) b = with_expression (e.Call (text b) (top [] b.lists) line) (less_list (less_text b))
act_expression (a.MathCall line) b = with_expression (e.MathCall (text b) (top [] b.lists) line) (less_list (less_text (less_expression b)))
act_expression (a.TableCall line) b = with_expression (e.TableCall (text b) (top [] b.lists) line) (less_list (less_text (less_expression b)))
act_expression a.Construct b = with_expression (e.Construct (top [] b.entries)) (record b { entries = below b.entries })
act_expression (a.Unary op line) b = with_expression (e.Unary op (expression b) line) (less_expression b)
act_expression (a.Binary op line) b = with_expression (e.Binary op (second b) (expression b) line) (less_expression (less_expression b))
act_expression _ b = b

-- ---- arguments and items of a constructor

unfoldable pub act_list : Action → Building → Building
act_list a.StartArguments b = record b { lists = [] ∷ b.lists }
act_list a.AddArgument b = less_expression (record b { lists = at_end (expression b) b.lists })
act_list a.StartEntries b = record b { entries = [] ∷ b.entries }
act_list a.AddValue b = less_expression (with_entry (entry.Value (expression b)) b)
act_list a.AddName b = less_text (with_entry (entry.Value (e.Name (text b))) b)
act_list a.AddNamed b = less_text (less_expression (with_entry (entry.Named (text b) (expression b)) b))
act_list (a.AddKeyed line) b = less_expression (less_expression (with_entry (entry.Keyed (second b) (expression b) line) b))
act_list _ b = b

-- ---- statements without blocks

unfoldable pub act_statement : Action → Building → Building
act_statement a.LocalWith b = with_statement (statement.Local (text b) (Some (expression b))) (less_text (less_expression b))
act_statement a.LocalWithout b = with_statement (statement.Local (text b) None) (less_text b)
act_statement a.Assign b = with_statement (statement.Assign (text b) (expression b)) (less_text (less_expression b))
act_statement (a.SetIndex line) b = with_statement (statement.SetIndex (third b) (second b) (expression b) line) (less_expression (less_expression (less_expression b)))
act_statement (a.SetMember line) b = with_statement (statement.SetMember (second b) (text b) (expression b) line) (less_text (less_expression (less_expression b)))
act_statement a.CallStatement b = with_statement (statement.Call (expression b)) (less_expression b)
act_statement a.Break b = with_statement statement.Break b
act_statement a.ReturnWith b = with_statement (statement.Return (Some (expression b))) (less_expression b)
act_statement a.ReturnWithout b = with_statement (statement.Return None) b
act_statement _ b = b

-- ---- statements with blocks

unfoldable pub act_block : Action → Building → Building
act_block a.StartBlock b = record b { blocks = [] ∷ b.blocks }
act_block a.StartArms b = record b { arms = [] ∷ b.arms }
act_block a.AddArm b = less_expression (less_block (record b { arms = at_end (roll-Arm (record { test = expression b; body = block b })) b.arms }))
act_block a.If b = with_statement (statement.If (top [] b.arms) None) (less_arms b)
act_block a.IfElse b = with_statement (statement.If (top [] b.arms) (Some (block b))) (less_arms (less_block b))
act_block a.While b = with_statement (statement.While (expression b) (block b)) (less_expression (less_block b))
act_block a.Repeat b = with_statement (statement.Repeat (block b) (expression b)) (less_expression (less_block b))
act_block (a.For line) b = with_statement (statement.For (text b) (second b) (expression b) None (block b) line) (less_text (less_expression (less_expression (less_block b))))
act_block (a.ForStep line) b = with_statement (statement.For (text b) (third b) (second b) (Some (expression b)) (block b) line) (less_text (less_expression (less_expression (less_expression (less_block b)))))
act_block a.Do b = with_statement (statement.Do (block b)) (less_block b)
act_block _ b = b

-- ---- items of the chunk, and the count of what is open

unfoldable pub act_item : Action → Building → Building
act_item a.StartParameters b = record b { params = [] }
act_item a.AddParameter b = less_text (record b { params = b.params ++ text b ∷ [] })
act_item a.Function b = less_text (less_block (record b { params = []; items = b.items ++ item.Function (text b) b.params (block b) ∷ [] }))
act_item a.Assignment b = less_text (less_expression (record b { items = b.items ++ item.Assign (text b) (expression b) ∷ [] }))
act_item (a.Restore count) b = record b { opened = count }
act_item _ b = b

-- what an action makes of the parts: each action is of one of these sorts
unfoldable pub act : Action → Building → Building
act action b = act_item action (act_block action (act_statement action (act_list action (act_expression action b))))
