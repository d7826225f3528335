-- Small texts and what they are, computed.
use Rattle.std.proofs.Common.{◌≡◌, ◌++◌, [], ◌∷◌, Ok, Err, refl}
use Rattle.std.specs.Prelude.{codes, pos, None, Some}
use Rattle.lua_tree.specs.declared.tree.Item.TheVariants as item
use Rattle.lua_tree.specs.declared.tree.Expr.TheVariants as e
use Rattle.lua_tree.specs.declared.tree.Entry.TheVariants as entry
use Rattle.lua_tree.specs.declared.tree.BinaryOp.TheVariants as binary
use Rattle.lua_tree.specs.declared.tree.UnaryOp.TheVariants as unary
use Rattle.lua_tree.specs.declared.tree.LuaStatement.TheVariants as statement
use Rattle.lua_tree.specs.declared.tree.LuaBlock.{roll-LuaBlock}
use Rattle.lua_tree.specs.declared.tree.Arm.{roll-Arm}
use Rattle.lua_syntax.specs.Refusal.{Syntax}
use Rattle.lua_grammar.specs.Table.{row}
use Rattle.lua_syntax.specs.Building.{act, act_expression, act_list, act_statement, act_block, act_item}
use Rattle.lua_tokens.specs.Tokens.{word_kind, numeral_kind, quoted, word_piece, numeral_piece, string_piece, comment_piece, sign_piece, piece, tokens}
use Rattle.lua_syntax.specs.Reading.{step, run, tree_of}

-- the half of seven, rounded down
half : tree_of (codes "function f() return math.floor(7 / 2) end") ≡ Ok (item.Function (codes "f") [] (roll-LuaBlock (record { statements = statement.Return (Some (e.MathCall (codes "floor") (e.Binary binary.Over (e.Number (pos 7)) (e.Number (pos 2)) 1 ∷ []) 1)) ∷ [] })) ∷ [])
unfolding row act act_expression act_list act_statement act_block act_item word_kind numeral_kind quoted word_piece numeral_piece string_piece comment_piece sign_piece piece tokens step run tree_of
half = refl

-- `..` groups to the right
join_groups_to_the_right : tree_of (codes "x = a..b..c") ≡ Ok (item.Assign (codes "x") (e.Binary binary.Join (e.Name (codes "a")) (e.Binary binary.Join (e.Name (codes "b")) (e.Name (codes "c")) 1) 1) ∷ [])
unfolding row act act_expression act_list act_statement act_block act_item word_kind numeral_kind quoted word_piece numeral_piece string_piece comment_piece sign_piece piece tokens step run tree_of
join_groups_to_the_right = refl

-- `-` groups to the left, and binds weaker than `*`
minus_groups_to_the_left : tree_of (codes "x = a-b-c*d") ≡ Ok (item.Assign (codes "x") (e.Binary binary.Minus (e.Binary binary.Minus (e.Name (codes "a")) (e.Name (codes "b")) 1) (e.Binary binary.Times (e.Name (codes "c")) (e.Name (codes "d")) 1) 1) ∷ [])
unfolding row act act_expression act_list act_statement act_block act_item word_kind numeral_kind quoted word_piece numeral_piece string_piece comment_piece sign_piece piece tokens step run tree_of
minus_groups_to_the_left = refl

-- `not` binds tighter than `==`
not_binds_tighter : tree_of (codes "x = not a == b") ≡ Ok (item.Assign (codes "x") (e.Binary binary.Equal (e.Unary unary.Not (e.Name (codes "a")) 1) (e.Name (codes "b")) 1) ∷ [])
unfolding row act act_expression act_list act_statement act_block act_item word_kind numeral_kind quoted word_piece numeral_piece string_piece comment_piece sign_piece piece tokens step run tree_of
not_binds_tighter = refl

-- the three items of a constructor, with their lines
items : tree_of (codes "x = {a = 1, [b] = 2; c,}") ≡ Ok (item.Assign (codes "x") (e.Construct (entry.Named (codes "a") (e.Number (pos 1)) ∷ entry.Keyed (e.Name (codes "b")) (e.Number (pos 2)) 1 ∷ entry.Value (e.Name (codes "c")) ∷ [])) ∷ [])
unfolding row act act_expression act_list act_statement act_block act_item word_kind numeral_kind quoted word_piece numeral_piece string_piece comment_piece sign_piece piece tokens step run tree_of
items = refl

-- an escape stands for its byte
an_escape : tree_of (codes "x = 'a" ++ 92 ∷ 110 ∷ codes "'") ≡ Ok (item.Assign (codes "x") (e.Str (97 ∷ 10 ∷ []) 1) ∷ [])
unfolding row act act_expression act_list act_statement act_block act_item word_kind numeral_kind quoted word_piece numeral_piece string_piece comment_piece sign_piece piece tokens step run tree_of
an_escape = refl

-- a library is a plain name where no call follows
a_library_alone : tree_of (codes "x = math.pi") ≡ Ok (item.Assign (codes "x") (e.Member (e.Name (codes "math")) (codes "pi") 1) ∷ [])
unfolding row act act_expression act_list act_statement act_block act_item word_kind numeral_kind quoted word_piece numeral_piece string_piece comment_piece sign_piece piece tokens step run tree_of
a_library_alone = refl

-- a text that ends too early
ends_too_early : tree_of (codes "x = 1 +") ≡ Err (Syntax 1)
unfolding row act act_expression act_list act_statement act_block act_item word_kind numeral_kind quoted word_piece numeral_piece string_piece comment_piece sign_piece piece tokens step run tree_of
ends_too_early = refl

-- half a definition
half_a_function : tree_of (codes "function f(") ≡ Err (Syntax 1)
unfolding row act act_expression act_list act_statement act_block act_item word_kind numeral_kind quoted word_piece numeral_piece string_piece comment_piece sign_piece piece tokens step run tree_of
half_a_function = refl

-- a word that is reserved and begins nothing
no_goto : tree_of (codes "function f() goto a end") ≡ Err (Syntax 1)
unfolding row act act_expression act_list act_statement act_block act_item word_kind numeral_kind quoted word_piece numeral_piece string_piece comment_piece sign_piece piece tokens step run tree_of
no_goto = refl

-- a local outside a function, on the second line
no_local_outside : tree_of (codes "x = 1" ++ 10 ∷ codes "local y = 1") ≡ Err (Syntax 2)
unfolding row act act_expression act_list act_statement act_block act_item word_kind numeral_kind quoted word_piece numeral_piece string_piece comment_piece sign_piece piece tokens step run tree_of
no_local_outside = refl

-- an expression in parentheses has no members
no_member_of_parentheses : tree_of (codes "x = (a).b") ≡ Err (Syntax 1)
unfolding row act act_expression act_list act_statement act_block act_item word_kind numeral_kind quoted word_piece numeral_piece string_piece comment_piece sign_piece piece tokens step run tree_of
no_member_of_parentheses = refl

-- statements without blocks; a line is that of the sign
plain_statements : tree_of (codes "function f() local a local b = 1" ++ 10 ∷ (codes "c = 2 t[1]" ++ 10 ∷ (codes "= 3 t." ++ 10 ∷ (codes "x = 4 g()[5] = 6 h(7, 8) return end")))) ≡ Ok (item.Function (codes "f") [] (roll-LuaBlock (record { statements = statement.Local (codes "a") None ∷ statement.Local (codes "b") (Some (e.Number (pos 1))) ∷ statement.Assign (codes "c") (e.Number (pos 2)) ∷ statement.SetIndex (e.Name (codes "t")) (e.Number (pos 1)) (e.Number (pos 3)) 2 ∷ statement.SetMember (e.Name (codes "t")) (codes "x") (e.Number (pos 4)) 3 ∷ statement.SetIndex (e.Call (codes "g") [] 4) (e.Number (pos 5)) (e.Number (pos 6)) 4 ∷ statement.Call (e.Call (codes "h") (e.Number (pos 7) ∷ e.Number (pos 8) ∷ []) 4) ∷ statement.Return None ∷ [] })) ∷ [])
unfolding row act act_expression act_list act_statement act_block act_item word_kind numeral_kind quoted word_piece numeral_piece string_piece comment_piece sign_piece piece tokens step run tree_of
plain_statements = refl

-- an `elseif` is one more arm of the same choice
choices : tree_of (codes "function f() if a then x = 1 elseif b then x = 2 else x = 3 end if c then end end") ≡ Ok (item.Function (codes "f") [] (roll-LuaBlock (record { statements = statement.If (roll-Arm (record { test = e.Name (codes "a"); body = (roll-LuaBlock (record { statements = statement.Assign (codes "x") (e.Number (pos 1)) ∷ [] })) }) ∷ roll-Arm (record { test = e.Name (codes "b"); body = (roll-LuaBlock (record { statements = statement.Assign (codes "x") (e.Number (pos 2)) ∷ [] })) }) ∷ []) (Some (roll-LuaBlock (record { statements = statement.Assign (codes "x") (e.Number (pos 3)) ∷ [] }))) ∷ statement.If (roll-Arm (record { test = e.Name (codes "c"); body = (roll-LuaBlock (record { statements = [] })) }) ∷ []) None ∷ [] })) ∷ [])
unfolding row act act_expression act_list act_statement act_block act_item word_kind numeral_kind quoted word_piece numeral_piece string_piece comment_piece sign_piece piece tokens step run tree_of
choices = refl

-- loops, and a block by itself
loops : tree_of (codes "function f() while a do break end repeat x = 1 until b" ++ 10 ∷ (codes "for i = 1, 2 do end for i = 3, 4, 5 do break end do x = 6 end end")) ≡ Ok (item.Function (codes "f") [] (roll-LuaBlock (record { statements = statement.While (e.Name (codes "a")) (roll-LuaBlock (record { statements = statement.Break ∷ [] })) ∷ statement.Repeat (roll-LuaBlock (record { statements = statement.Assign (codes "x") (e.Number (pos 1)) ∷ [] })) (e.Name (codes "b")) ∷ statement.For (codes "i") (e.Number (pos 1)) (e.Number (pos 2)) None (roll-LuaBlock (record { statements = [] })) 2 ∷ statement.For (codes "i") (e.Number (pos 3)) (e.Number (pos 4)) (Some (e.Number (pos 5))) (roll-LuaBlock (record { statements = statement.Break ∷ [] })) 2 ∷ statement.Do (roll-LuaBlock (record { statements = statement.Assign (codes "x") (e.Number (pos 6)) ∷ [] })) ∷ [] })) ∷ [])
unfolding row act act_expression act_list act_statement act_block act_item word_kind numeral_kind quoted word_piece numeral_piece string_piece comment_piece sign_piece piece tokens step run tree_of
loops = refl

-- each sign is its operator
comparisons : tree_of (codes "x = a<b>c<=d>=e~=f==g") ≡ Ok (item.Assign (codes "x") (e.Binary binary.Equal (e.Binary binary.NotEqual (e.Binary binary.GreaterEqual (e.Binary binary.LessEqual (e.Binary binary.Greater (e.Binary binary.Less (e.Name (codes "a")) (e.Name (codes "b")) 1) (e.Name (codes "c")) 1) (e.Name (codes "d")) 1) (e.Name (codes "e")) 1) (e.Name (codes "f")) 1) (e.Name (codes "g")) 1) ∷ [])
unfolding row act act_expression act_list act_statement act_block act_item word_kind numeral_kind quoted word_piece numeral_piece string_piece comment_piece sign_piece piece tokens step run tree_of
comparisons = refl

-- the other signs and words
arithmetic : tree_of (codes "x = a or b and - c % # d / e") ≡ Ok (item.Assign (codes "x") (e.Binary binary.Or (e.Name (codes "a")) (e.Binary binary.And (e.Name (codes "b")) (e.Binary binary.Over (e.Binary binary.Mod (e.Unary unary.Minus (e.Name (codes "c")) 1) (e.Unary unary.Length (e.Name (codes "d")) 1) 1) (e.Name (codes "e")) 1) 1) 1) ∷ [])
unfolding row act act_expression act_list act_statement act_block act_item word_kind numeral_kind quoted word_piece numeral_piece string_piece comment_piece sign_piece piece tokens step run tree_of
arithmetic = refl

-- an index is named by its bracket, a member by its dot, a call by its name
suffixes : tree_of (codes "x = t" ++ 10 ∷ (codes "[1]" ++ 10 ∷ (codes ".y z = table" ++ 10 ∷ codes ".remove(t)"))) ≡ Ok (item.Assign (codes "x") (e.Member (e.Index (e.Name (codes "t")) (e.Number (pos 1)) 2) (codes "y") 3) ∷ item.Assign (codes "z") (e.TableCall (codes "remove") (e.Name (codes "t") ∷ []) 4) ∷ [])
unfolding row act act_expression act_list act_statement act_block act_item word_kind numeral_kind quoted word_piece numeral_piece string_piece comment_piece sign_piece piece tokens step run tree_of
suffixes = refl
