-- What small forms open, computed over their derivations.
use Rattle.std.proofs.Common.{◌≡◌, ℕ, List, [], ◌∷◌, refl, codes, pos}
use Rattle.std.specs.Prelude.{Some, None}
use Rattle.lua_tokens.specs.declared.kind.Kind.{Kind}
use Rattle.lua_tokens.specs.declared.kind.Kind.TheVariants as k
use Rattle.lua_tokens.specs.declared.kind.Role.TheVariants.{Plain, Math}
use Rattle.lua_tokens.specs.declared.pieces.Token.{Token}
use Rattle.lua_tree.specs.declared.tree.UnaryOp.TheVariants as unary
use Rattle.lua_tree.specs.declared.tree.BinaryOp.TheVariants as binary
use Rattle.lua_tree.specs.declared.tree.Expr.TheVariants as e
use Rattle.lua_tree.specs.declared.tree.Item.TheVariants as item
use Rattle.lua_grammar.specs.Grammar as f
use Rattle.lua_grammar.specs.Grammar.{token, is, name, without, IsChunkOf}
use Rattle.lua_grammar.specs.Nesting.{opened_by}

-- a token of this kind, on the first line
abbrev a : Kind → Token
a kind = token kind 1 []

-- the end of the text
abbrev the_end : Token
the_end = a k.EndOfText

-- `x = 1 + 2 + 3`: both operators stay open to the end of the assignment
sum : IsChunkOf (token (k.Name Plain) 1 (codes "x") ∷ a k.Assign ∷ a (k.Number (pos 1)) ∷ a (k.Operator binary.Plus) ∷ a (k.Number (pos 2)) ∷ a (k.Operator binary.Plus) ∷ a (k.Number (pos 3)) ∷ the_end ∷ [])
    (item.Assign (codes "x") (e.Binary binary.Plus (e.Binary binary.Plus (e.Number (pos 1)) (e.Number (pos 2)) 1) (e.Number (pos 3)) 1) ∷ [])
sum = f.assignment name is
    (f.expression (f.number is) (f.operation refl refl (f.expression (f.number is) (f.no_more (without refl))) (f.operation refl refl (f.expression (f.number is) (f.no_more (without refl))) (f.no_more (without refl)))))
    (f.absent (without refl)) (f.no_items is)

sum_opens : opened_by sum ≡ None ∷ None ∷ None ∷ Some 1 ∷ None ∷ Some 2 ∷ None ∷ None ∷ []
unfolding sum
sum_opens = refl

-- `x = math.floor(1 + 2, - 3)`: the dot and the call are open, and each argument closes what it opened
floor : IsChunkOf (token (k.Name Plain) 1 (codes "x") ∷ a k.Assign ∷ token (k.Name Math) 1 (codes "math") ∷ a k.Dot ∷ token (k.Name Plain) 1 (codes "floor") ∷ a k.LeftParen ∷ a (k.Number (pos 1)) ∷ a (k.Operator binary.Plus) ∷ a (k.Number (pos 2)) ∷ a k.Comma ∷ a k.Minus ∷ a (k.Number (pos 3)) ∷ a k.RightParen ∷ the_end ∷ [])
    (item.Assign (codes "x") (e.MathCall (codes "floor") (e.Binary binary.Plus (e.Number (pos 1)) (e.Number (pos 2)) 1 ∷ e.Unary unary.Minus (e.Number (pos 3)) 1 ∷ []) 1) ∷ [])
floor = f.assignment name is
    (f.expression (f.prefix (f.library refl (f.librarys (f.math_call is
    (f.arguments (f.expression (f.number is) (f.operation refl refl (f.expression (f.number is) (f.no_more (without refl))) (f.no_more (without refl))))
    (f.another is (f.expression (f.minus (f.number is)) (f.no_more (without refl))) (f.last_argument is)))))) (f.none (without refl))) (f.no_more (without refl)))
    (f.absent (without refl)) (f.no_items is)

floor_opens : opened_by floor ≡ None ∷ None ∷ None ∷ Some 1 ∷ None ∷ Some 2 ∷ None ∷ Some 3 ∷ None ∷ None ∷ Some 3 ∷ None ∷ None ∷ None ∷ []
unfolding floor
floor_opens = refl
