-- Several arguments are no quotient.
use Rattle.std.proofs.Common.{◌≡◌, refl, None}
use Rattle.lua_tree.specs.declared.tree.BinaryOp.TheVariants as op_of
use Rattle.lua_machine.specs.Tree as t
use Rattle.lua_machine.specs.Tree.{Node, Nodes, ◌and◌}
use Rattle.lua_machine.specs.Turn.{quotient_of}

pub several : (x y : Node) (more : Nodes) → None ≡ quotient_of (x and y and more)
several t.Nil y more = refl
several t.True y more = refl
several t.False y more = refl
several (t.Number v) y more = refl
several (t.Str bytes line) y more = refl
several (t.Name called) y more = refl
several (t.Index table key line) y more = refl
several (t.Member table called line) y more = refl
several (t.Call called args line) y more = refl
several (t.MathCall called args line) y more = refl
several (t.TableCall called args line) y more = refl
several (t.Construct _) y more = refl
several (t.Unary op of line) y more = refl
several (t.Binary op_of.Or left right line) y more = refl
several (t.Binary op_of.And left right line) y more = refl
several (t.Binary op_of.Less left right line) y more = refl
several (t.Binary op_of.Greater left right line) y more = refl
several (t.Binary op_of.LessEqual left right line) y more = refl
several (t.Binary op_of.GreaterEqual left right line) y more = refl
several (t.Binary op_of.NotEqual left right line) y more = refl
several (t.Binary op_of.Equal left right line) y more = refl
several (t.Binary op_of.Join left right line) y more = refl
several (t.Binary op_of.Plus left right line) y more = refl
several (t.Binary op_of.Minus left right line) y more = refl
several (t.Binary op_of.Times left right line) y more = refl
several (t.Binary op_of.Over left right line) y more = refl
several (t.Binary op_of.Mod left right line) y more = refl
