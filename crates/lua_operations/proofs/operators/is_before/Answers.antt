use Rattle.std.proofs.Common.{◌∙◌, sym, arith}
use Rattle.lua_operations.proofs.Comparing.{whole_front}
use Rattle.lua_operations.proofs.operators.is_before.Goals as goal

pub returns : goal.returns
returns c = sym (c.loop-at.invariant ∙ whole_front c.args.a.now c.args.b.now c.loop-at.at (omega arith) (omega arith))
