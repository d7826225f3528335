use Rattle.lua_tokens.proofs.cutting.closing.Goals as goal
use Rattle.lua_tokens.proofs.Comments.{closing_never}

pub returns-clause-value : goal.returns-clause-value
returns-clause-value c = closing_never _ _ c.loop-at-test.false c.loop-at.invariant.0
