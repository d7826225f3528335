use Rattle.std.proofs.Common.{rules}
use Rattle.lua_frames.proofs.Reaching.{at_once}
use Rattle.lua_frames.proofs.machine.Machine.evaluate.Goals as goal

pub returns-in_err-pay : goal.returns-in_err-pay
returns-in_err-pay c = at_once (search rules)
