use Rattle.std.proofs.Common.{rules}
use Rattle.lua_frames.proofs.Reaching.{at_once}
use Rattle.lua_frames.proofs.machine.Machine.math.Goals as goal

pub returns-in_err-pay-in-Some : goal.returns-in_err-pay-in-Some
returns-in_err-pay-in-Some c = at_once (search rules)
