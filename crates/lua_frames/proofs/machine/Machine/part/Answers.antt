use Rattle.std.proofs.Common.{rules}
use Rattle.lua_frames.proofs.Reaching.{at_once}
use Rattle.lua_frames.proofs.machine.Machine.part.Goals as goal

pub returns-in_err-take_back-in-Some : goal.returns-in_err-take_back-in-Some
returns-in_err-take_back-in-Some c = at_once (search rules)

pub returns-in-None : goal.returns-in-None
returns-in-None c = at_once tt
