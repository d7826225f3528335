use Rattle.lua_frames.proofs.Arguments.{unknown_unpaid}
use Rattle.lua_frames.proofs.machine.Machine.unknown_value.Goals as goal

pub returns-in-Err : goal.returns-in-Err
returns-in-Err c = unknown_unpaid c.args.line c.args.self.now c.pay.new.self c.in-Err.why c.in-Err.ensures
