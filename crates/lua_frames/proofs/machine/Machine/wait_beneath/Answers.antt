use Rattle.lua_frames.proofs.Hanging.{out_of_memory, waits_on}
use Rattle.lua_frames.proofs.machine.Machine.wait_beneath.Goals as goal

pub returns-in-Ok : goal.returns-in-Ok
returns-in-Ok c = λ from base before waits. waits_on from base c.args.frame before c.args.self.now c.push_frame.new.frames c.in-Ok.ensures waits

pub returns-in-Err : goal.returns-in-Err
returns-in-Err c = λ from base before waits elsewhere. out_of_memory elsewhere c.args.self.now
