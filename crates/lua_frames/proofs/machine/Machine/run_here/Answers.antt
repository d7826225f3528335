use Rattle.lua_frames.specs.Executing.{block}
use Rattle.lua_frames.specs.Frames.{waits_in}
use Rattle.lua_frames.specs.Machines.{store_in, waiting}
use Rattle.lua_frames.specs.Parts.{block_in}
use Rattle.lua_frames.proofs.Placing.{came_halted, came_inside, came_left, came_out, came_with, no_memory}
use Rattle.lua_frames.proofs.machine.Machine.run_here.Goals as goal

pub returns-in-Goes : goal.returns-in-Goes
returns-in-Goes c =
    let m = record c.args.self.now { pending = c.clear.new.self } in
    came_left (block (block_in c.args.statements.now) m) m c.do_all.new.self c.in-Goes.ensures

pub returns-in-Breaks : goal.returns-in-Breaks
returns-in-Breaks c =
    let m = record c.args.self.now { pending = c.clear.new.self } in
    came_out (block (block_in c.args.statements.now) m) m c.do_all.new.self c.in-Breaks.ensures

pub returns-in-Returns : goal.returns-in-Returns
returns-in-Returns c =
    let m = record c.args.self.now { pending = c.clear.new.self } in
    came_with (block (block_in c.args.statements.now) m) m c.do_all.new.self c.in-Returns.ensures

pub returns-in-Ok : goal.returns-in-Ok
returns-in-Ok c =
    let m = record c.args.self.now { pending = c.clear.new.self } in
    came_inside (block (block_in c.args.statements.now) m) (waits_in (store_in m)) m c.do_all.new.self c.put_pending.new.self c.clear.ensures.items c.in-Waits.ensures c.in-Ok.ensures

pub returns-in-Err : goal.returns-in-Err
returns-in-Err c = no_memory _ _

pub returns-in-Stopped : goal.returns-in-Stopped
returns-in-Stopped c =
    let m = record c.args.self.now { pending = c.clear.new.self } in
    came_halted (block (block_in c.args.statements.now) m) (waiting m) m.calls c.do_all.new.self c.in-Stopped.ensures
