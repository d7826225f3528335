use Rattle.lua_machine.specs.Tree.{node_of, ◌and◌}
use Rattle.lua_state.specs.Store.{without}
use Rattle.lua_frames.specs.Frames.{making_of, waits_in}
use Rattle.lua_frames.specs.Machines.{frames_with, store_in}
use Rattle.lua_frames.specs.Parts.{nodes_in}
use Rattle.lua_frames.specs.Standing.{gathering}
use Rattle.lua_frames.proofs.Placing.{came_halted, came_inside, no_memory}
use Rattle.lua_frames.proofs.machine.Machine.pass_part.Goals as goal

pub returns-in-Given : goal.returns-in-Given
returns-in-Given c = (c.in-Given.ensures.keeps, (c.in-Given.ensures.value, c.in-Given.ensures.state, c.in-Given.ensures.put, c.in-Given.ensures.reaches))

pub returns-in-Ok : goal.returns-in-Ok
returns-in-Ok c =
    let m = record c.args.self.now { pending = c.clear.new.self } in
    came_inside (gathering (making_of c.args.making) c.args.count (node_of c.args.part.now and nodes_in c.args.others) m) (waits_in (without c.args.count (store_in m))) m c.part_value.new.self c.put_pending.new.self c.clear.ensures.items c.in-Waits.ensures c.in-Ok.ensures

pub returns-in-Err : goal.returns-in-Err
returns-in-Err c = no_memory _ _

pub returns-in-Stopped : goal.returns-in-Stopped
returns-in-Stopped c =
    let m = record c.args.self.now { pending = c.clear.new.self } in
    came_halted (gathering (making_of c.args.making) c.args.count (node_of c.args.part.now and nodes_in c.args.others) m) (frames_with m (without c.args.count (store_in m))) m.calls c.part_value.new.self c.in-Stopped.ensures
