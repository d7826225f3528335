use Rattle.std.proofs.Common.{Some}
use Rattle.lua_machine.specs.Tree as t
use Rattle.lua_machine.specs.Tree.{node_of}
use Rattle.lua_frames.specs.Executing.{awaited, execution}
use Rattle.lua_frames.specs.Frames.{waits_in}
use Rattle.lua_frames.specs.Machines.{store_in}
use Rattle.lua_frames.specs.declared.frame.Frame.TheVariants as f
use Rattle.lua_frames.proofs.Execution.{begins_local, local_left}
use Rattle.lua_frames.proofs.Hanging.{halted_behind, out_of_memory, waits_from}
use Rattle.lua_frames.proofs.machine.Machine.do_local.Goals as goal

pub returns-in-Ok : goal.returns-in-Ok
returns-in-Ok c = local_left c.args.name.now (node_of c.args.of.now) c.args.self.now c.paid_value.new.self c.declare.new.self c.in-Given.ensures c.in-Ok.ensures

pub returns-in-Err : goal.returns-in-Err
returns-in-Err c = out_of_memory (execution (t.Local c.args.name.now (Some (node_of c.args.of.now))) c.args.self.now) c.paid_value.new.self

pub returns-in-Waits : goal.returns-in-Waits
returns-in-Waits c =
    let m = c.args.self.now in
    let node = node_of c.args.of.now in
    waits_from (execution (t.Local c.args.name.now (Some node)) m) (awaited (f.Declares c.args.name) node m) (waits_in (store_in m)) m c.paid_value.new.self (begins_local c.args.name.now node m) c.in-Waits.ensures

pub returns-in-Stopped : goal.returns-in-Stopped
returns-in-Stopped c =
    let m = c.args.self.now in
    let node = node_of c.args.of.now in
    halted_behind (execution (t.Local c.args.name.now (Some node)) m) (awaited (f.Declares c.args.name) node m) c.paid_value.new.self (begins_local c.args.name.now node m) c.in-Stopped.ensures
