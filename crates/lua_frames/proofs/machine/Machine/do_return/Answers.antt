use Rattle.std.proofs.Common.{Some}
use Rattle.lua_machine.specs.Tree as t
use Rattle.lua_machine.specs.Tree.{node_of}
use Rattle.lua_frames.specs.Executing.{awaited, execution}
use Rattle.lua_frames.specs.Frames.{waits_in}
use Rattle.lua_frames.specs.Machines.{store_in}
use Rattle.lua_frames.specs.declared.frame.Frame.TheVariants as f
use Rattle.lua_frames.proofs.Execution.{begins_return, returned}
use Rattle.lua_frames.proofs.Hanging.{halted_behind, waits_from}
use Rattle.lua_frames.proofs.machine.Machine.do_return.Goals as goal

pub returns-in-Given : goal.returns-in-Given
returns-in-Given c = returned (node_of c.args.of.now) c.args.self.now c.paid_value.new.self c.in-Given.ensures

pub returns-in-Waits : goal.returns-in-Waits
returns-in-Waits c =
    let m = c.args.self.now in
    let node = node_of c.args.of.now in
    waits_from (execution (t.Return (Some node)) m) (awaited f.ReturnsIt node m) (waits_in (store_in m)) m c.paid_value.new.self (begins_return node m) c.in-Waits.ensures

pub returns-in-Stopped : goal.returns-in-Stopped
returns-in-Stopped c =
    let m = c.args.self.now in
    let node = node_of c.args.of.now in
    halted_behind (execution (t.Return (Some node)) m) (awaited f.ReturnsIt node m) c.paid_value.new.self (begins_return node m) c.in-Stopped.ensures
