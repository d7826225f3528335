use Rattle.std.proofs.Common.{refl}
use Rattle.lua_machine.specs.Machine as machine
use Rattle.lua_machine.specs.Tree as t
use Rattle.lua_machine.specs.Tree.{none, node_of, ◌and◌}
use Rattle.lua_frames.specs.Executing.{execution}
use Rattle.lua_frames.specs.Frames.{waits_in}
use Rattle.lua_frames.specs.Machines.{store_in}
use Rattle.lua_frames.specs.Standing.{operating}
use Rattle.lua_frames.proofs.Execution.{begins_put, put_left, put_stopped}
use Rattle.lua_frames.proofs.Hanging.{halted_behind, waits_from}
use Rattle.lua_frames.proofs.machine.Machine.do_put.Goals as goal

pub returns-in-Ok : goal.returns-in-Ok
returns-in-Ok c = put_left (node_of c.args.table.now) (node_of c.args.key.now) (node_of c.args.value.now) c.args.line c.args.self.now c.three.new.self c.puts.new.self c.in-Given.ensures c.in-Ok.ensures

pub returns-in-Err : goal.returns-in-Err
returns-in-Err c = put_stopped (node_of c.args.table.now) (node_of c.args.key.now) (node_of c.args.value.now) c.args.line c.args.self.now c.three.new.self (record c.three.new.self { state = c.puts.new.self; fault = c.in-Err.why }) refl c.in-Given.ensures c.in-Err.ensures

pub returns-in-Waits : goal.returns-in-Waits
returns-in-Waits c =
    let m = c.args.self.now in
    let table = node_of c.args.table.now in
    let key = node_of c.args.key.now in
    let value = node_of c.args.value.now in
    waits_from (execution (t.SetIndex table key value c.args.line) m) (operating (machine.Puts c.args.line) (table and key and value and none) m) (waits_in (store_in m)) m c.three.new.self (begins_put table key value c.args.line m) c.in-Waits.ensures

pub returns-in-Stopped : goal.returns-in-Stopped
returns-in-Stopped c =
    let m = c.args.self.now in
    let table = node_of c.args.table.now in
    let key = node_of c.args.key.now in
    let value = node_of c.args.value.now in
    halted_behind (execution (t.SetIndex table key value c.args.line) m) (operating (machine.Puts c.args.line) (table and key and value and none) m) c.three.new.self (begins_put table key value c.args.line m) c.in-Stopped.ensures
