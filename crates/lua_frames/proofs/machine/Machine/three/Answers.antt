use Rattle.std.proofs.Common.{refl}
use Rattle.lua_machine.specs.Tree.{none, node_of, ◌and◌}
use Rattle.lua_frames.specs.Frames.{making_of}
use Rattle.lua_frames.specs.Standing.{gathering, operating}
use Rattle.lua_frames.proofs.Execution.{gathers_more, gathers_none, gathers_wait, three_take}
use Rattle.lua_frames.proofs.Hanging.{halted_behind, unpaid}
use Rattle.lua_frames.proofs.machine.Machine.three.Goals as goal

pub returns-in-Given-part_value : goal.returns-in-Given-part_value
returns-in-Given-part_value c = three_take c.part_value-in-Given-part_value.result (making_of c.args.making) (node_of c.args.first.now) (node_of c.args.second.now) (node_of c.args.third.now) c.args.self.now c.part_value.new.self c.part_value-in-Given.new.self c.part_value-in-Given-part_value.new.self
    c.pay.new.self c.in-Ok.ensures c.in-Given.ensures c.in-Given-part_value.ensures c.part_value-in-Given-part_value.ensures

pub returns-in-Waits-part_value : goal.returns-in-Waits-part_value
returns-in-Waits-part_value c =
    let m = c.args.self.now in
    let at = record m { units = c.pay.new.self } in
    let making = making_of c.args.making in
    let first = node_of c.args.first.now in
    let others = node_of c.args.second.now and node_of c.args.third.now and none in
    let from = operating making (first and others) m in
    gathers_wait from making 1 others m c.part_value.new.self c.part_value-in-Given.new.self (gathers_more from making 0 first others m at c.part_value.new.self (gathers_none making first others m c.pay.new.self c.in-Ok.ensures) c.in-Given.ensures) c.in-Waits-part_value.ensures

pub returns-in-Stopped-part_value : goal.returns-in-Stopped-part_value
returns-in-Stopped-part_value c =
    let m = c.args.self.now in
    let at = record m { units = c.pay.new.self } in
    let making = making_of c.args.making in
    let first = node_of c.args.first.now in
    let others = node_of c.args.second.now and node_of c.args.third.now and none in
    let from = operating making (first and others) m in
    halted_behind from (gathering making 1 others c.part_value.new.self) c.part_value-in-Given.new.self (gathers_more from making 0 first others m at c.part_value.new.self (gathers_none making first others m c.pay.new.self c.in-Ok.ensures) c.in-Given.ensures).leads c.in-Stopped-part_value.ensures

pub returns-in-Waits : goal.returns-in-Waits
returns-in-Waits c =
    let m = c.args.self.now in
    let making = making_of c.args.making in
    let first = node_of c.args.first.now in
    let others = node_of c.args.second.now and node_of c.args.third.now and none in
    gathers_wait (operating making (first and others) m) making 0 (first and others) m (record m { units = c.pay.new.self }) c.part_value.new.self (gathers_none making first others m c.pay.new.self c.in-Ok.ensures) c.in-Waits.ensures

pub returns-in-Stopped : goal.returns-in-Stopped
returns-in-Stopped c =
    let m = c.args.self.now in
    let making = making_of c.args.making in
    let first = node_of c.args.first.now in
    let others = node_of c.args.second.now and node_of c.args.third.now and none in
    halted_behind (operating making (first and others) m) (gathering making 0 (first and others) (record m { units = c.pay.new.self })) c.part_value.new.self (gathers_none making first others m c.pay.new.self c.in-Ok.ensures).leads c.in-Stopped.ensures

pub returns-in-Err : goal.returns-in-Err
returns-in-Err c =
    let m = c.args.self.now in
    let nodes = node_of c.args.first.now and node_of c.args.second.now and node_of c.args.third.now and none in
    unpaid (operating (making_of c.args.making) nodes m) m.units (record m { units = c.pay.new.self; fault = c.in-Err.why }) (λ frames calls. refl) c.in-Err.ensures
