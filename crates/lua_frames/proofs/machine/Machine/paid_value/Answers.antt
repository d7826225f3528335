use Rattle.std.proofs.Common.{◌∷◌, refl}
use Rattle.lua_machine.specs.Tree.{node_of}
use Rattle.lua_frames.specs.Executing.{awaited, paid_evaluation}
use Rattle.lua_frames.specs.Frames.{frame_of, waits_in}
use Rattle.lua_frames.specs.Machines.{store_in}
use Rattle.lua_frames.specs.Standing.{evaluation}
use Rattle.lua_frames.proofs.Execution.{pays_value, value_waits}
use Rattle.lua_frames.proofs.Hanging.{halted_behind, unpaid, waits_behind}
use Rattle.lua_frames.proofs.machine.Machine.paid_value.Goals as goal

pub returns-in-Waits : goal.returns-in-Waits
returns-in-Waits c =
    let m = c.args.self.now in
    let node = node_of c.args.of.now in
    let at = record m { units = c.pay.new.self } in
    let waits = waits_behind (paid_evaluation node m) (evaluation node at) m at c.value.new.self (pays_value node m c.pay.new.self c.in-Ok.ensures) c.in-Waits.ensures in
    value_waits c.wait_under.result c.args.frame node m c.wait_under.new.self (c.wait_under.ensures (paid_evaluation node m) (waits_in (store_in m)) m waits)

pub returns-in-Stopped : goal.returns-in-Stopped
returns-in-Stopped c =
    let m = c.args.self.now in
    let node = node_of c.args.of.now in
    let at = record m { units = c.pay.new.self } in
    λ frames calls. halted_behind (paid_evaluation node m) (evaluation node at) c.value.new.self (pays_value node m c.pay.new.self c.in-Ok.ensures).leads c.in-Stopped.ensures (frame_of c.args.frame (waits_in (store_in m)) ∷ frames) calls

pub returns-in-Err : goal.returns-in-Err
returns-in-Err c =
    let m = c.args.self.now in
    unpaid (awaited c.args.frame (node_of c.args.of.now) m) m.units (record m { units = c.pay.new.self; fault = c.in-Err.why }) (λ frames calls. refl) c.in-Err.ensures
