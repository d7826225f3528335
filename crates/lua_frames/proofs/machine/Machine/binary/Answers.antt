use Rattle.lua_machine.specs.Yields.{binary_result}
use Rattle.lua_state.specs.Store.{parts, without}
use Rattle.lua_frames.specs.Machines.{frames_with, state_in, store_in}
use Rattle.lua_frames.proofs.Backs.{stopped_back}
use Rattle.lua_frames.proofs.machine.Machine.binary.Goals as goal

pub returns-in-Err : goal.returns-in-Err
returns-in-Err c =
    let m = c.args.self.now in
    let done = binary_result c.args.op c.args.line (parts c.args.count (store_in m)) (state_in m) in
    stopped_back c.in-Err.why done.outcome done.state (without c.args.count (store_in m)) (frames_with m (without c.args.count (store_in m))) m.calls m.units c.in-Err.ensures
