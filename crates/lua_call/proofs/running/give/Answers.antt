use Rattle.std.proofs.Common.{◌≡◌, ◌-◌, Ok, subst}
use Rattle.lua_machine.specs.Machine.{Ended}
use Rattle.lua_machine.specs.Turn.{finished_by}
use Rattle.lua_plain.specs.Plain.{plain_view}
use Rattle.lua_state.specs.Held.{store_of}
use Rattle.lua_frames.specs.Machines.{state_in, store_in}
use Rattle.lua_frames.specs.Ways.{way_in}
use Rattle.lua_call.specs.Running.{Halts}
use Rattle.lua_call.proofs.Giving.{at_most, given, lacking}
use Rattle.lua_call.proofs.running.give.Goals as goal

pub returns-in-Ok : goal.returns-in-Ok
returns-in-Ok c =
    let m = c.args.machine.now in
    let left = c.take_plain.new.units in
    let value = plain_view c.in-Ok.value in (
      subst (λ n. finished_by (way_in c.args.way (store_in m)) (state_in m) n ≡ Ended (Ok value) (500000 - left)) c.spent.ensures.exact
          (given c.args.way (store_in m) (store_of c.take_back.new.state) c.spent.result left value c.in_ok-take_back.ensures c.spent.ensures.most c.in-Ok.ensures.0 c.in-Ok.ensures.1),
      at_most left,
    )

pub returns-in-Err : goal.returns-in-Err
returns-in-Err c =
    let m = c.args.machine.now in
    subst (λ n. Halts c.in-Err.why (finished_by (way_in c.args.way (store_in m)) (state_in m) n)) c.spent.ensures.exact
    (lacking c.in-Err.why c.args.way (store_in m) (store_of c.take_back.new.state) c.spent.result c.in_ok-take_back.ensures c.in-Err.ensures)
