use Rattle.std.proofs.Common.{◌∙◌, refl, sym}
use Rattle.lua_machine.specs.Tree.{block_of}
use Rattle.lua_frames.specs.Rounds.{next_round}
use Rattle.lua_frames.proofs.Rounds.{round_halted, round_inside, round_left, round_on, round_returned, turn_begun}
use Rattle.lua_frames.proofs.Reaching.{comes_behind}
use Rattle.lua_frames.proofs.machine.Machine.next_turns.Goals as goal

pub returns-in-Breaks : goal.returns-in-Breaks
returns-in-Breaks c =
    let name = c.args.name.now in
    let body = block_of c.args.body.now in
    let from = next_round name body c.args.self.now in
    let at = c.turns.self in
    let mid = record at { state = c.next_turn.new.self; units = c.pay.new.self; pending = c.clear.new.self } in
    let begun = turn_begun from c.locals-outer.result name body at mid c.locals-outer.ensures (sym c.if-not-branch.false ∙ c.in_ok-next_turn.ensures.comes) c.in_ok-next_turn.ensures.turned refl refl c.in_ok-pay.ensures c.turns.invariant in
    round_left from c.locals-outer.result name body mid c.do_turn.new.self c.close_loop.new.self begun c.in-Breaks.ensures c.close_loop.ensures

pub returns-in-Returns : goal.returns-in-Returns
returns-in-Returns c =
    let name = c.args.name.now in
    let body = block_of c.args.body.now in
    let from = next_round name body c.args.self.now in
    let at = c.turns.self in
    let mid = record at { state = c.next_turn.new.self; units = c.pay.new.self; pending = c.clear.new.self } in
    let begun = turn_begun from c.locals-outer.result name body at mid c.locals-outer.ensures (sym c.if-not-branch.false ∙ c.in_ok-next_turn.ensures.comes) c.in_ok-next_turn.ensures.turned refl refl c.in_ok-pay.ensures c.turns.invariant in
    round_returned from c.locals-outer.result name body mid c.do_turn.new.self c.close_loop-in-Returns.new.self begun c.in-Returns.ensures c.close_loop-in-Returns.ensures

pub returns-in-Waits : goal.returns-in-Waits
returns-in-Waits c =
    let name = c.args.name.now in
    let body = block_of c.args.body.now in
    let from = next_round name body c.args.self.now in
    let at = c.turns.self in
    let mid = record at { state = c.next_turn.new.self; units = c.pay.new.self; pending = c.clear.new.self } in
    let begun = turn_begun from c.locals-outer.result name body at mid c.locals-outer.ensures (sym c.if-not-branch.false ∙ c.in_ok-next_turn.ensures.comes) c.in_ok-next_turn.ensures.turned refl refl c.in_ok-pay.ensures c.turns.invariant in
    round_inside from c.locals-outer.result name body mid c.do_turn.new.self c.put_pending.new.self begun c.clear.ensures.items c.in-Waits.ensures c.in_ok-put_pending-in-Waits.ensures

pub returns-in-Stopped : goal.returns-in-Stopped
returns-in-Stopped c =
    let name = c.args.name.now in
    let body = block_of c.args.body.now in
    let from = next_round name body c.args.self.now in
    let at = c.turns.self in
    let mid = record at { state = c.next_turn.new.self; units = c.pay.new.self; pending = c.clear.new.self } in
    let begun = turn_begun from c.locals-outer.result name body at mid c.locals-outer.ensures (sym c.if-not-branch.false ∙ c.in_ok-next_turn.ensures.comes) c.in_ok-next_turn.ensures.turned refl refl c.in_ok-pay.ensures c.turns.invariant in
    round_halted from c.locals-outer.result name body mid c.do_turn.new.self begun c.in-Stopped.ensures

pub turns-preserved : goal.turns-preserved
turns-preserved c =
    let name = c.args.name.now in
    let body = block_of c.args.body.now in
    let from = next_round name body c.args.self.now in
    let at = c.turns.self in
    let mid = record at { state = c.next_turn.new.self; units = c.pay.new.self; pending = c.clear.new.self } in
    let begun = turn_begun from c.locals-outer.result name body at mid c.locals-outer.ensures (sym c.if-not-branch.false ∙ c.in_ok-next_turn.ensures.comes) c.in_ok-next_turn.ensures.turned refl refl c.in_ok-pay.ensures c.turns.invariant in
    round_on from c.locals-outer.result name body mid c.do_turn.new.self begun c.in-Goes.ensures

pub returns : goal.returns
returns c = comes_behind c.turns.invariant c.next_turn-2.ensures
