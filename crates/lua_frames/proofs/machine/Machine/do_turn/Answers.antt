use Rattle.std.proofs.Common.{subst}
use Rattle.lua_machine.specs.Tree.{BlockNode, block_of}
use Rattle.lua_machine.specs.Yields as lua
use Rattle.lua_frames.specs.Executing.{IsLeft, block}
use Rattle.lua_frames.specs.Frames.{waits_in}
use Rattle.lua_frames.specs.Machines.{store_in}
use Rattle.lua_frames.specs.Standing.{IsHalted, IsValued, WaitsInside}
use Rattle.lua_frames.proofs.Execution.{block_seen}
use Rattle.lua_frames.proofs.Rounds.{round_breaks, round_goes, round_halts, round_returns, round_waits}
use Rattle.lua_frames.proofs.machine.Machine.do_turn.Goals as goal

pub returns-in-Goes : goal.returns-in-Goes
returns-in-Goes c =
    let m = c.args.self.now in
    let now = c.do_all.new.self in
    let done = subst (λ (body : BlockNode). IsLeft lua.Goes (block body m) m now) (block_seen c.args.body.now c.as_slice.result.now c.as_slice.ensures) c.in-Goes.ensures in
    round_goes c.args.outer c.args.name.now (block_of c.args.body.now) m now c.cut_to.new.self done c.cut_to.ensures

pub returns-in-Breaks : goal.returns-in-Breaks
returns-in-Breaks c =
    let m = c.args.self.now in
    let now = c.do_all.new.self in
    let done = subst (λ (body : BlockNode). IsLeft lua.Breaks (block body m) m now) (block_seen c.args.body.now c.as_slice.result.now c.as_slice.ensures) c.in-Breaks.ensures in
    round_breaks c.args.outer c.args.name.now (block_of c.args.body.now) m now c.cut_to-in-Breaks.new.self done c.cut_to-in-Breaks.ensures

pub returns-in-Returns : goal.returns-in-Returns
returns-in-Returns c =
    let m = c.args.self.now in
    let now = c.do_all.new.self in
    let done = subst (λ (body : BlockNode). IsValued (block body m) m now) (block_seen c.args.body.now c.as_slice.result.now c.as_slice.ensures) c.in-Returns.ensures in
    round_returns c.args.outer c.args.name.now (block_of c.args.body.now) m now c.cut_to-in-Returns.new.self done c.cut_to-in-Returns.ensures

pub returns-in-Waits : goal.returns-in-Waits
returns-in-Waits c =
    let m = c.args.self.now in
    let base = waits_in (store_in m) in
    let inside = subst (λ (body : BlockNode). WaitsInside (block body m) base m c.do_all.new.self) (block_seen c.args.body.now c.as_slice.result.now c.as_slice.ensures) c.in-Waits.ensures in
    round_waits c.wait_beneath.result c.args.outer c.args.name c.args.body m c.wait_beneath.new.self (c.wait_beneath.ensures (block (block_of c.args.body.now) m) base m inside)

pub returns-in-Stopped : goal.returns-in-Stopped
returns-in-Stopped c =
    let m = c.args.self.now in
    let halts = subst (λ (body : BlockNode). IsHalted (block body m) c.do_all.new.self) (block_seen c.args.body.now c.as_slice.result.now c.as_slice.ensures) c.in-Stopped.ensures in
    round_halts c.args.outer c.args.name.now (block_of c.args.body.now) m c.do_all.new.self halts
