use Rattle.std.proofs.Common.{Ok}
use Rattle.lua_machine.specs.Machine.{Next}
use Rattle.lua_machine.specs.Tree.{items_of}
use Rattle.lua_frames.specs.Machines.{machine_of}
use Rattle.lua_frames.specs.Parts.{function_in}
use Rattle.lua_frames.specs.declared.turns.Step.TheVariants as s
use Rattle.lua_call.specs.Running.{Came}
use Rattle.lua_call.proofs.Turning.{came_on, leads_through}
use Rattle.lua_call.proofs.running.run.Goals as goal

pub turns-preserved : goal.turns-preserved
turns-preserved c =
    let mid = Next (machine_of c.turns.control c.turns.machine) in
    let came : Came (items_of c.args.functions.now) (function_in c.args.main) mid (Ok (s.Next c.in-Ok-Next.next)) c.run_until_paid.new.machine = rw c.in-Ok-Next.field-0-is at c.in-Ok-Next.ensures.came in
    came_on mid c.in-Ok-Next.next c.run_until_paid.new.machine c.turns.invariant came

pub returns-in-Ok-Ended : goal.returns-in-Ok-Ended
returns-in-Ok-Ended c =
    let mid = Next (machine_of c.turns.control c.turns.machine) in
    let came : Came (items_of c.args.functions.now) (function_in c.args.main) mid (Ok (s.Ended c.in-Ok-Ended.way)) c.run_until_paid.new.machine = rw c.in-Ok-Ended.field-0-is at c.in-Ok-Ended.ensures.came in
    record { wanted = came.wanted; leads = leads_through mid came.wanted c.turns.invariant came.leads; ends = came.step }

pub returns-in-Err : goal.returns-in-Err
returns-in-Err c =
    let mid = Next (machine_of c.turns.control c.turns.machine) in
    let came = c.in-Err.ensures.came in
    record { wanted = came.wanted; leads = leads_through mid came.wanted c.turns.invariant came.leads; ends = came.step }
