use Rattle.std.proofs.Common.{Err, Result, ap, subst, ◌∙◌}
use Rattle.net_numbered.specs.View.{numbered_block}
use Rattle.net_rules.specs.Process.{exec}
use Rattle.net_kahn.specs.declared.machine.Stop.{Stop}
use Rattle.net_kahn.specs.declared.machine.Stop.TheVariants.{Waits}
use Rattle.net_kahn.specs.Machines.{Did}
use Rattle.net_kahn.proofs.Finishing.{finishes}
use Rattle.net_kahn.proofs.Walking.{sure_again, rounds_next, rounds_stop}
use Rattle.net_kahn.proofs.finding.run_process.Goals as goal

pub do_block-requires-clause-sure : goal.do_block-requires-clause-sure
do_block-requires-clause-sure c = sure_again (numbered_block c.args.body.now) c.args.machine.now c.rounds.machine c.rounds.invariant.after c.requires.sure

pub rounds-smaller : goal.rounds-smaller
rounds-smaller c =
    let body = numbered_block c.args.body.now in
    (finishes body c.rounds.machine c.rounds.invariant.ready (sure_again body c.args.machine.now c.rounds.machine c.rounds.invariant.after c.requires.sure) c.do_block.new.machine c.in-Ok.ensures).fewer c.requires.reads

pub rounds-preserved : goal.rounds-preserved
rounds-preserved c =
    let body = numbered_block c.args.body.now in
    rounds_next body c.args.machine.now c.rounds.machine c.rounds.invariant c.do_block.new.machine (sure_again body c.args.machine.now c.rounds.machine c.rounds.invariant.after c.requires.sure) c.in-Ok.ensures

pub returns-in-Err-Waits : goal.returns-in-Err-Waits
returns-in-Err-Waits c =
    let body = numbered_block c.args.body.now in
    rounds_stop body c.args.machine.now c.rounds.machine c.rounds.invariant Waits c.do_block.new.machine
    (subst (λ (r : Result (Unit {0}) Stop). Did (exec body) c.rounds.machine r c.do_block.new.machine) (c.in-Err-Waits.is ∙ ap (λ (s : Stop). Err s) c.in-Err-Waits.field-0-is) c.do_block.ensures)
