use Rattle.std.proofs.Common.{arith}
use Rattle.net_rules.specs.Known.{number_by}
use Rattle.net_rules.proofs.NumberingBlocks.{process_next, process_values}
use Rattle.net_rules.proofs.numbered.number_processes.Goals as goal

pub processes-preserved : goal.processes-preserved
processes-preserved c =
    let f = number_by c.args.numbers.table.now c.args.numbers.other in
    record {
      seen = process_next f c.args.processes.now c.processes.process-index c.process-item.result _ _ _ _ c.processes.invariant.seen (omega arith) c.process-item.is c.in_ok-number_block.ensures.seen c.in_ok-push.ensures.items;
      values = λ more. process_values f c.args.processes.now c.processes.process-index c.process-item.result c.processes.invariant.values (omega arith) c.process-item.is c.in_ok-number_block.ensures.values more;
    }
