use Rattle.std.proofs.Common.{nat_eq, arith}
use Rattle.indexmap.specs.IndexSet.{contains}
use Rattle.net_rules.specs.Known.{number_by}
use Rattle.net_rules.proofs.Joining.{next_join}
use Rattle.net_rules.proofs.joins.check_joins.Goals as goal

pub processes-preserved : goal.processes-preserved
processes-preserved c =
    record {
      counts = omega (arith, c.processes.invariant.counts);
      same = next_join (number_by c.args.numbers.table.now c.args.numbers.other) c.args.processes.now c.processes.process-index c.process-item.result _ (contains nat_eq c.processes.spread) (contains nat_eq c.check_process.new.spread) c.processes.number c.processes.invariant.same (omega arith) c.process-item.is c.in_ok-check_process.ensures.fault c.in_ok-check_process.ensures.behind;
    }
