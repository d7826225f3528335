-- No process so far breaks the rule.
use Rattle.std.proofs.Common.{◌≡◌, drop, map}
use Rattle.net_tree.specs.View.{process_view}
use Rattle.net_rules.specs.Rules.{sure_reads_from}
use Rattle.net_rules.proofs.turns.sure_reads.Given as goal

abbrev pub invariant-processes : goal.invariant-processes
invariant-processes l =
    record {
      counts : l.number ≡ l.process-index;
      same : sure_reads_from 0 (map process_view l.processes) ≡ sure_reads_from l.number (map process_view (drop l.process-index l.processes));
    }
