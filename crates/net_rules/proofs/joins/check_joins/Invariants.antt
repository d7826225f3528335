-- The processes so far keep the rule, and the set has the numbers that they spread.
use Rattle.std.proofs.Common.{◌≡◌, false, drop, map, nat_eq}
use Rattle.indexmap.specs.IndexSet.{contains}
use Rattle.net_tree.specs.View.{process_view}
use Rattle.net_rules.specs.Numbers.{block_with}
use Rattle.net_rules.specs.Rules.{joins_from}
use Rattle.net_rules.specs.Known.{number_by}
use Rattle.net_rules.proofs.joins.check_joins.Given as goal

abbrev pub invariant-processes : goal.invariant-processes
invariant-processes l =
    record {
      counts : l.number ≡ l.process-index;
      same : joins_from (λ number. false) 0 (map (λ process. block_with (number_by l.numbers.table.now l.numbers.other) process.body) (map process_view l.processes)) ≡ joins_from (contains nat_eq l.spread) l.number (map (λ process. block_with (number_by l.numbers.table.now l.numbers.other) process.body) (map process_view (drop l.process-index l.processes)));
    }
