-- The bodies so far were numbered.
use Rattle.std.proofs.Common.{◌≡◌, ◌++◌, drop, map}
use Rattle.std.specs.Prelude.{All}
use Rattle.net_tree.specs.Tree.{ProcessText}
use Rattle.net_tree.specs.View.{process_view}
use Rattle.net_numbered.specs.View.{numbered_block}
use Rattle.net_rules.specs.Numbers.{block_with}
use Rattle.net_rules.specs.Sure.{HasValues}
use Rattle.net_rules.specs.Known.{number_by}
use Rattle.net_rules.proofs.numbered.number_processes.Given as goal

abbrev pub invariant-processes : goal.invariant-processes
invariant-processes l =
    record {
      seen : map (λ process. block_with (number_by l.numbers.table.now l.numbers.other) process.body) (map process_view l.processes) ≡ map numbered_block l.bodies.items ++ map (λ process. block_with (number_by l.numbers.table.now l.numbers.other) process.body) (map process_view (drop l.process-index l.processes));
      values : All (λ (p : ProcessText). HasValues p.body) (map process_view (drop l.process-index l.processes)) → All (λ (p : ProcessText). HasValues p.body) (map process_view l.processes);
    }
