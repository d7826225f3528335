-- The statements of the processes so far were found.
use Rattle.std.proofs.Common.{◌≡◌, ◌++◌, drop, map}
use Rattle.net_tree.specs.View.{process_view}
use Rattle.net_rules.specs.Found.{use_view, uses_from}
use Rattle.net_rules.proofs.statements.uses_of_all.Given as goal

abbrev pub invariant-processes : goal.invariant-processes
invariant-processes l =
    record {
      counts : l.number ≡ l.process-index;
      same : uses_from 0 (map process_view l.processes) ≡ map use_view l.found.items ++ uses_from l.number (map process_view (drop l.process-index l.processes));
    }
