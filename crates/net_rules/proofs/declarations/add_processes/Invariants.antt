-- Those so far stand behind what was declared before.
use Rattle.std.proofs.Common.{◌≡◌, ◌++◌, drop, map}
use Rattle.net_tree.specs.View.{process_view}
use Rattle.net_rules.specs.Rules.{process_declared}
use Rattle.net_rules.specs.Known.{declaration_view}
use Rattle.net_rules.proofs.declarations.add_processes.Given as goal

abbrev pub invariant-processes : goal.invariant-processes
invariant-processes l = map declaration_view l.initial.declared.items ++ map process_declared (map process_view l.processes) ≡ map declaration_view l.declared.items ++ map process_declared (map process_view (drop l.process-index l.processes))
