-- Those so far stand behind what was declared before.
use Rattle.std.proofs.Common.{◌≡◌, ◌++◌, drop, map}
use Rattle.net_tree.specs.View.{port_view}
use Rattle.net_rules.specs.Rules.{output_declared}
use Rattle.net_rules.specs.Known.{declaration_view}
use Rattle.net_rules.proofs.declarations.add_outputs.Given as goal

abbrev pub invariant-ports : goal.invariant-ports
invariant-ports l = map declaration_view l.initial.declared.items ++ map output_declared (map port_view l.ports) ≡ map declaration_view l.declared.items ++ map output_declared (map port_view (drop l.port-index l.ports))
