use Rattle.std.proofs.Common.{List, ℕ, arith}
use Rattle.net_tree.specs.Tree.{PortLine}
use Rattle.net_tree.specs.View.{port_view}
use Rattle.net_rules.proofs.NumberingNames.{numbered_more, numbered_all}
use Rattle.net_rules.proofs.numbers.number_ports.Goals as goal

pub ports-preserved : goal.ports-preserved
ports-preserved c =
    record {
      counts = omega (arith, c.ports.invariant.counts);
      same = λ (name : List ℕ). numbered_more port_view (λ (p : PortLine). p.name) c.args.ports.now c.ports.port-index c.port-item.result _ _ name _ c.ports.number (c.ports.invariant.same name) (omega arith) c.port-item.is (c.in_ok-number_name.ensures name);
    }

pub returns : goal.returns
returns c = λ (name : List ℕ). numbered_all port_view (λ (p : PortLine). p.name) c.args.ports.now c.ports.port-index _ name _ c.ports.number (c.ports.invariant.same name) (omega arith)
