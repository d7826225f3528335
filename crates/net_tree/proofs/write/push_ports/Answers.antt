use Rattle.net_tree.specs.NetText.{port_line}
use Rattle.net_tree.specs.View.{port_view}
use Rattle.net_tree.proofs.Writing.{line_written}
use Rattle.net_tree.proofs.write.push_ports.Goals as goal

pub ports-preserved : goal.ports-preserved
ports-preserved c = line_written port_view (port_line c.args.side.now) c.args.ports.now c.ports.port-index c.port-item.result c.args.out.now.items c.ports.out.items c.push_port.new.out.items c.ports-test.true c.port-item.is c.ports.invariant c.in_ok-push_port.ensures
