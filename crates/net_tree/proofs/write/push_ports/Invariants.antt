use Rattle.std.proofs.Common.{◌≡◌, ◌++◌, map, take}
use Rattle.net_tree.specs.NetText.{lines_text, port_line}
use Rattle.net_tree.specs.View.{port_view}
use Rattle.net_tree.proofs.write.push_ports.Given as goal

abbrev pub invariant-ports : goal.invariant-ports
invariant-ports l = l.out.items ≡ l.fn.out.items ++ lines_text (map (port_line l.side) (map port_view (take l.port-index l.ports)))
