use Rattle.std.proofs.Common.{◌≡◌, drop}
use Rattle.net_select.specs.HeldPorts.{ports_of}
use Rattle.net_select.proofs.ports.Ports.dir.Given as goal

abbrev pub invariant-ports : goal.invariant-ports
invariant-ports l = ports_of l.self l.number ≡ ports_of (drop l.port-index l.self) l.number
