use Rattle.std.proofs.Common.{◌≡◌, drop}
use Rattle.std.specs.List.{position_from}
use Rattle.net_select.proofs.Directions.{Found}
use Rattle.net_select.proofs.ports.Ports.place_of.Given as goal

abbrev pub invariant-ports : goal.invariant-ports
invariant-ports l = position_from (Found l.number) 0 l.self ≡ position_from (Found l.number) l.index (drop l.index l.self)
