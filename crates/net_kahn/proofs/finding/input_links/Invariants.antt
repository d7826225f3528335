use Rattle.std.proofs.Common.{map, take}
use Rattle.tis_grid.specs.Puzzle.{input_of, values_at}
use Rattle.net_kahn.specs.Found.{AreOpened}
use Rattle.net_kahn.proofs.finding.input_links.Given as goal

abbrev pub invariant-inputs : goal.invariant-inputs
invariant-inputs l = AreOpened l.links.items (map (λ port. values_at (map input_of l.inputs) port.position) (take l.port-index l.ports))
