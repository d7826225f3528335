use Rattle.std.proofs.Common.{map, ◌++◌}
use Rattle.tis_grid.specs.Puzzle.{input_of, values_at}
use Rattle.net_kahn.specs.Found.{AreOpened}
use Rattle.net_kahn.proofs.Opening.{empties}
use Rattle.net_kahn.proofs.finding.open_links.Given as goal

abbrev pub invariant-others : goal.invariant-others
invariant-others l = AreOpened l.links.items (map (λ port. values_at (map input_of l.inputs) port.position) l.net.inputs.items ++ empties l._other)
