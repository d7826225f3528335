use Rattle.std.proofs.Common.{◌≡◌, map, drop}
use Rattle.tis_grid.specs.Puzzle.{input_of, values_at}
use Rattle.net_kahn.proofs.finding.given_at.Given as goal

abbrev pub invariant-loop-input : goal.invariant-loop-input
invariant-loop-input l = values_at (map input_of (drop l.input-index l.inputs)) l.position ≡ values_at (map input_of l.inputs) l.position
