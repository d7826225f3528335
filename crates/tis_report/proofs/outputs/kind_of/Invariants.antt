use Rattle.std.proofs.Common.{◌≡◌, map, drop}
use Rattle.tis_grid.specs.Puzzle.{output_of}
use Rattle.tis_report.specs.Outputs.{kind_at}
use Rattle.tis_report.proofs.outputs.kind_of.Given as goal

abbrev pub invariant-loop-output : goal.invariant-loop-output
invariant-loop-output l = kind_at (map output_of (drop l.output-index l.outputs)) l.position ≡ kind_at (map output_of l.outputs) l.position
