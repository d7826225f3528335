use Rattle.std.proofs.Common.{length}
use Rattle.tis_grid.proofs.puzzle.+output_stands.Given as goal

abbrev pub decreases-output_stands : goal.decreases-output_stands
decreases-output_stands l = length l.outputs.now
