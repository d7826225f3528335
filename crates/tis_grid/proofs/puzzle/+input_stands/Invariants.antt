use Rattle.std.proofs.Common.{length}
use Rattle.tis_grid.proofs.puzzle.+input_stands.Given as goal

abbrev pub decreases-input_stands : goal.decreases-input_stands
decreases-input_stands l = length l.inputs.now
