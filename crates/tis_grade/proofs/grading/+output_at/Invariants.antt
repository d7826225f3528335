-- Fewer outputs are left.
use Rattle.std.proofs.Common.{length}
use Rattle.tis_grade.proofs.grading.+output_at.Given as goal

abbrev pub decreases-output_at : goal.decreases-output_at
decreases-output_at l = length l.outputs.now
