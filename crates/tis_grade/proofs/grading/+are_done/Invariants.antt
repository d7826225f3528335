-- Fewer outputs are left.
use Rattle.std.proofs.Common.{length}
use Rattle.tis_grade.proofs.grading.+are_done.Given as goal

abbrev pub decreases-are_done : goal.decreases-are_done
decreases-are_done l = length l.outputs.now
