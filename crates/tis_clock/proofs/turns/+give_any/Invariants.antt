-- Fewer directions are left.
use Rattle.std.proofs.Common.{length}
use Rattle.tis_clock.proofs.turns.+give_any.Given as goal

abbrev pub decreases-give_any : goal.decreases-give_any
decreases-give_any l = length l.dirs.now
