-- Fewer directions are left.
use Rattle.std.proofs.Common.{length}
use Rattle.tis_clock.proofs.turns.+take_any.Given as goal

abbrev pub decreases-take_any : goal.decreases-take_any
decreases-take_any l = length l.dirs.now
