use Rattle.std.proofs.Common.{length}
use Rattle.net_column.proofs.form.+are_direct.Given as goal

abbrev pub decreases-are_direct : goal.decreases-are_direct
decreases-are_direct l = length l.channels.now
