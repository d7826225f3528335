use Rattle.std.proofs.Common.{◌+◌, ◌*◌}
use Rattle.lua_examples.proofs.tests.+shown.Given as goal

abbrev pub decreases-listed : goal.decreases-listed
decreases-listed l = 2 * l.levels

abbrev pub decreases-shown : goal.decreases-shown
decreases-shown l = 2 * l.levels + 1
