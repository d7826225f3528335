use Rattle.std.proofs.Common.{length}
use Rattle.lua_frames.proofs.Gathering.{Behind}
use Rattle.lua_frames.proofs.function_table.gather.Given as goal

abbrev pub invariant-loop-item : goal.invariant-loop-item
invariant-loop-item l = Behind l.fn.items l.left l.by_name.entries

abbrev pub decreases-loop-item : goal.decreases-loop-item
decreases-loop-item l = length l.left
