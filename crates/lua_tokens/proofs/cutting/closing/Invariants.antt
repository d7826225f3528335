use Rattle.std.proofs.Common.{◌≡◌, ◌-◌, ◌≤◌, length, drop}
use Rattle.lua_tokens.specs.Tokens.{closing}
use Rattle.lua_tokens.proofs.Comments.{later}
use Rattle.lua_tokens.proofs.cutting.closing.Given as goal

abbrev pub invariant-loop-at : goal.invariant-loop-at
invariant-loop-at l = (later l.at (closing (drop l.at l.z)) ≡ closing l.z) × (l.at ≤ length l.z)

abbrev pub decreases-loop-at : goal.decreases-loop-at
decreases-loop-at l = length l.z - l.at
