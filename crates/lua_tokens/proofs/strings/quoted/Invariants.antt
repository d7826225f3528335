use Rattle.std.proofs.Common.{◌-◌, ◌≤◌, length}
use Rattle.lua_tokens.proofs.StringReading.{Reading}
use Rattle.lua_tokens.proofs.strings.quoted.Given as goal

abbrev pub invariant-loop-at : goal.invariant-loop-at
invariant-loop-at l = Reading l.quote l.z l.text l.at × (l.at ≤ length l.z)

abbrev pub decreases-loop-at : goal.decreases-loop-at
decreases-loop-at l = length l.z - l.at
