use Rattle.std.proofs.Common.{◌≡◌, ◌++◌, ◌≤◌, length, drop}
use Rattle.lua_syntax.proofs.reading.push_all.Given as goal

abbrev pub invariant-loop-at : goal.invariant-loop-at
invariant-loop-at l = (l.stack ≡ drop l.at l.symbols ++ l.fn.stack) × (l.at ≤ length l.symbols)

abbrev pub decreases-loop-at : goal.decreases-loop-at
decreases-loop-at l = l.at
