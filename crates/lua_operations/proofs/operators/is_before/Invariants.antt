use Rattle.std.proofs.Common.{◌≡◌, drop}
use Rattle.lua_machine.specs.Operators.{is_before}
use Rattle.lua_operations.proofs.operators.is_before.Given as goal

abbrev pub invariant-loop-at : goal.invariant-loop-at
invariant-loop-at l = is_before l.a l.b ≡ is_before (drop l.at l.a) (drop l.at l.b)
