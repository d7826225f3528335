use Rattle.std.proofs.Common.{◌≡◌, length}
use Rattle.lua_syntax.specs.Reading.{step}
use Rattle.lua_syntax.proofs.reading.step.Given as goal

abbrev pub invariant-loop-symbol : goal.invariant-loop-symbol
invariant-loop-symbol l = step l.stack l.token l.parts ≡ step l.initial.stack l.initial.token l.initial.parts

abbrev pub decreases-loop-symbol : goal.decreases-loop-symbol
decreases-loop-symbol l = length l.stack
