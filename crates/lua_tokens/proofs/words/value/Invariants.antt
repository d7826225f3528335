use Rattle.std.proofs.Common.{◌≡◌, ◌≤◌, take}
use Rattle.lua_tokens.specs.Tokens.{held_value}
use Rattle.lua_tokens.proofs.words.value.Given as goal

abbrev pub invariant-loop-b : goal.invariant-loop-b
invariant-loop-b l = (l.n ≡ held_value (take l.b-index l.digits)) × (l.n ≤ 9007199254740993)
