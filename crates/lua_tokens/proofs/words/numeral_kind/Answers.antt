use Rattle.std.proofs.Common.{arith, w64}
use Rattle.std.proofs.lemmas.Int.{to_z_pos}
use Rattle.lua_tokens.proofs.Numerals.{numeral_fits, numeral_too_large}
use Rattle.lua_tokens.proofs.words.numeral_kind.Goals as goal

pub returns-then-n-lt-BOUND : goal.returns-then-n-lt-BOUND
returns-then-n-lt-BOUND c = rw (to_z_pos w64 c.value-n.result (omega arith), c.value-n.ensures.value) (numeral_fits c.args.digits.now (rw (← c.value-n.ensures.value) c.if-n-lt-BOUND.true))

pub returns-else-n-lt-BOUND : goal.returns-else-n-lt-BOUND
returns-else-n-lt-BOUND c = numeral_too_large c.args.digits.now (rw (← c.value-n.ensures.value) c.if-n-lt-BOUND.false)
