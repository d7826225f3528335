use Rattle.std.proofs.Common.{◌≡◌, ◌+◌, ◌*◌, sym, ◌∙◌, get_or, arith}
use Rattle.std.specs.Prelude.{Some, min}
use Rattle.tis_asm.specs.Held.{digit_of}
use Rattle.tis_asm.proofs.Digits.{digit_more}
use Rattle.tis_asm.proofs.word.digits_number.Goals as goal

pub loop-byte-preserved : goal.loop-byte-preserved
loop-byte-preserved c =
    let value : digit_of (get_or c.args.digits.now c.loop-byte.byte-index 0) ≡ Some c.in_ok-digit_value.field-0 = sym c.digit_value.ensures ∙ c.in_ok-digit_value.was in
    let next : c.min-number.result ≡ min 999 (c.loop-byte.number * 10 + c.in_ok-digit_value.field-0) = omega arith in
    record { low = omega arith; same = c.loop-byte.invariant.same ∙ digit_more c.args.digits.now c.loop-byte.byte-index c.loop-byte.number c.min-number.result c.in_ok-digit_value.field-0 c.loop-byte-test.true value next }
