use Rattle.std.proofs.Common.{pos, neg_ℤ, ◌<ℤ◌, ap, sym, ◌∙◌, arith}
use Rattle.std.specs.Int.{int_rem_euclid}
use Rattle.std.proofs.lemmas.Int.{ints}
use Rattle.lua_numbers.proofs.Remainders.{left_over_positive, left_over_negative}
use Rattle.lua_numbers.proofs.quotient.left.Goals as goal

pub returns-then-get-lt0 : goal.returns-then-get-lt0
returns-then-get-lt0 c =
    let below : c.args.divisor <ℤ pos 0 = omega (arith, ints) in
    c.negated-then-get-lt0-2.ensures
    ∙ ap neg_ℤ (c.left_by_positive.ensures ∙ ap (λ a. int_rem_euclid a c.negated-then-get-lt0.result) c.negated.ensures ∙ ap (int_rem_euclid (neg_ℤ c.args.dividend)) c.negated-then-get-lt0.ensures)
    ∙ sym (left_over_negative c.args.dividend c.args.divisor below)

pub returns-else-get-lt0 : goal.returns-else-get-lt0
returns-else-get-lt0 c =
    let above : pos 0 <ℤ c.args.divisor = omega (arith, ints) in
    c.left_by_positive-else-get-lt0.ensures ∙ sym (left_over_positive c.args.dividend c.args.divisor above)
