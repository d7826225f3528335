use Rattle.std.proofs.Common.{◌≡◌, ℕ, suc, List, ◌∷◌, ◌+◌, ◌*◌, sym, ◌∙◌, drop, ap, drop-cons, get_or, zero-le}
use Rattle.std.specs.Prelude.{Option, Some, None, option_and_then}
use Rattle.tis_words.specs.Numerals.{at_most, spelled_behind, digit}
use Rattle.tis_words.proofs.Digits.{too_large_by, spelled_by, unspelled}
use Rattle.tis_words.proofs.numeral.number_of.Goals as goal

pub returns-then-is_empty-clause-number : goal.returns-then-is_empty-clause-number
returns-then-is_empty-clause-number c = sym (unspelled c.args.most c.args.word.now (sym c.if-is_empty.true ∙ c.is_empty.ensures))

pub loop-byte-init : goal.loop-byte-init
loop-byte-init c = record { low = zero-le; same = spelled_by c.args.most c.args.word.now (sym c.if-is_empty.false ∙ c.is_empty.ensures) }

pub returns-in_err-number-clause-number : goal.returns-in_err-number-clause-number
returns-in_err-number-clause-number c =
    let most = c.args.most in
    let word = c.args.word.now in
    let i = c.loop-byte.byte-index in
    let number = c.loop-byte.number in
    let rest = drop (i + 1) word in
    let h = c.loop-byte-test.true in
    let bytes : drop i word ≡ get_or word i 0 ∷ drop (suc i) word = drop-cons word i 0 h in
    let value : digit (get_or word i 0) ≡ Some c.in_ok-digit_of.field-0 = sym c.digit_of.ensures ∙ c.in_ok-digit_of.was in
    let past : at_most most (number * 10 + c.in_ok-digit_of.field-0) ≡ None = sym c.with_digit.ensures ∙ c.in_err-number.was in
    c.from_residual-in_err-number.ensures
    ∙ sym (c.loop-byte.invariant.same
    ∙ ap (λ (l : List ℕ). option_and_then (at_most most) (spelled_behind number l)) bytes
    ∙ ap (λ (d : Option ℕ). option_and_then (at_most most) (option_and_then (λ v. spelled_behind (number * 10 + v) (drop (suc i) word)) d)) value
    ∙ too_large_by most (number * 10 + c.in_ok-digit_of.field-0) (drop (suc i) word) past)
