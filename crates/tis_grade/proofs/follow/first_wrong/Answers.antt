use Rattle.std.proofs.Common.{◌≡◌, ℕ, ℤ, suc, ◌+◌, List, take, sym, ap, subst, ◌∙◌, arith}
use Rattle.std.specs.Prelude.{Some, slice_get}
use Rattle.std.proofs.lemmas.List.{take_all}
use Rattle.tis_base.specs.Prefix.{IsPrefixOf}
use Rattle.tis_grade.specs.declared.verdict.Verdict.{Verdict}
use Rattle.tis_grade.proofs.Streams.{one_more, wrong_there, none_left, none_wrong, compared_wrong, compared_right}
use Rattle.tis_grade.proofs.follow.first_wrong.Goals as goal

pub returns-then-index-len : goal.returns-then-index-len
returns-then-index-len c = sym (none_left c.args.output c.loop-index.index c.args.wanted.now.items c.args.taken.now.items (omega arith) (omega arith) c.loop-index.invariant.before)

pub returns-in-Some : goal.returns-in-Some
returns-in-Some c =
    let (apart, is) = compared_wrong c.args.output c.loop-index.index c.at.result c.at-in-loop-index.result c.in-Some.wrong c.in-Some.ensures in
    ap (λ (v : Verdict). Some v) is
    ∙ sym (wrong_there c.args.output c.loop-index.index c.args.wanted.now.items c.args.taken.now.items c.at.result c.at-in-loop-index.result c.at.ensures.value c.at-in-loop-index.ensures.value apart c.loop-index.invariant.before)

pub loop-index-preserved : goal.loop-index-preserved
loop-index-preserved c =
    let same = compared_right c.args.output c.loop-index.index c.at.result c.at-in-loop-index.result c.in_default.ensures in
    let got : slice_get c.args.taken.now.items c.loop-index.index ≡ Some c.at.result = c.at-in-loop-index.ensures.value ∙ ap (λ (v : ℤ). Some v) (sym same) in
    let one : suc c.loop-index.index ≡ c.loop-index.index + 1 = omega arith in
    record { before = subst (λ (n : ℕ). IsPrefixOf (take n c.args.taken.now.items) c.args.wanted.now.items) one (one_more c.loop-index.index c.args.wanted.now.items c.args.taken.now.items c.at.result c.at.ensures.value got c.loop-index.invariant.before) }

pub returns : goal.returns
returns c =
    let all = let test = c.loop-index-test.false in let len = c.len-index-end.ensures.len in take_all c.loop-index.index c.args.taken.now.items (omega (arith, test, len)) in
    let before : IsPrefixOf c.args.taken.now.items c.args.wanted.now.items = subst (λ (values : List ℤ). IsPrefixOf values c.args.wanted.now.items) all c.loop-index.invariant.before in
    sym (none_wrong c.args.output 0 c.args.wanted.now.items c.args.taken.now.items before)
