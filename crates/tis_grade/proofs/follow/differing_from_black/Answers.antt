use Rattle.std.proofs.Common.{◌≡◌, ℕ, suc, ◌+◌, ◌-◌, drop, replicate, ap, ◌∙◌, arith}
use Rattle.std.specs.Prelude.{slice_get}
use Rattle.tis_grade.specs.Following.{differs, differences}
use Rattle.tis_grade.proofs.Pictures.{one_point, no_points}
use Rattle.tis_grade.proofs.follow.differing_from_black.Goals as goal

pub loop-index-preserved : goal.loop-index-preserved
loop-index-preserved c =
    let items = c.args.wanted.now.items in
    let at = c.loop-index.index in
    let left = c.args.points - (at + 1) in
    let more : c.args.points - at ≡ suc left = let test = c.loop-index-test.true in let end = c.from-index-end.ensures in omega (arith, test, end) in
    let one : suc at ≡ at + 1 = omega arith in
    let split : differences (drop at items) (replicate (c.args.points - at) 0) ≡ differs (slice_get items at) 0 + differences (drop (at + 1) items) (replicate left 0) =
    ap (λ (n : ℕ). differences (drop at items) (replicate n 0)) more ∙ one_point items at left ∙ ap (λ (n : ℕ). differs (slice_get items at) 0 + differences (drop n items) (replicate left 0)) one in
    let counted = c.loop-index.invariant.counted in
    let here = c.differs-differing.ensures.differs in
    let few = c.loop-index.invariant.few in
    let few_here = c.differs-differing.ensures.one in
    record { counted = omega (arith, split, counted, here); few = omega (arith, few, few_here) }

pub returns : goal.returns
returns c =
    let items = c.args.wanted.now.items in
    let at = c.loop-index.index in
    let none : c.args.points - at ≡ 0 = let test = c.loop-index-test.false in let end = c.from-index-end.ensures in omega (arith, test, end) in
    let left : differences (drop at items) (replicate (c.args.points - at) 0) ≡ 0 = ap (λ (n : ℕ). differences (drop at items) (replicate n 0)) none ∙ no_points (drop at items) in
    let counted = c.loop-index.invariant.counted in
    omega (arith, left, counted)
