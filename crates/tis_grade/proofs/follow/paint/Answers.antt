use Rattle.std.proofs.Common.{◌≡◌, ℕ, ◌+◌, ◌*◌, List, sym, ap, ap₂, ◌∙◌, arith}
use Rattle.std.specs.Prelude.{Some, slice_get}
use Rattle.tis_devices.specs.Picture.{Picture, point_of, after_value}
use Rattle.tis_grade.specs.Following.{differs, differences}
use Rattle.tis_grade.proofs.Pictures.{differences_change, few_differences, changes_there}
use Rattle.tis_grade.proofs.follow.paint.Goals as goal

pub overflow_add-result : goal.overflow_add-result
overflow_add-result c = omega (arith, few_differences c.args.wanted.now.items c.args.console.now.colours, c.requires.whole, c.requires.differing, c.differs-is.ensures.one)

-- the count behind the point's change
change : (c : goal.After-differs-is) → differences c.args.wanted.now.items c.paint-in-Some.new.self.colours + c.differs-was.result ≡ c.args.differing + c.differs-is.result
change c =
    let wanted = c.args.wanted.now.items in
    let at = point_of c.in-Some.x c.in-Some.y in
    let new = c.pixel-in-Some.result in
    let same : c.from.result * 30 + c.from-in-Some.result ≡ at = let row = c.from.ensures in let column = c.from-in-Some.ensures in ap₂ (λ (r : ℕ) (k : ℕ). r * 30 + k) row column in
    let was = c.differs-was.ensures.differs ∙ ap (λ (n : ℕ). differs (slice_get wanted n) c.pixel.result) same in
    let is = c.differs-is.ensures.differs ∙ ap (λ (n : ℕ). differs (slice_get wanted n) new) same in
    let shown : slice_get (after_value c.args.console.now c.args.value).colours at ≡ Some new = ap (λ (p : Picture). slice_get p.colours at) (sym c.paint-in-Some.ensures) ∙ c.pixel-in-Some.ensures.pixel in
    let painted = changes_there c.args.console.now c.args.value c.in-Some.x c.in-Some.y new (sym c.in-Some.ensures) shown in
    let changed = differences_change wanted c.args.console.now.colours at c.pixel.result new c.pixel.ensures.pixel in
    let now = ap (λ (p : Picture). differences wanted p.colours) c.paint-in-Some.ensures ∙ ap (λ (colours : List ℕ). differences wanted colours) painted in
    let before = c.requires.differing in
    omega (arith, was, is, changed, now, before)

pub overflow_sub-result : goal.overflow_sub-result
overflow_sub-result c = let changed = change c in omega (arith, changed)

pub returns-in-Some-clause-differing : goal.returns-in-Some-clause-differing
returns-in-Some-clause-differing c = let changed = change c in omega (arith, changed)
