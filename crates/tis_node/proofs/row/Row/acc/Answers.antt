-- The sum is small, and no bit of it is lost.
use Rattle.std.proofs.Common.{◌≡◌, ℤ, ap, ◌∙◌, arith, rules, FitsSigned, to_z, of_z, w16, w64}
use Rattle.std.specs.Prelude.{◌+ℤ◌, ◌*ℤ◌}
use Rattle.std.proofs.lemmas.Int.{ints, to_z-of_z}
use Rattle.tis_base.specs.Saturation.{sat}
use Rattle.tis_node.proofs.row.Row.acc.Goals as goal

pub overflow_add-times-2 : goal.overflow_add-times-2
overflow_add-times-2 c = omega (arith, ints)

pub returns : goal.returns
returns c =
    let row = c.args.self.now in
    let few : FitsSigned w16 row.of_acc = search rules in
    let fewer : FitsSigned w16 row.of_bak = search rules in
    let one : c.times.result ≡ row.of_acc *ℤ c.args.acc = c.times.ensures.is ∙ ap (λ (z : ℤ). z *ℤ c.args.acc) (to_z-of_z w16 row.of_acc few) in
    let other : c.times-2.result ≡ row.of_bak *ℤ c.args.bak = c.times-2.ensures.is ∙ ap (λ (z : ℤ). z *ℤ c.args.bak) (to_z-of_z w16 row.of_bak fewer) in
    let parts : c.times.result +ℤ c.times-2.result +ℤ row.plus ≡ row.of_acc *ℤ c.args.acc +ℤ row.of_bak *ℤ c.args.bak +ℤ row.plus = λ i. one i +ℤ other i +ℤ row.plus in
    let whole : to_z w64 (of_z w64 (to_z w64 (of_z w64 (to_z w64 (of_z w64 c.times.result) +ℤ to_z w64 (of_z w64 c.times-2.result))) +ℤ to_z w64 (of_z w64 c.from.result))) ≡ c.times.result +ℤ c.times-2.result +ℤ row.plus = omega (arith, ints) in
    c.clamp.ensures ∙ ap sat (whole ∙ parts)
