use Rattle.std.proofs.Common.{◌≡◌, ℕ, suc, ◌+◌, take, length, sym, ap, ◌∙◌, arith}
use Rattle.tis_devices.specs.Picture.{Picture, black, after_value, picture}
use Rattle.tis_devices.proofs.Pictures.{pictures_are_whole}
use Rattle.tis_grade.proofs.Pictures.{one_drawn}
use Rattle.tis_grade.proofs.follow.draw.Goals as goal

pub paint-differing-requires-clause-whole : goal.paint-differing-requires-clause-whole
paint-differing-requires-clause-whole c = ap (λ (p : Picture). length p.colours) c.loop-index.invariant.drawn ∙ (pictures_are_whole (take c.loop-index.index c.args.taken.now.items)).0

pub loop-index-preserved : goal.loop-index-preserved
loop-index-preserved c =
    let one : c.loop-index.index + 1 ≡ suc c.loop-index.index = omega arith in
    record {
      drawn =
          c.paint-differing.ensures.console
          ∙ ap (λ (p : Picture). after_value p c.at.result) c.loop-index.invariant.drawn
          ∙ sym (one_drawn black c.args.taken.now.items c.loop-index.index c.at.result c.at.ensures.value)
          ∙ ap (λ (n : ℕ). picture (take n c.args.taken.now.items)) (sym one);
      counted = c.paint-differing.ensures.differing;
    }
