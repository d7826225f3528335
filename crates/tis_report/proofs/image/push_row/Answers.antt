use Rattle.std.proofs.Common.{◌≡◌, ◌+◌, sym, ap, ◌∙◌}
use Rattle.std.proofs.lemmas.Option.{get_or_from_slice_get}
use Rattle.tis_devices.specs.Picture.{point_of}
use Rattle.tis_report.specs.Outputs.{point_digit}
use Rattle.tis_report.proofs.Growing.{byte_more}
use Rattle.tis_report.proofs.image.push_row.Goals as goal

pub loop-x-preserved : goal.loop-x-preserved
loop-x-preserved c =
    let colours = c.args.console.now.colours in
    let digit = ap (λ n. 48 + n) (sym (get_or_from_slice_get colours (point_of c.loop-x.x c.args.y) c.pixel.result 0 c.pixel.ensures.pixel)) in
    byte_more (point_digit colours c.args.y) c.args.out.now.items c.loop-x.out.items c.push.new.self.items c.loop-x.x _ digit c.in_ok-push.ensures.items c.loop-x.invariant
