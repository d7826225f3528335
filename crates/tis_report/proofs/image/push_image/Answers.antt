use Rattle.std.proofs.Common.{List, ℕ, ◌++◌, ap, ◌∙◌}
use Rattle.std.specs.Prelude.{codes, decimal}
use Rattle.tis_devices.specs.Picture.{Picture}
use Rattle.tis_report.specs.Outputs.{rows_text, output_head}
use Rattle.tis_report.proofs.Growing.{image_made}
use Rattle.tis_report.proofs.image.push_image.Goals as goal

pub returns : goal.returns
returns c =
    image_made c.args.out.now.items (output_head (codes "image ") c.args.position) c.push_head.new.out.items c.push.new.self.items c.push_rows.new.out.items _
    c.in_ok-push_head.ensures c.in_ok-push.ensures.items (c.in_ok-push_rows.ensures ∙ ap (λ (p : Picture). c.push.new.self.items ++ rows_text p.colours) c.drawn-console.ensures)
