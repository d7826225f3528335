use Rattle.tis_asm.proofs.Cutting.{two_colons}
use Rattle.tis_asm.proofs.line.label_and_rest.Goals as goal

pub returns-in-Some : goal.returns-in-Some
returns-in-Some c = two_colons c.args.mark c.args.label.now c.args.rest.now c.in-Some.field-0.0.now c.in-Some.field-0.1.now c.in-Some.ensures
