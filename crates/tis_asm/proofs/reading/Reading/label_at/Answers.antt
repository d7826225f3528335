use Rattle.std.proofs.Common.{◌∙◌}
use Rattle.tis_asm.proofs.ReadLabels.{looked_up}
use Rattle.tis_asm.proofs.reading.Reading.label_at.Goals as goal

pub returns-in-None : goal.returns-in-None
returns-in-None c = c.in-None.ensures.value ∙ looked_up c.args.self.now.labels.entries c.args.label.now

pub returns-in-Some : goal.returns-in-Some
returns-in-Some c = c.in-Some.ensures.value ∙ looked_up c.args.self.now.labels.entries c.args.label.now
