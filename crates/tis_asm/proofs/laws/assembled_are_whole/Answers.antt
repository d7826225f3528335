use Rattle.tis_asm.proofs.Soundness.{assembled_are_whole}
use Rattle.tis_asm.proofs.laws.assembled_are_whole.Goals as goal

pub returns : goal.returns
returns c = assembled_are_whole
