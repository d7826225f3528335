use Rattle.tis_asm.proofs.Counting.{steps_add_up}
use Rattle.tis_asm.proofs.laws.steps_add_up.Goals as goal

pub returns : goal.returns
returns c = steps_add_up
