use Rattle.tis_asm.proofs.ReadingBack.{programs_read_back}
use Rattle.tis_asm.proofs.laws.programs_read_back.Goals as goal

pub returns : goal.returns
returns c = programs_read_back
