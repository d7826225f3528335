use Rattle.tis_asm.proofs.ReadingBack.{lines_read_back}
use Rattle.tis_asm.proofs.laws.lines_read_back.Goals as goal

pub returns : goal.returns
returns c = lines_read_back
