use Rattle.tis_save.proofs.SavesReadBack.{saves_read_back}
use Rattle.tis_save.proofs.laws.saves_read_back.Goals as goal

pub returns : goal.returns
returns c = saves_read_back
