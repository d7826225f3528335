use Rattle.tis_save.proofs.Sound.{saves_are_sound}
use Rattle.tis_save.proofs.laws.saves_are_sound.Goals as goal

pub returns : goal.returns
returns c = saves_are_sound
