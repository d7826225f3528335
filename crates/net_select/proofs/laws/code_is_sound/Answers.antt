use Rattle.net_select.proofs.Sound as Sound
use Rattle.net_select.proofs.laws.code_is_sound.Goals as goal

pub returns : goal.returns
returns c = Sound.code_is_sound
