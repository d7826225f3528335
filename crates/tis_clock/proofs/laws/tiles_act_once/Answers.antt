-- The lemma that each tile does one thing in a cycle at most.
use Rattle.tis_clock.proofs.Once as Once
use Rattle.tis_clock.proofs.laws.tiles_act_once.Goals as goal

pub returns : goal.returns
returns c = Once.tiles_act_once
