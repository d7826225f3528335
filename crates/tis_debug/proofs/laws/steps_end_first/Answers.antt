-- The lemma is proved of every session.
use Rattle.tis_debug.proofs.SessionLaws as SessionLaws
use Rattle.tis_debug.proofs.laws.steps_end_first.Goals as goal

pub returns : goal.returns
returns c = SessionLaws.steps_end_first
