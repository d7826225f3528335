-- The lemma is proved of every session.
use Rattle.tis_debug.proofs.SessionLaws as SessionLaws
use Rattle.tis_debug.proofs.laws.goes_stop_first.Goals as goal

pub returns : goal.returns
returns c = SessionLaws.goes_stop_first
