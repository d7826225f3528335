-- The lemma is proved of every session.
use Rattle.tis_debug.proofs.SessionLaws as SessionLaws
use Rattle.tis_debug.proofs.laws.back_is_undone.Goals as goal

pub returns : goal.returns
returns c = SessionLaws.back_is_undone
