-- The lemma on the first state that decides.
use Rattle.tis_grade.proofs.Firsts as Firsts
use Rattle.tis_grade.proofs.laws.verdicts_are_first.Goals as goal

pub returns : goal.returns
returns c = Firsts.verdicts_are_first
