-- The lemma that the lines are as many as told.
use Rattle.net_select.proofs.Lengths as Lengths
use Rattle.net_select.proofs.laws.lines_are_told.Goals as goal

pub returns : goal.returns
returns c = Lengths.lines_are_told
