-- The lemmas that cycles are legal.
use Rattle.tis_clock.proofs.Legal as Legal
use Rattle.tis_clock.proofs.laws.cycles_are_legal.Goals as goal

pub returns : goal.returns
returns c = record { cycle = Legal.cycles_are_legal; run = Legal.runs_are_legal }
