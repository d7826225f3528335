-- The lemma that a cycle is empty exactly at rest.
use Rattle.tis_clock.proofs.Resting as Resting
use Rattle.tis_clock.proofs.laws.rest_has_no_cycle.Goals as goal

pub returns : goal.returns
returns c = Resting.rest_has_no_cycle
