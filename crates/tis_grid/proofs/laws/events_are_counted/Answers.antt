-- The lemma that each event is a step.
use Rattle.tis_grid.proofs.Grids as Grids
use Rattle.tis_grid.proofs.laws.events_are_counted.Goals as goal

pub returns : goal.returns
returns c = record { steps = Grids.steps_count_events }
