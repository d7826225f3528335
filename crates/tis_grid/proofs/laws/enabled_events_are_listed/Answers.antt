-- The lemmas that the events that are listed are those that are enabled.
use Rattle.tis_grid.proofs.Listed as Listed
use Rattle.tis_grid.proofs.laws.enabled_events_are_listed.Goals as goal

pub returns : goal.returns
returns c = record { listed = Listed.enabled_are_listed; rest = Listed.rest_lists_none }
