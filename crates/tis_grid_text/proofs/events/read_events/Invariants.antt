use Rattle.std.proofs.Common.{◌≡◌, length}
use Rattle.tis_grid_text.specs.EventsText.{events_in, events_of}
use Rattle.tis_grid_text.proofs.EventLists.{behind}
use Rattle.tis_grid_text.proofs.events.read_events.Given as goal

abbrev pub invariant-lines : goal.invariant-lines
invariant-lines l = behind l.events.items (events_in l.lines) ≡ events_of l.text

abbrev pub decreases-lines : goal.decreases-lines
decreases-lines l = length l.lines
