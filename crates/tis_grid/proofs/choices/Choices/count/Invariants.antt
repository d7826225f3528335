use Rattle.std.proofs.Common.{◌≡◌, ◌≤◌, ◌*◌, length, take}
use Rattle.std.specs.Prelude.{flat_map}
use Rattle.tis_grid.proofs.choices.Choices.count.Given as goal

abbrev pub invariant-loop-events : goal.invariant-loop-events
invariant-loop-events l = (l.count ≡ length (flat_map (λ events. events.items) (take l.events-index l.self.lists))) × (l.count ≤ 13 * l.events-index)
