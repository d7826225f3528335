use Rattle.std.proofs.Common.{◌≡◌, ◌+◌, length, take}
use Rattle.std.specs.Prelude.{flat_map}
use Rattle.tis_grid.proofs.choices.Choices.at.Given as goal

abbrev pub invariant-loop-events : goal.invariant-loop-events
invariant-loop-events l = length (flat_map (λ events. events.items) (take l.events-index l.self.lists)) + l.left ≡ l.index
