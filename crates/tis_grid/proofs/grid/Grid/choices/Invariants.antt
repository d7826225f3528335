use Rattle.std.proofs.Common.{◌≡◌, ℕ, ◌<◌, length, get_or, []}
use Rattle.tis_grid.specs.Choices.{those_enabled}
use Rattle.tis_grid.specs.HeldChoices.{events_in}
use Rattle.tis_grid.proofs.grid.Grid.choices.Given as goal

abbrev pub invariant-loop-list : goal.invariant-loop-list
invariant-loop-list l = (length l.lists ≡ 20) × ((list : ℕ) → list < l.list → (get_or l.lists list (record { items = [] })).items ≡ those_enabled l.self l.state.state (events_in list))
