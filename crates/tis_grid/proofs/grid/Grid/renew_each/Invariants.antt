use Rattle.std.proofs.Common.{◌≡◌, ℕ, ◌/◌, ◌<◌, length}
use Rattle.std.specs.Int.{bit_at}
use Rattle.tis_grid.specs.HeldChoices.{IsRight}
use Rattle.tis_grid.proofs.grid.Grid.renew_each.Given as goal

abbrev pub invariant-places : goal.invariant-places
invariant-places l =
    record {
      len : length l.choices.lists ≡ 20;
      within : (place : ℕ) → bit_at l.left place ≡ 1 → place < 48;
      here : (place : ℕ) → place < 48 → bit_at l.places place ≡ 1 → (bit_at l.left place ≡ 1 → ⊥) → IsRight l.self l.state.state l.choices.lists (place / 4);
      others : (other : ℕ) → IsRight l.self l.state.state l.fn.choices.lists other → IsRight l.self l.state.state l.choices.lists other;
    }

abbrev pub decreases-places : goal.decreases-places
decreases-places l = l.left
