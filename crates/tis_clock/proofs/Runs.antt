-- A run of cycles.
use Rattle.std.proofs.Common.{◌≡◌, ℕ, zero, suc, ◌+◌, List, [], ◌∷◌, length, inl, inr, refl, ap, subst, ◌∙◌, arith}
use Rattle.std.proofs.lemmas.Bool.{cases_lt}
use Rattle.tis_grid.specs.declared.event.Event.{Event}
use Rattle.tis_grid.specs.State.{Grid, IsGrid, State}
use Rattle.tis_grid.specs.Orders.{IsAtRest}
use Rattle.tis_clock.specs.Cycle.{cycle_events, after_cycle, after_cycles, state_after}
use Rattle.tis_clock.specs.Runs.{WorksBefore}
use Rattle.tis_clock.proofs.Resting.{rest_has_no_cycle}

-- one cycle more, at the end
cycle_last : (grid : Grid) (state : State) (count : ℕ) → after_cycles grid state (suc count) ≡ after_cycle grid (after_cycles grid state count)
cycle_last grid state zero = refl
cycle_last grid state (suc count) = cycle_last grid (after_cycle grid state) count

pub cycle_more : (grid : Grid) (state : State) (count : ℕ) → after_cycles grid state (count + 1) ≡ after_cycle grid (after_cycles grid state count)
cycle_more grid state count = ap (after_cycles grid state) (let one : count + 1 ≡ suc count = omega arith in one) ∙ cycle_last grid state count

none_of : (events : List Event) → length events ≡ 0 → events ≡ []
none_of [] is = refl
none_of (event ∷ events) is = absurd (omega (arith, is))

-- a cycle of no event is one at rest, and changes nothing
pub rests : (grid : Grid) (state : State) → IsGrid grid → length (cycle_events grid state) ≡ 0 → IsAtRest grid state
rests grid state is_grid none = (rest_has_no_cycle grid state is_grid).1 (none_of (cycle_events grid state) none)

pub stays : (grid : Grid) (state : State) → length (cycle_events grid state) ≡ 0 → after_cycle grid state ≡ state
stays grid state none = ap (state_after grid state) (none_of (cycle_events grid state) none)

-- a state with a cycle isn't at rest
pub works : (grid : Grid) (state : State) → IsGrid grid → (length (cycle_events grid state) ≡ 0 → ⊥) → IsAtRest grid state → ⊥
works grid state is_grid some rest = some (ap (λ (events : List Event). length events) ((rest_has_no_cycle grid state is_grid).0 rest))

-- one count more of cycles behind which the grid works
pub works_more : (grid : Grid) (start : State) (count : ℕ) → WorksBefore grid start count → (IsAtRest grid (after_cycles grid start count) → ⊥) → WorksBefore grid start (count + 1)
works_more grid start count before here fewer less rest =
    elim (cases_lt fewer count) [
      | inl earlier ↦ before fewer earlier rest
      | inr same ↦ here (subst (λ n. IsAtRest grid (after_cycles grid start n)) (let is : fewer ≡ count = omega (arith, same, less) in is) rest)
    ]
