-- How a run of cycles ends.
use Rattle.std.specs.Prelude.{◌≡◌, ℕ, ◌+◌, ◌<◌, ◌≤◌, List, Option}
use Rattle.tis_grid.specs.declared.running.Ended.{Ended}
use Rattle.tis_grid.specs.declared.running.Ended.TheVariants.{Rest, Limit}
use Rattle.tis_grid.specs.State.{Grid, State}
use Rattle.tis_grid.specs.Orders.{IsAtRest}
use Rattle.tis_grid.specs.HeldState.{spare_at}
use Rattle.tis_clock.specs.Cycle.{after_cycles}

-- after none of these cycles, fewer than so many, the grid is at rest
abbrev pub WorksBefore : Grid → State → ℕ → Type 0
WorksBefore grid start count = (fewer : ℕ) → fewer < count → IsAtRest grid (after_cycles grid start fewer) → ⊥

-- the state after some cycles, fewer than so many
abbrev pub IsAfterSome : Grid → State → ℕ → State → Type 0
IsAfterSome grid start most end = (done : ℕ) × (done < most) × (end ≡ after_cycles grid start done)

-- at rest after the fewest cycles behind which it is; or after as many as were allowed, and neither there nor before at rest
abbrev pub EndsAs : Grid → State → ℕ → Ended → State → Type 0
EndsAs grid start most (Rest done) end = (done ≤ most) × (end ≡ after_cycles grid start done) × IsAtRest grid end × WorksBefore grid start done
EndsAs grid start most (Limit done) end = (done ≡ most) × (end ≡ after_cycles grid start most) × WorksBefore grid start (most + 1)

-- the room of each output fell by so many places at most
abbrev pub LowersBy : ℕ → List (Option ℕ) → List (Option ℕ) → Type 0
LowersBy count old new = (position : ℕ) → spare_at old position ≤ spare_at new position + count
