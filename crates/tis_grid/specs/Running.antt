-- What the runs of a grid answer, and the state that each leaves.
use Rattle.std.specs.Prelude.{◌≡◌, ℕ, List, length, take, Some, Result, Ok, Err, slice_get}
use Rattle.tis_base.specs.declared.memory.NoMemory.{NoMemory}
use Rattle.tis_base.specs.Prefix.{IsPrefixOf}
use Rattle.tis_grid.specs.declared.event.Event.{Event}
use Rattle.tis_grid.specs.declared.running.Ended.{Ended}
use Rattle.tis_grid.specs.declared.running.Ended.TheVariants.{Rest, Limit}
use Rattle.tis_grid.specs.declared.running.OrderError.{OrderError}
use Rattle.tis_grid.specs.declared.running.OrderError.TheVariants as cause
use Rattle.tis_grid.specs.State.{Grid, State}
use Rattle.tis_grid.specs.Events.{IsEnabled}
use Rattle.tis_grid.specs.Orders.{after, IsAtRest}
use Rattle.tis_grid.specs.Drawn.{drawn}

-- the events before this index are legal and lead to a state, in which the event at the index isn't enabled
pub record StopsAt (grid : Grid) (state : State) (events : List Event) (index : ℕ) (end : State) : Type 0 where
  pub before : after grid state (take index events) ≡ Some end
  pub refused : (event : Event) × (slice_get events index ≡ Some event) × (IsEnabled grid end event → ⊥)

-- the order is legal and leads to this state, or stops at the index that is named; want of memory leaves the state
abbrev pub RunsOrder : Grid → State → List Event → Result (Unit {0}) OrderError → State → Type 0
RunsOrder grid state events (Ok done) end = after grid state events ≡ Some end
RunsOrder grid state events (Err (cause.NotEnabled index)) end = StopsAt grid state events index end
RunsOrder grid state events (Err cause.NoMemory) end = end ≡ state

-- so many events were drawn, and the state is at rest; or they are as many as may be drawn, and it isn't
abbrev pub EndsAs : Grid → State → ℕ → List Event → Ended → Type 0
EndsAs grid end most events (Rest done) = (done ≡ length events) × IsAtRest grid end
EndsAs grid end most events (Limit done) = (done ≡ length events) × (done ≡ most) × (IsAtRest grid end → ⊥)

-- the drawn order leads to this state, and its end is as it is told; want of memory leaves the state after the first events of that order
abbrev pub RunsSeeded : Grid → State → ℕ → ℕ → Result Ended NoMemory → State → Type 0
RunsSeeded grid state seed most (Ok ended) end = (after grid state (drawn grid state seed most) ≡ Some end) × EndsAs grid end most (drawn grid state seed most) ended
RunsSeeded grid state seed most (Err e) end = (done : List Event) × IsPrefixOf done (drawn grid state seed most) × (after grid state done ≡ Some end)
