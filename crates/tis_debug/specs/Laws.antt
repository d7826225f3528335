-- Laws of sessions, on every grid.
use Rattle.std.specs.Prelude.{◌≡◌, ℕ, ◌+◌, ◌<◌, ◌≤◌, ◌⊎◌, Some, None}
use Rattle.tis_grid.specs.State.{IsGrid}
use Rattle.tis_grid.specs.Orders.{IsAtRest}
use Rattle.tis_debug.specs.Sessions.{Session, MOST_KEPT, LAST_CYCLE, state_at, moved, moved_back, step_count, stop_after, go_count, go_stop}

-- a step of so many cycles can end after these: they are all, or nothing can happen, or it is the last cycle
abbrev pub CanEnd : Session → ℕ → ℕ → Type 0
CanEnd session count done = (done ≡ count) ⊎ (IsAtRest session.grid (state_at session.grid (session.cycle + done)) ⊎ (session.cycle + done ≡ LAST_CYCLE))

-- it ends there, and at no number of cycles before
pub record EndsFirst (session : Session) (count : ℕ) : Type 0 where
  pub ends : CanEnd session count (step_count session count)
  pub not_before : (done : ℕ) → done < step_count session count → CanEnd session count done → ⊥

-- a step does the fewest cycles after which it can end
abbrev pub StepsEndFirst : Type 0
StepsEndFirst = (session : Session) (count : ℕ) → IsGrid session.grid → EndsFirst session count

-- `go` stops, with what it answers, and after no number of cycles before
pub record StopsFirst (session : Session) : Type 0 where
  pub stops : stop_after session (go_count session) ≡ Some (go_stop session)
  pub not_before : (done : ℕ) → done < go_count session → stop_after session done ≡ None

-- `go` does the fewest cycles after which something stops it
abbrev pub GoesStopFirst : Type 0
GoesStopFirst = (session : Session) → StopsFirst session

-- as many cycles after those that were taken back, the session is what it was
abbrev pub BackIsUndone : Type 0
BackIsUndone = (session : Session) (count : ℕ) → count ≤ session.kept → session.kept ≤ session.cycle → session.kept ≤ MOST_KEPT → moved (moved_back session count) count ≡ session
