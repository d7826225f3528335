-- What a verdict is, said over the states of a run.
use Rattle.std.specs.Prelude.{◌≡◌, ◌⊎◌, ℕ, ◌+◌, ◌<◌, ◌≤◌, Option, Some, None}
use Rattle.tis_grid.specs.State.{Grid, start}
use Rattle.tis_clock.specs.Cycle.{after_cycles}
use Rattle.tis_grade.specs.declared.verdict.Verdict.{Verdict}
use Rattle.tis_grade.specs.declared.verdict.Verdict.TheVariants.{Late}
use Rattle.tis_grade.specs.Verdict.{decided, verdict_of}

-- what the state after so many cycles from the start decides
abbrev pub decided_after : Grid → ℕ → Option Verdict
decided_after grid cycles = decided grid (after_cycles grid (start grid) cycles) cycles

-- none of the states after fewer cycles decides
abbrev pub IsUndecidedBefore : Grid → ℕ → Type 0
IsUndecidedBefore grid count = (fewer : ℕ) → fewer < count → decided_after grid fewer ≡ None

-- the verdict is given after so many cycles, within the limit, and by no earlier state
pub record IsFirstVerdict (grid : Grid) (limit : ℕ) (verdict : Verdict) (cycles : ℕ) : Type 0 where
  pub within : cycles ≤ limit
  pub before : IsUndecidedBefore grid cycles
  pub given : decided_after grid cycles ≡ Some verdict

-- none of the states after so many cycles or fewer decides, and the verdict is that it is late
pub record IsLateVerdict (grid : Grid) (limit : ℕ) (verdict : Verdict) : Type 0 where
  pub undecided : IsUndecidedBefore grid (limit + 1)
  pub late : verdict ≡ Late limit

-- a verdict is that of the first state that decides, and where none up to the limit does, it is that it is late
abbrev pub VerdictsAreFirst : Type 0
VerdictsAreFirst = (grid : Grid) (limit : ℕ) → ((cycles : ℕ) × IsFirstVerdict grid limit (verdict_of grid limit) cycles) ⊎ IsLateVerdict grid limit (verdict_of grid limit)
