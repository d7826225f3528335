-- What a call that does a cycle keeps: which tiles were writing, what a tile chose, and the room of the outputs.
use Rattle.std.specs.Prelude.{◌≡◌, ℕ, ◌<◌, Bool, false, List, [], ◌∷◌, Option, Some, None, IsTrue, get_or}
use Rattle.tis_grid.specs.declared.event.Event.{Event}
use Rattle.tis_grid.specs.State.{Grid, State}
use Rattle.tis_grid.specs.Puzzle.{has_output}
use Rattle.tis_grid.specs.HeldState.{spare_at, spares_after}
use Rattle.tis_clock.specs.Cycle.{writers}

-- of each tile, whether it was writing when the cycle began, as it is kept
abbrev pub kept_at : List Bool → ℕ → Bool
kept_at kept tile = get_or kept tile false

-- which tiles were writing in a state is kept
abbrev pub Keeps : List Bool → State → Type 0
Keeps kept state = (tile : ℕ) → kept_at kept tile ≡ writers state tile

-- what a tile chose to do, as events
abbrev pub acts : Option Event → List Event
acts None = []
acts (Some event) = event ∷ []

-- the room behind what it chose
abbrev pub room_behind : List (Option ℕ) → Option Event → List (Option ℕ)
room_behind spares None = spares
room_behind spares (Some event) = spares_after spares event

-- the outputs have room enough for one value each
abbrev pub HasRoomForOne : Grid → List (Option ℕ) → Type 0
HasRoomForOne grid spares = (position : ℕ) → IsTrue (has_output grid.puzzle.outputs position) → 0 < spare_at spares position
