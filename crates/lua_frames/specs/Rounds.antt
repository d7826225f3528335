-- Turns of a `for` that are executed where they stand.
use Rattle.std.specs.Prelude.{◌≡◌, ℕ, List, ◌∷◌}
use Rattle.lua_machine.specs.Machine as machine
use Rattle.lua_machine.specs.Machine.{Turned, ForBody}
use Rattle.lua_machine.specs.State.{State}
use Rattle.lua_machine.specs.Tree.{BlockNode}
use Rattle.lua_machine.specs.Turn.{running, turning}
use Rattle.lua_machine.specs.Yields as lua
use Rattle.lua_machine.specs.Yields.{next_turn}
use Rattle.lua_state.specs.Loops.{closed, newest_bounds}
use Rattle.lua_state.specs.Store.{in_state}
use Rattle.lua_frames.specs.declared.machine.Machine.{Machine}
use Rattle.lua_frames.specs.declared.outcome.Outcome.{Outcome}
use Rattle.lua_frames.specs.declared.outcome.Outcome.TheVariants as o
use Rattle.lua_frames.specs.Executing.{IsLeft}
use Rattle.lua_frames.specs.Frames.{waits_in}
use Rattle.lua_frames.specs.Machines.{frames_with, state_in, store_in}
use Rattle.lua_frames.specs.Standing.{IsHalted, IsValued, Keeps, Start, WaitsInside}
use Rattle.lua_frames.specs.Turns.{Reaches}

-- the next turn of the innermost loop, if it comes
abbrev pub next_round : List ℕ → BlockNode → Machine → Turned
next_round called body m = turning called (next_turn (newest_bounds (store_in m).loops)) body (frames_with m (closed (store_in m))) m.calls (state_in m) m.units

-- the body of a turn that came is executed here
abbrev pub round : ℕ → List ℕ → BlockNode → Machine → Start
round outer called body m frames calls = running body (ForBody outer called (newest_bounds (store_in m).loops) body ∷ frames) calls (state_in m) m.units

-- turns led to the next turn of the loop, if it comes
pub record IsRound (from : Start) (called : List ℕ) (body : BlockNode) (old new : Machine) : Type 0 where
  pub keeps : Keeps old new
  pub state : State
  pub put : store_in new ≡ in_state state (store_in old)
  pub reaches : (frames : List machine.Frame) (calls : ℕ) → Reaches (from frames calls) (turning called (next_turn (newest_bounds (store_in old).loops)) body frames calls state new.units)

-- the body of a turn ended in this way; where that leaves the loop, its bounds are still there
abbrev pub RoundEnds : Outcome → ℕ → List ℕ → BlockNode → Machine → Machine → Type 0
RoundEnds o.Goes outer called body old new = IsRound (round outer called body old) called body old new
RoundEnds o.Breaks outer called body old new = IsLeft lua.Goes (round outer called body old) old new
RoundEnds o.Returns outer called body old new = IsValued (round outer called body old) old new
RoundEnds o.Waits outer called body old new = WaitsInside (round outer called body old) (waits_in (closed (store_in old))) old new
RoundEnds o.Stopped outer called body old new = IsHalted (round outer called body old) new
