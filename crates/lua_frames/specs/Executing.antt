-- Statements that are executed where they stand.
use Rattle.std.specs.Prelude.{◌≡◌, ℕ, ◌+◌, List, ◌∷◌, length}
use Rattle.lua_machine.specs.Machine as machine
use Rattle.lua_machine.specs.Machine.{Turned, Next, Execute, Inner}
use Rattle.lua_machine.specs.State.{State}
use Rattle.lua_machine.specs.Tree.{Node, ArmNodes, BlockNode, StatementNode}
use Rattle.lua_machine.specs.Turn.{choosing, evaluating, left, running}
use Rattle.lua_machine.specs.Yields as lua
use Rattle.lua_state.specs.Store.{in_state}
use Rattle.lua_frames.specs.declared.frame.Frame.{Frame}
use Rattle.lua_frames.specs.declared.machine.Machine.{Machine}
use Rattle.lua_frames.specs.declared.outcome.Outcome.{Outcome}
use Rattle.lua_frames.specs.declared.outcome.Outcome.TheVariants as o
use Rattle.lua_frames.specs.declared.valued.Valued.{Valued}
use Rattle.lua_frames.specs.declared.valued.Valued.TheVariants as v
use Rattle.lua_frames.specs.Frames.{Waits, around, frame_of, waits_in}
use Rattle.lua_frames.specs.Machines.{state_in, store_in}
use Rattle.lua_frames.specs.Standing.{IsHalted, IsValued, Keeps, Start, WaitsInside}
use Rattle.lua_frames.specs.Turns.{Reaches}

-- turns ended with a way out that gives no value
pub record IsLeft (way : lua.Way) (from : Start) (old new : Machine) : Type 0 where
  pub keeps : Keeps old new
  pub pending : new.pending.items ≡ old.pending.items
  pub state : State
  pub put : store_in new ≡ in_state state (store_in old)
  pub reaches : (frames : List machine.Frame) (calls : ℕ) → Reaches (from frames calls) (left (record { way = way; state = state }) frames calls new.units)

-- it ended in this way, with a value that was put; or turns came to a place inside, or were stopped
abbrev pub Executes : Outcome → Start → Machine → Machine → Type 0
Executes o.Goes from old new = IsLeft lua.Goes from old new
Executes o.Breaks from old new = IsLeft lua.Breaks from old new
Executes o.Returns from old new = IsValued from old new
Executes o.Waits from old new = WaitsInside from (waits_in (store_in old)) old new
Executes o.Stopped from old new = IsHalted from new

-- a frame waits under it
abbrev pub LeavesUnder : Outcome → Start → Waits → Frame → Machine → Machine → Type 0
LeavesUnder o.Waits from base frame old new = WaitsInside (λ frames calls. from (frame_of frame base ∷ frames) calls) (around frame base) old new
LeavesUnder o.Stopped from base frame old new = (elsewhere : Start) → IsHalted elsewhere new
LeavesUnder _ from base frame old new = ⊥

-- a statement is executed here
abbrev pub execution : StatementNode → Machine → Start
execution statement m frames calls = Next (record { control = Execute statement; frames = frames; calls = calls; state = state_in m; cost = m.units })

-- statements are
abbrev pub block : BlockNode → Machine → Start
block body m frames calls = running body frames calls (state_in m) m.units

-- statements whose locals end with them
abbrev pub inner_block : BlockNode → Machine → Start
inner_block body m frames calls = running body (Inner (length (state_in m).locals) ∷ frames) calls (state_in m) m.units

-- a choice, whose unit is paid
abbrev pub choice : ArmNodes → Machine → Start
choice arms m frames calls = choosing arms frames calls (state_in m) m.units

-- a value is evaluated here, behind the unit of its statement
abbrev pub paid_evaluation : Node → Machine → Start
paid_evaluation node m frames calls = evaluating node frames calls (state_in m) (m.units + 1)

-- the same under a frame that waits for it
abbrev pub awaited : Frame → Node → Machine → Start
awaited frame node m frames calls = paid_evaluation node m (frame_of frame (waits_in (store_in m)) ∷ frames) calls

-- the value of a statement was put, or a frame waits for it
abbrev pub ValueFor : Valued → Frame → Node → Machine → Machine → Type 0
ValueFor v.Given frame node old new = IsValued (paid_evaluation node old) old new
ValueFor v.Waits frame node old new = WaitsInside (awaited frame node old) (around frame (waits_in (store_in old))) old new
ValueFor v.Stopped frame node old new = IsHalted (awaited frame node old) new
