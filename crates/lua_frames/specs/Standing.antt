-- What is evaluated and executed where it stands, over frames that wait and aren't looked at.
use Rattle.std.specs.Prelude.{◌≡◌, ℕ, ◌+◌, List, [], ◌∷◌, ◌++◌, reverse, Some, Err}
use Rattle.lua_machine.specs.Machine as machine
use Rattle.lua_machine.specs.Machine.{Turned, Next, Ended}
use Rattle.lua_machine.specs.State.{State, gives}
use Rattle.lua_machine.specs.Tree.{Node, Nodes, none, ◌and◌}
use Rattle.lua_machine.specs.Library.{MathFunction}
use Rattle.lua_machine.specs.Turn.{Quotient, back, begun, evaluating, made, math_begun}
use Rattle.lua_machine.specs.Value.{LuaValue, UnknownName}
use Rattle.lua_state.specs.Store.{in_state, parts, pushed, without}
use Rattle.lua_frames.specs.declared.frame.Frame.{Frame}
use Rattle.lua_frames.specs.declared.machine.Machine.{Machine}
use Rattle.lua_frames.specs.declared.valued.Valued.{Valued}
use Rattle.lua_frames.specs.declared.valued.Valued.TheVariants as v
use Rattle.lua_frames.specs.Frames.{Waits, around, frame_of, frames_of, waits_in}
use Rattle.lua_frames.specs.Machines.{beside, control_of, state_in, store_in}
use Rattle.lua_frames.specs.Turns.{Reaches, Stops}

-- where turns start, by the frames and the count of calls around
abbrev pub Start : Type 0
Start = List machine.Frame → ℕ → Turned

-- nothing else than the state, the units, and where and why the machine ended changed
abbrev pub Keeps : Machine → Machine → Type 0
Keeps old new = (new.frames.items ≡ old.frames.items) × (new.calls ≡ old.calls)

-- where a machine waits, under frames in memory, innermost first
abbrev pub place : Machine → List Frame → ℕ → Turned
place m frames calls = Next (record { control = control_of m.at (store_in m); frames = frames_of frames (waits_in (beside m.at (store_in m))); calls = calls; state = state_in m; cost = m.units })

-- turns came to a place inside, around which the frames wait that became pending
pub record WaitsInside (from : Start) (base : Waits) (old new : Machine) : Type 0 where
  pub keeps : Keeps old new
  pub inner : List Frame
  pub pending : new.pending.items ≡ old.pending.items ++ inner
  pub reaches : (frames : List Frame) (calls : ℕ) → Reaches (from (frames_of frames base) calls) (place new (inner ++ frames) calls)

-- turns were stopped
abbrev pub IsHalted : Start → Machine → Type 0
IsHalted from new = (frames : List machine.Frame) (calls : ℕ) → (to : Turned) × Reaches (from frames calls) to × Stops new.fault new.units to

-- a frame waits under it
abbrev pub WaitsUnder : Valued → Start → Waits → Frame → Machine → Machine → Type 0
WaitsUnder v.Given from base frame old new = ⊥
WaitsUnder v.Waits from base frame old new = WaitsInside (λ frames calls. from (frame_of frame base ∷ frames) calls) (around frame base) old new
WaitsUnder v.Stopped from base frame old new = (elsewhere : Start) → IsHalted elsewhere new

-- turns evaluated an expression, whose value was put
pub record IsValued (from : Start) (old new : Machine) : Type 0 where
  pub keeps : Keeps old new
  pub pending : new.pending.items ≡ old.pending.items
  pub value : LuaValue
  pub state : State
  pub put : store_in new ≡ pushed value (in_state state (store_in old))
  pub reaches : (frames : List machine.Frame) (calls : ℕ) → Reaches (from frames calls) (back (gives value state) frames calls new.units)

-- its value was put; or turns came to a place inside, or were stopped
abbrev pub Evaluates : Valued → Start → Machine → Machine → Type 0
Evaluates v.Given from old new = IsValued from old new
Evaluates v.Waits from old new = WaitsInside from (waits_in (store_in old)) old new
Evaluates v.Stopped from old new = IsHalted from new

-- an expression is evaluated here
abbrev pub evaluation : Node → Machine → Start
evaluation node m frames calls = evaluating node frames calls (state_in m) m.units

-- parts are evaluated here, behind so many values
abbrev pub gathering : machine.Making → ℕ → Nodes → Machine → Start
gathering making count nodes m frames calls = begun making (parts count (store_in m)) nodes frames calls (state_in m) m.units

-- the same of a part behind so many values
abbrev pub PartEvaluates : Valued → machine.Making → ℕ → Node → Nodes → Machine → Machine → Type 0
PartEvaluates v.Given making count part others old new = IsValued (evaluation part old) old new
PartEvaluates v.Waits making count part others old new = WaitsInside (gathering making count (part and others) old) (waits_in (without count (store_in old))) old new
PartEvaluates v.Stopped making count part others old new = IsHalted (gathering making count (part and others) old) new

-- the parts of an operation, behind its unit
abbrev pub operating : machine.Making → Nodes → Machine → Start
operating making nodes m frames calls = begun making [] nodes frames calls (state_in m) (m.units + 1)

-- a call of a function of `math` is begun here
abbrev pub math_calling : MathFunction → Nodes → ℕ → Machine → Start
math_calling function args line m frames calls = math_begun (Some function) args line frames calls (state_in m) m.units

-- a call of a function that isn't there is begun here
abbrev pub unknown_calling : ℕ → Machine → Start
unknown_calling line m frames calls = Ended (Err (UnknownName line)) (m.units + 1)

-- the sides of a quotient, of which the floor is taken, are evaluated here
abbrev pub sides_calling : Quotient → Machine → Start
sides_calling of m frames calls = begun (machine.Floors of.line) [] (of.left and of.right and none) frames calls (state_in m) m.units

-- the floor of a quotient is begun here: it pays two units
abbrev pub floor_calling : Quotient → Machine → Start
floor_calling of m frames calls = begun (machine.Floors of.line) [] (of.left and of.right and none) frames calls (state_in m) (m.units + 2)

-- all of them were evaluated
abbrev pub IsGathered : machine.Making → Nodes → List LuaValue → State → Machine → Machine → Type 0
IsGathered making nodes values state old new = (frames : List machine.Frame) (calls : ℕ) → Reaches (operating making nodes old frames calls) (made making values frames calls state new.units)

-- the one part of an operation was put
pub record HasOne (making : machine.Making) (part : Node) (old new : Machine) : Type 0 where
  pub keeps : Keeps old new
  pub pending : new.pending.items ≡ old.pending.items
  pub a : LuaValue
  pub state : State
  pub put : store_in new ≡ pushed a (in_state state (store_in old))
  pub gathered : IsGathered making (part and none) (a ∷ []) state old new

abbrev pub TakesOne : Valued → machine.Making → Node → Machine → Machine → Type 0
TakesOne v.Given making part old new = HasOne making part old new
TakesOne v.Waits making part old new = WaitsInside (operating making (part and none) old) (waits_in (store_in old)) old new
TakesOne v.Stopped making part old new = IsHalted (operating making (part and none) old) new

-- both were
pub record HasTwo (making : machine.Making) (left right : Node) (old new : Machine) : Type 0 where
  pub keeps : Keeps old new
  pub pending : new.pending.items ≡ old.pending.items
  pub a : LuaValue
  pub b : LuaValue
  pub state : State
  pub put : store_in new ≡ pushed b (pushed a (in_state state (store_in old)))
  pub gathered : IsGathered making (left and right and none) (a ∷ b ∷ []) state old new

abbrev pub TakesTwo : Valued → machine.Making → Node → Node → Machine → Machine → Type 0
TakesTwo v.Given making left right old new = HasTwo making left right old new
TakesTwo v.Waits making left right old new = WaitsInside (operating making (left and right and none) old) (waits_in (store_in old)) old new
TakesTwo v.Stopped making left right old new = IsHalted (operating making (left and right and none) old) new

-- three were
pub record HasThree (making : machine.Making) (first second third : Node) (old new : Machine) : Type 0 where
  pub keeps : Keeps old new
  pub pending : new.pending.items ≡ old.pending.items
  pub a : LuaValue
  pub b : LuaValue
  pub c : LuaValue
  pub state : State
  pub put : store_in new ≡ pushed c (pushed b (pushed a (in_state state (store_in old))))
  pub gathered : IsGathered making (first and second and third and none) (a ∷ b ∷ c ∷ []) state old new

abbrev pub TakesThree : Valued → machine.Making → Node → Node → Node → Machine → Machine → Type 0
TakesThree v.Given making first second third old new = HasThree making first second third old new
TakesThree v.Waits making first second third old new = WaitsInside (operating making (first and second and third and none) old) (waits_in (store_in old)) old new
TakesThree v.Stopped making first second third old new = IsHalted (operating making (first and second and third and none) old) new

-- the frames that were pending wait above the others
abbrev pub IsPut : Machine → Machine → Type 0
IsPut old new = (reverse new.frames.items ≡ old.pending.items ++ reverse old.frames.items) × (new.state ≡ old.state) × (new.at ≡ old.at) × (new.calls ≡ old.calls) × (new.units ≡ old.units)
