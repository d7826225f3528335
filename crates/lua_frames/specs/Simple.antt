-- Expressions that have no parts, call nothing and have no fault.
use Rattle.std.specs.Prelude.{◌≡◌, ℕ, ◌+◌, ◌<◌, List, Bool, true, false, Option, Some, None, Result, Ok, Err}
use Rattle.lua_machine.specs.Answer.{most_units}
use Rattle.lua_machine.specs.State.{State, gives, value_of}
use Rattle.lua_machine.specs.Tree as t
use Rattle.lua_machine.specs.Tree.{Node}
use Rattle.lua_machine.specs.Machine.{Frame, Turned}
use Rattle.lua_machine.specs.Turn.{back, evaluating}
use Rattle.lua_machine.specs.Value.{LuaValue, Nil, Truth, Number}
use Rattle.lua_machine.specs.declared.error.LuaError.{LuaError}
use Rattle.lua_machine.specs.declared.error.LuaError.TheVariants as e
use Rattle.tis_base.specs.declared.memory.NoMemory.{NoMemory}
use Rattle.lua_state.specs.Store.{Store, in_state, pushed}
use Rattle.lua_frames.specs.Turns.{Reaches, Stops}

-- the value, if the expression is one
abbrev pub simple_value : Node → State → Option LuaValue
simple_value t.Nil state = Some Nil
simple_value t.True state = Some (Truth true)
simple_value t.False state = Some (Truth false)
simple_value (t.Number value) state = Some (Number value)
simple_value (t.Name called) state = Some (value_of called state)
simple_value _ state = None

-- it was put, or nothing was done
abbrev pub Pushes : Result Bool NoMemory → Option LuaValue → Store → Store → Type 0
Pushes (Ok true) (Some value) old new = new ≡ pushed value old
Pushes (Ok true) None old new = ⊥
Pushes (Ok false) value old new = new ≡ old
Pushes (Err why) value old new = Unit {0}

-- and its unit was paid; where the budget is spent more would be paid than may be
abbrev pub Puts : Result Bool LuaError → Option LuaValue → Store → ℕ → Store → ℕ → Type 0
Puts (Ok true) (Some value) old cost new now = (new ≡ pushed value old) × (now ≡ cost + 1)
Puts (Ok true) None old cost new now = ⊥
Puts (Ok false) value old cost new now = (new ≡ old) × (now ≡ cost)
Puts (Err e.NoMemory) value old cost new now = Unit {0}
Puts (Err e.Budget) (Some value) old cost new now = most_units < cost + 1
Puts (Err why) value old cost new now = ⊥

-- turns evaluated an expression, whose value was put
abbrev pub Gives : Node → Store → ℕ → Store → ℕ → Type 0
Gives node old cost new now =
    (value : LuaValue) × (state : State) × (new ≡ pushed value (in_state state old)) × ((frames : List Frame) (calls : ℕ) → Reaches (evaluating node frames calls old.state cost) (back (gives value state) frames calls now))

-- turns were stopped in it, behind so many units
abbrev pub IsStopped : LuaError → Node → Store → ℕ → ℕ → Type 0
IsStopped why node old cost now = (frames : List Frame) (calls : ℕ) → (to : Turned) × Reaches (evaluating node frames calls old.state cost) to × Stops why now to

-- its value was put, or nothing was done, or turns were stopped
abbrev pub Takes : Result Bool LuaError → Node → Store → ℕ → Store → ℕ → Type 0
Takes (Ok true) node old cost new now = Gives node old cost new now
Takes (Ok false) node old cost new now = (new ≡ old) × (now ≡ cost)
Takes (Err why) node old cost new now = IsStopped why node old cost now
