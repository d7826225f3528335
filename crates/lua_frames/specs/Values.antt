-- Expressions that are evaluated where they stand.
use Rattle.std.specs.Prelude.{◌≡◌, ℕ, ◌+◌, Option, Some, None, Result, Ok, Err}
use Rattle.lua_machine.specs.Tree.{Node, Nodes, ◌and◌}
use Rattle.lua_machine.specs.Machine as machine
use Rattle.lua_machine.specs.Machine.{Turned}
use Rattle.lua_machine.specs.Turn.{begun}
use Rattle.lua_machine.specs.declared.error.LuaError.{LuaError}
use Rattle.lua_state.specs.Store.{parts, without}
use Rattle.lua_frames.specs.declared.control.Control.{Control}
use Rattle.lua_frames.specs.declared.machine.Machine.{Machine}
use Rattle.lua_frames.specs.Machines.{frames_with, state_in, store_in}
use Rattle.lua_frames.specs.Simple.{Gives}
use Rattle.lua_frames.specs.Turns.{Comes, Reaches}

-- the frames and the count of open calls are the same again
abbrev pub Stands : Machine → Machine → Type 0
Stands old new = (new.frames.items ≡ old.frames.items) × (new.calls ≡ old.calls)

-- turns evaluated an expression, whose value was put
abbrev pub IsGiven : Node → Machine → Machine → Type 0
IsGiven node old new = Stands old new × Gives node (store_in old) old.units (store_in new) new.units

-- the parts that are left, where the newest so many values are those of the parts before
abbrev pub parts_left : machine.Making → ℕ → Nodes → Machine → Turned
parts_left making count others m = begun making (parts count (store_in m)) others (frames_with m (without count (store_in m))) m.calls (state_in m) m.units

-- the same of a part behind so many values
abbrev pub Passes : Result (Option Control) LuaError → machine.Making → ℕ → Node → Nodes → Machine → Machine → Type 0
Passes (Ok None) making count part others old new = IsGiven part old new
Passes (Ok (Some control)) making count part others old new = Comes (Ok control) new (parts_left making count (part and others) old)
Passes (Err why) making count part others old new = Comes (Err why) new (parts_left making count (part and others) old)

-- turns passed it
abbrev pub Leads : Result (Option Control) LuaError → machine.Making → ℕ → Node → Nodes → Machine → Machine → Type 0
Leads (Ok None) making count part others old new = Reaches (parts_left making count (part and others) old) (parts_left making (count + 1) others new)
Leads _ making count part others old new = Unit {0}
