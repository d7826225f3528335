-- What a call of the code came to, beside what is wanted.
use Rattle.std.specs.Prelude.{◌≡◌, Result, Ok, Err}
use Rattle.lua_machine.specs.Value.{LuaValue, Fault}
use Rattle.lua_machine.specs.Value as lua
use Rattle.lua_machine.specs.State.{State, Done, gives}
use Rattle.lua_machine.specs.declared.error.LuaError.{LuaError}
use Rattle.lua_machine.specs.declared.error.LuaError.TheVariants as e
use Rattle.lua_store.specs.declared.value.SmallValue.{SmallValue}
use Rattle.lua_store.specs.Values.{Texts, IsHeld, meant}

-- a refusal is this fault, unless memory ran out
abbrev pub Refuses : {T : Type 0} → LuaError → Result T Fault → Type 0
Refuses (e.TypeFault line) wanted = wanted ≡ Err (lua.TypeFault line)
Refuses (e.UnknownName line) wanted = wanted ≡ Err (lua.UnknownName line)
Refuses (e.Inexact line) wanted = wanted ≡ Err (lua.Inexact line)
Refuses (e.OutOfRange line) wanted = wanted ≡ Err (lua.OutOfRange line)
Refuses (e.LongString line) wanted = wanted ≡ Err (lua.LongString line)
Refuses (e.TooDeepCalls line) wanted = wanted ≡ Err (lua.TooDeepCalls line)
Refuses e.Budget wanted = ⊥
Refuses e.NoMemory wanted = Unit {0}

-- a call gives what is wanted, unless memory ran out
abbrev pub ComesTo : {T : Type 0} → Result T LuaError → Result T Fault → Type 0
ComesTo (Ok x) wanted = wanted ≡ Ok x
ComesTo (Err why) wanted = Refuses why wanted

-- a value was made as wanted, and its text is held, unless memory ran out
abbrev pub Comes : Texts → Result SmallValue LuaError → Result LuaValue Fault → Type 0
Comes texts (Ok value) wanted = (wanted ≡ Ok (meant texts value)) × IsHeld texts value
Comes texts (Err why) wanted = Refuses why wanted

-- a value was made as wanted, and the state behind it, unless memory ran out
abbrev pub Makes : Texts → Result SmallValue LuaError → State → Done LuaValue → Type 0
Makes texts (Ok value) now wanted = (wanted ≡ gives (meant texts value) now) × IsHeld texts value
Makes texts (Err why) now wanted = Refuses why wanted.outcome
