-- What an evaluation stands on, with what waits beside its frames.
use Rattle.std.specs.Prelude.{◌≡◌, ℕ, pos, codes, List, [], ◌∷◌, take, drop, reverse, if◌then◌else◌, Result, Ok, Err}
use Rattle.lua_machine.specs.Value.{LuaValue, Nil, Number, Fault, is_key}
use Rattle.lua_machine.specs.Value as lua
use Rattle.lua_machine.specs.State.{State, Variables, Done, assigned, fresh}
use Rattle.lua_machine.specs.declared.error.LuaError.{LuaError}
use Rattle.lua_machine.specs.Tables.{stored}
use Rattle.lua_machine.specs.Yields.{Bounds, Way, Fails, Gone}
pub use Rattle.lua_operations.specs.Results.{Refuses}

-- values that wait, the locals of the calls around, and the bounds of the loops that are open, each innermost first
pub record Store : Type 0 where
  pub values : List LuaValue
  pub callers : List Variables
  pub loops : List Bounds
  pub state : State

-- with one more value
abbrev pub pushed : LuaValue → Store → Store
pushed value store = record store { values = value ∷ store.values }

-- with another state
abbrev pub in_state : State → Store → Store
in_state state store = record store { state = state }

-- the newest value, nil where there is none
abbrev pub newest : List LuaValue → LuaValue
newest [] = Nil
newest (value ∷ others) = value

abbrev pub older : List LuaValue → List LuaValue
older [] = []
older (value ∷ others) = others

-- without the newest value
abbrev pub popped : Store → Store
popped store = record store { values = older store.values }

-- the newest so many values, the oldest first
abbrev pub parts : ℕ → Store → List LuaValue
parts count store = reverse (take count store.values)

-- without them
abbrev pub without : ℕ → Store → Store
without count store = record store { values = drop count store.values }

-- where something was to be made: a value and a state, or a fault
abbrev pub with_made : Result LuaValue Fault → State → Store → Result Store Fault
with_made (Ok value) state store = Ok (pushed value (in_state state store))
with_made (Err why) state store = Err why

abbrev pub with_done : Done LuaValue → Store → Result Store Fault
with_done done store = with_made done.outcome done.state store

-- a call came to the wanted end, unless memory ran out
abbrev pub Answers : {U T : Type 0} → Result U LuaError → T → Result T Fault → Type 0
Answers (Ok u) now wanted = wanted ≡ Ok now
Answers (Err why) now wanted = Refuses why wanted

-- a state that a statement left, or its fault
abbrev pub left_by : Way → State → Result State Fault
left_by (Fails why) state = Err why
left_by way state = Ok state

abbrev pub ended : Gone → Result State Fault
ended gone = left_by gone.way gone.state

abbrev pub with_ended : Result State Fault → Store → Result Store Fault
with_ended (Ok state) store = Ok (in_state state store)
with_ended (Err why) store = Err why

-- a value was stored at a key of a table
abbrev pub storing : ℕ → LuaValue → LuaValue → Store → Store
storing at key value store = in_state (record store.state { tables = stored store.state.tables at key value }) store

-- an entry with a key, if it is one, goes into a table
abbrev pub with_entry : ℕ → ℕ → List LuaValue → Store → Result Store Fault
with_entry at line (key ∷ value ∷ []) store = if is_key key then Ok (storing at key value store) else Err (lua.TypeFault line)
with_entry at line _ store = Err (lua.TypeFault line)

-- how a call begins
abbrev pub starting : ℕ → Store
starting seed = record { values = []; callers = []; loops = []; state = fresh seed }

-- with the globals that are there at first
abbrev pub with_first : State → State
with_first state =
    assigned (codes "TILE_DAMAGED") (Number (pos 2)) (assigned (codes "TILE_MEMORY") (Number (pos 1)) (assigned (codes "TILE_COMPUTE") (Number (pos 0))
    (assigned (codes "STREAM_IMAGE") (Number (pos 2)) (assigned (codes "STREAM_OUTPUT") (Number (pos 1)) (assigned (codes "STREAM_INPUT") (Number (pos 0)) state)))))
