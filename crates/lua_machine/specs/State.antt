-- What an evaluation stands on and changes: variables, tables, and the random generator, which stands for the seed and the number of words drawn.
use Rattle.std.specs.Prelude.{ℕ, pos, ◌-◌, Bool, false, ◌||◌, List, [], ◌∷◌, length, drop, if◌then◌else◌, Result, Ok, Err, codes}
use Rattle.std.specs.Str.{bytes_eq}
use Rattle.rand_pcg.specs.Lcg.{Lcg, started, increment_of}
use Rattle.rand_pcg.specs.Pcg.{multiplier_64}
use Rattle.lua_machine.specs.Value.{LuaValue, Nil, Number, Fault}
use Rattle.lua_machine.specs.Tables.{Row}

-- names with their values
abbrev pub Variables : Type 0
Variables = List (List ℕ × LuaValue)

-- the locals stand innermost first
pub record State : Type 0 where
  pub locals : Variables
  pub globals : Variables
  pub tables : List Row
  pub generator : Lcg

-- what an evaluation comes to: a value of its own kind or a fault, and the state behind it
pub record Done (T : Type 0) : Type 0 where
  pub outcome : Result T Fault
  pub state : State

abbrev pub gives : {T : Type 0} → T → State → Done T
gives value state = record { outcome = Ok value; state = state }

abbrev pub fails : {T : Type 0} → Fault → State → Done T
fails fault state = record { outcome = Err fault; state = state }

-- ---- names

abbrev pub is_among : List ℕ → Variables → Bool
is_among name [] = false
is_among name (first ∷ more) = bytes_eq first.0 name || is_among name more

-- the value of the first of this name, nil where there is none
abbrev pub look_up : List ℕ → Variables → LuaValue
look_up name [] = Nil
look_up name (first ∷ more) = if bytes_eq first.0 name then first.1 else look_up name more

-- a new value of the first of this name; where there is none, it comes last
abbrev pub replaced : List ℕ → LuaValue → Variables → Variables
replaced name value [] = (name, value) ∷ []
replaced name value (first ∷ more) = if bytes_eq first.0 name then (name, value) ∷ more else first ∷ replaced name value more

-- a name is the innermost local, else a global; a global that was never assigned is nil
abbrev pub value_of : List ℕ → State → LuaValue
value_of name state = if is_among name state.locals then look_up name state.locals else look_up name state.globals

-- an assignment to a name
abbrev pub assigned : List ℕ → LuaValue → State → State
assigned name value state =
    if is_among name state.locals then record state { locals = replaced name value state.locals } else record state { globals = replaced name value state.globals }

-- a new local
abbrev pub declared : List ℕ → LuaValue → State → State
declared name value state = record state { locals = (name, value) ∷ state.locals }

-- a block is left: the locals that were declared in it are gone, and the others are as it left them
abbrev pub left_block : State → State → State
left_block before after = record after { locals = drop (length after.locals - length before.locals) after.locals }

-- the parameters of a call, the last innermost; a missing argument is nil, and further ones are dropped
abbrev pub bound_onto : Variables → List (List ℕ) → List LuaValue → Variables
bound_onto outer [] args = outer
bound_onto outer (name ∷ names) [] = bound_onto ((name, Nil) ∷ outer) names []
bound_onto outer (name ∷ names) (arg ∷ args) = bound_onto ((name, arg) ∷ outer) names args

-- a function is entered: it sees its parameters and the globals
abbrev pub entered : List (List ℕ) → List LuaValue → State → State
entered params args state = record state { locals = bound_onto [] params args }

-- a function is left: the locals of its caller are as they were
abbrev pub left_call : State → State → State
left_call before after = record after { locals = before.locals }

-- ---- how an evaluation begins

abbrev pub first_globals : Variables
first_globals =
    (codes "STREAM_INPUT", Number (pos 0)) ∷ (codes "STREAM_OUTPUT", Number (pos 1)) ∷ (codes "STREAM_IMAGE", Number (pos 2))
    ∷ (codes "TILE_COMPUTE", Number (pos 0)) ∷ (codes "TILE_MEMORY", Number (pos 1)) ∷ (codes "TILE_DAMAGED", Number (pos 2)) ∷ []

-- fresh globals, no tables, and the 32-bit PCG of the seed with stream 1
abbrev pub fresh : ℕ → State
fresh seed = record { locals = []; globals = first_globals; tables = []; generator = started 64 multiplier_64 seed (increment_of 64 1) }
