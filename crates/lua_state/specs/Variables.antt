-- Variables as they are held: the place of the name among the texts, and the value.
use Rattle.std.specs.Prelude.{ℕ, ◌<◌, ◌==◌, List, [], ◌∷◌, map, length, get_or, ◌++◌, if◌then◌else◌, Option, Some, None}
use Rattle.std.specs.Option.{is_some}
use Rattle.lua_machine.specs.Value.{LuaValue}
use Rattle.lua_machine.specs.State as lua
use Rattle.lua_store.specs.declared.value.SmallValue.{SmallValue}
use Rattle.lua_store.specs.Values.{Texts, IsHeld, meant}
use Rattle.lua_state.specs.declared.variables.Variable.{Variable}

-- the value of the first of this name, where there is one
abbrev pub value_under : ℕ → List Variable → Option SmallValue
value_under name [] = None
value_under name (first ∷ more) = if first.name == name then Some first.value else value_under name more

-- a new value of the first of this name
abbrev pub with_value : ℕ → SmallValue → List Variable → List Variable
with_value name value [] = []
with_value name value (first ∷ more) = if first.name == name then record { name = name; value = value } ∷ more else first ∷ with_value name value more

-- a new value of the first of this name; where there is none, it comes last
abbrev pub with_global : ℕ → SmallValue → List Variable → List Variable
with_global name value variables = if is_some (value_under name variables) then with_value name value variables else variables ++ record { name = name; value = value } ∷ []

-- what it stands for
abbrev pub variable_of : Texts → Variable → List ℕ × LuaValue
variable_of texts variable = (get_or texts variable.name [], meant texts variable.value)

abbrev pub variables_of : Texts → List Variable → lua.Variables
variables_of texts variables = map (variable_of texts) variables

-- its name and its value are held
abbrev pub IsHeldVariable : Texts → Variable → Type 0
IsHeldVariable texts variable = (variable.name < length texts) × IsHeld texts variable.value
