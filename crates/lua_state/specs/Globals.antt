-- Where each name stands among the globals.
use Rattle.std.specs.Prelude.{◌≡◌, ℕ, zero, suc, ◌==◌, List, [], ◌∷◌, get_or, if◌then◌else◌}
use Rattle.lua_state.specs.declared.variables.Variable.{Variable}
use Rattle.lua_state.specs.Bindings.{names}

-- one place further, where there is one
abbrev pub further : ℕ → ℕ
further zero = zero
further (suc place) = suc (suc place)

-- the place of the first of a name, where the first variable stands at place one; zero where there is none
abbrev pub first_place : ℕ → List ℕ → ℕ
first_place name [] = zero
first_place name (first ∷ more) = if first == name then suc zero else further (first_place name more)

-- the table has the place of each name
abbrev pub IsTableOf : List Variable → List ℕ → Type 0
IsTableOf variables places = (name : ℕ) → get_or places name 0 ≡ first_place name (names variables)
