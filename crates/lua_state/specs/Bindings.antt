-- Variables that stand one above the other, the innermost first, and where the innermost of each name stands.
use Rattle.std.specs.Prelude.{◌≡◌, ℕ, zero, suc, ◌==◌, List, [], ◌∷◌, map, length, get_or, if◌then◌else◌}
use Rattle.lua_state.specs.declared.bindings.Binding.{Binding}
use Rattle.lua_state.specs.declared.variables.Variable.{Variable}

abbrev pub names : List Variable → List ℕ
names variables = map (λ (v : Variable). v.name) variables

abbrev pub variables_in : List Binding → List Variable
variables_in bindings = map (λ (b : Binding). b.variable) bindings

-- the place of the innermost of a name, where the outermost variable stands at place one; zero where there is none
abbrev pub place_of : ℕ → List ℕ → ℕ
place_of name [] = zero
place_of name (first ∷ outer) = if first == name then suc (length outer) else place_of name outer

-- for each, the place of the next outer one of its name
abbrev pub places_shadowed : List ℕ → List ℕ
places_shadowed [] = []
places_shadowed (first ∷ outer) = place_of first outer ∷ places_shadowed outer

-- the table has the place of the innermost of each name, and each binding that of the one that it shadows
pub record ArePlaced (bindings : List Binding) (innermost : List ℕ) : Type 0 where
  pub each : (name : ℕ) → get_or innermost name 0 ≡ place_of name (names (variables_in bindings))
  pub shadowed : map (λ (b : Binding). b.shadowed) bindings ≡ places_shadowed (names (variables_in bindings))
