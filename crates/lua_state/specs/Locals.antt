-- The locals of all calls that are open.
use Rattle.std.specs.Prelude.{◌≡◌, ℕ, ◌-◌, ◌≤◌, List, [], ◌∷◌, length, take, drop}
use Rattle.lua_state.specs.declared.variables.Variable.{Variable}

-- the locals of the running function, and those of each call around it, innermost first
pub record Scopes : Type 0 where
  pub running : List Variable
  pub around : List (List Variable)

-- what stands above the lowest so many, and those
abbrev pub above : ℕ → List Variable → List Variable
above count variables = take (length variables - count) variables

abbrev pub lowest : ℕ → List Variable → List Variable
lowest count variables = drop (length variables - count) variables

-- the locals of each call, where those of the calls around it are the lowest so many
abbrev pub of_calls : List ℕ → List Variable → List (List Variable)
of_calls [] variables = []
of_calls (base ∷ bases) variables = above base variables ∷ of_calls bases (lowest base variables)

-- as many as there are, or fewer, stand below each call, and none below the outermost
abbrev pub AreBases : List ℕ → ℕ → Type 0
AreBases [] count = count ≡ 0
AreBases (base ∷ bases) count = (base ≤ count) × AreBases bases base
