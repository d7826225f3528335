-- A point that a state can be brought back to.
use Rattle.std.specs.Prelude.{ℕ, ◌≤◌, ℤ, List, [], ◌∷◌, length, map, take, get_or, Option, Some, None, option_map}
use Rattle.tis_asm.specs.Node.{Node}
use Rattle.tis_grid.specs.State.{State, output_taken}

-- the nodes, the stacks and the values left of a state, and how many values each output had taken
pub record Point : Type 0 where
  pub nodes : List Node
  pub stacks : List (List ℤ)
  pub left : List (Option ℕ)
  pub lengths : List (Option ℕ)

-- the point of a state
abbrev pub point_of : State → Point
point_of state =
    record {
      nodes = state.nodes;
      stacks = state.stacks;
      left = state.left;
      lengths = map (λ taken. option_map (λ values. length values) taken) state.outs;
    }

-- the first values of an output, as many as it had taken at the point
abbrev pub cut : Option ℕ → Option (List ℤ) → Option (List ℤ)
cut None taken = taken
cut (Some count) taken = option_map (λ values. take count values) taken

-- the outputs, each cut to what it had taken at the point
abbrev pub cut_each : List (Option ℕ) → List (Option (List ℤ)) → List (Option (List ℤ))
cut_each lengths [] = []
cut_each [] (taken ∷ outs) = taken ∷ outs
cut_each (count ∷ lengths) (taken ∷ outs) = cut count taken ∷ cut_each lengths outs

-- the state with all else as it was at the point
abbrev pub returned : State → Point → State
returned state point = record { nodes = point.nodes; stacks = point.stacks; left = point.left; outs = cut_each point.lengths state.outs }

-- an output has at least so many values, where both are told
abbrev pub HasTaken : Option ℕ → Option (List ℤ) → Type 0
HasTaken None None = Unit {0}
HasTaken None (Some values) = ⊥
HasTaken (Some count) None = ⊥
HasTaken (Some count) (Some values) = count ≤ length values

-- the outputs stand where they stood at the point, and each has at least as many values as then
abbrev pub CanReturn : State → Point → Type 0
CanReturn state point = (position : ℕ) → HasTaken (get_or point.lengths position None) (output_taken state position)
