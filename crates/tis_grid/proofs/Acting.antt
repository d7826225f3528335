-- What one or two acting tiles leave of each tile's node.
use Rattle.std.proofs.Common.{◌≡◌, ◌≢◌, ℕ, ◌<◌, List, [], ◌∷◌, ◌++◌, length, get_or, set, inl, inr, sym, ap, ◌∙◌, subst, arith}
use Rattle.std.proofs.lemmas.Bool.{cases_eq}
use Rattle.std.proofs.lemmas.List.{append-nil, get_or-set_same, get_or-set_other, length-set}
use Rattle.tis_asm.specs.declared.program.MarkedInstr.{MarkedInstr}
use Rattle.tis_asm.specs.Node.{Node, fresh}
use Rattle.tis_asm.specs.PortRuns.{Step, IsStep, after_step}
use Rattle.tis_grid.specs.TileSteps.{step_at}
use Rattle.tis_grid.proofs.Ports.{own_step, other_step}
use Rattle.tis_grid.proofs.Runs.{Does, does_nothing, does_one, does_then}

-- the node of a tile
abbrev pub node_of : List Node → ℕ → Node
node_of nodes tile = get_or nodes tile fresh

-- the nodes after a tile made a step
abbrev pub stepped : (ℕ → List MarkedInstr) → List Node → ℕ → Step → List Node
stepped program nodes actor step = set nodes actor (after_step (program actor) (node_of nodes actor) step)

-- the steps of two tiles in either order
swapped : (tile giver taker : ℕ) (gave took : Step) → giver ≢ taker → step_at tile taker took ++ step_at tile giver gave ≡ step_at tile giver gave ++ step_at tile taker took
swapped tile giver taker gave took apart =
    elim (cases_eq giver tile) [
      | inl here ↦
          let none = other_step tile taker took (λ same. apart (here ∙ sym same)) in
          ap (λ (steps : List Step). steps ++ step_at tile giver gave) none ∙ sym (append-nil (step_at tile giver gave)) ∙ ap (λ (steps : List Step). step_at tile giver gave ++ steps) (sym none)
      | inr elsewhere ↦
          let none = other_step tile giver gave elsewhere in
          ap (λ (steps : List Step). step_at tile taker took ++ steps) none ∙ append-nil (step_at tile taker took) ∙ ap (λ (steps : List Step). steps ++ step_at tile taker took) (sym none)
    ]

module _ (program : ℕ → List MarkedInstr) where
  -- a tile makes a step, and the others none
  pub acts : (nodes : List Node) (actor : ℕ) (step : Step) (tile : ℕ) → actor < length nodes → IsStep (program actor) (node_of nodes actor) step → Does (program tile) (node_of nodes tile) (step_at tile actor step) (node_of (stepped program nodes actor step) tile)
  acts nodes actor step tile within is =
      elim (cases_eq actor tile) [
        | inl here ↦ subst (λ (t : ℕ). Does (program t) (node_of nodes t) (step_at t actor step) (node_of (stepped program nodes actor step) t)) here own
        | inr elsewhere ↦ other elsewhere
      ]
    where
      -- the node of the tile that acts makes its step
      own : Does (program actor) (node_of nodes actor) (step_at actor actor step) (node_of (stepped program nodes actor step) actor)
      own =
          let steps = own_step actor step in
          let after = get_or-set_same nodes actor (after_step (program actor) (node_of nodes actor) step) fresh within in
          subst (λ (s : List Step). Does (program actor) (node_of nodes actor) s (node_of (stepped program nodes actor step) actor)) (sym steps)
          (subst (λ (n : Node). Does (program actor) (node_of nodes actor) (step ∷ []) n) (sym after) (does_one (program actor) (node_of nodes actor) step is))

      -- the node of another tile stays
      other : (actor ≡ tile → ⊥) → Does (program tile) (node_of nodes tile) (step_at tile actor step) (node_of (stepped program nodes actor step) tile)
      other elsewhere =
          let steps = other_step tile actor step elsewhere in
          let after = get_or-set_other nodes actor tile (after_step (program actor) (node_of nodes actor) step) fresh (λ same. elsewhere (sym same)) in
          subst (λ (s : List Step). Does (program tile) (node_of nodes tile) s (node_of (stepped program nodes actor step) tile)) (sym steps)
          (subst (λ (n : Node). Does (program tile) (node_of nodes tile) [] n) (sym after) (does_nothing (program tile) (node_of nodes tile)))

  -- a tile takes a value and another gives it, and the others make no step
  pub both_act : (nodes : List Node) (giver taker : ℕ) (gave took : Step) (tile : ℕ) → giver ≢ taker → giver < length nodes → taker < length nodes → IsStep (program giver) (node_of nodes giver) gave → IsStep (program taker) (node_of nodes taker) took → Does (program tile) (node_of nodes tile) (step_at tile giver gave ++ step_at tile taker took) (node_of (stepped program (stepped program nodes taker took) giver gave) tile)
  both_act nodes giver taker gave took tile apart giver_within taker_within gives takes =
      let between = stepped program nodes taker took in
      let same : node_of between giver ≡ node_of nodes giver = get_or-set_other nodes taker giver _ fresh apart in
      let long : length between ≡ length nodes = length-set nodes taker _ in
      let first = acts nodes taker took tile taker_within takes in
      let second = acts between giver gave tile (omega arith) (subst (λ (n : Node). IsStep (program giver) n gave) (sym same) gives) in
      subst (λ (s : List Step). Does (program tile) (node_of nodes tile) s (node_of (stepped program between giver gave) tile)) (swapped tile giver taker gave took apart)
      (does_then (program tile) (node_of nodes tile) (step_at tile taker took) (step_at tile giver gave) (node_of between tile) (node_of (stepped program between giver gave) tile) first second)
