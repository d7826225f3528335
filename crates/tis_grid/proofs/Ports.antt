-- What the steps of one tile give to its ports and take from them.
use Rattle.std.proofs.Common.{◌≡◌, ℕ, ℤ, true, false, cond, eqb, List, [], ◌∷◌, ◌++◌, inl, inr, refl, sym, ap, ◌∙◌, subst, eqb-true, eq-eqb, ne_eqb}
use Rattle.std.proofs.lemmas.Bool.{cond_both, false_from_ne_true, cases_Bool, cases_eq}
use Rattle.tis_base.specs.Tiles.{opposite}
use Rattle.tis_base.specs.declared.tiles.Dir.{Dir}
use Rattle.tis_base.specs.declared.tiles.Dir.TheVariants.{Left, Right, Up, Down}
use Rattle.tis_asm.specs.Node.{is_same_dir}
use Rattle.tis_asm.specs.PortRuns.{Step, Local, Took, Gave, taken_from, given_to}
use Rattle.tis_asm.proofs.Passing.{is_same_dir-true, is_same_dir-self}
use Rattle.tis_grid.specs.TileSteps.{step_at}

-- ---- directions

-- the direction from the other side, seen from the other side
pub opposite_twice : (dir : Dir) → opposite (opposite dir) ≡ dir
opposite_twice Left = refl
opposite_twice Right = refl
opposite_twice Up = refl
opposite_twice Down = refl

-- ---- steps of one tile and of another

-- a step of this tile
pub own_step : (tile : ℕ) (step : Step) → step_at tile tile step ≡ step ∷ []
own_step tile step = ap (λ b. cond b (step ∷ []) []) (eq-eqb tile tile refl)

-- a step of another tile
pub other_step : (tile other : ℕ) (step : Step) → (other ≡ tile → ⊥) → step_at tile other step ≡ []
other_step tile other step apart = ap (λ b. cond b (step ∷ []) []) (ne_eqb other tile apart)

-- what holds of a step alone where it is one of this tile, and else of none
pub step_cases : (P : List Step → Type 0) (tile other : ℕ) (step : Step) → (other ≡ tile → P (step ∷ [])) → ((other ≡ tile → ⊥) → P []) → P (step_at tile other step)
step_cases P tile other step here elsewhere = cond_both (eqb other tile) (step ∷ []) [] P (λ is. here (eqb-true other tile is)) (λ is. elsewhere (λ same. false_is other tile is same))
  where
    -- equal numbers pass the test
    false_is : (a b : ℕ) → eqb a b ≡ false → a ≡ b → ⊥
    false_is a b is same = cc (is, eq-eqb a b same)

-- ---- what steps give and take, one list after another

-- steps and then more steps give what the first give and then what the others give
pub given_append : (dir : Dir) (steps more : List Step) → given_to dir (steps ++ more) ≡ given_to dir steps ++ given_to dir more
given_append dir [] more = refl
given_append dir (Local ∷ steps) more = given_append dir steps more
given_append dir (Took port value ∷ steps) more = given_append dir steps more
given_append dir (Gave port value ∷ steps) more =
    cond_both (is_same_dir port dir) (value ∷ []) [] (λ given. given ++ given_to dir (steps ++ more) ≡ given ++ given_to dir steps ++ given_to dir more)
    (λ same. ap (λ rest. value ∷ rest) (given_append dir steps more)) (λ apart. given_append dir steps more)

-- and so do they take
pub taken_append : (dir : Dir) (steps more : List Step) → taken_from dir (steps ++ more) ≡ taken_from dir steps ++ taken_from dir more
taken_append dir [] more = refl
taken_append dir (Local ∷ steps) more = taken_append dir steps more
taken_append dir (Gave port value ∷ steps) more = taken_append dir steps more
taken_append dir (Took port value ∷ steps) more =
    cond_both (is_same_dir port dir) (value ∷ []) [] (λ taken. taken ++ taken_from dir (steps ++ more) ≡ taken ++ taken_from dir steps ++ taken_from dir more)
    (λ same. ap (λ rest. value ∷ rest) (taken_append dir steps more)) (λ apart. taken_append dir steps more)

-- ---- what one step gives and takes

-- a local step gives nothing
pub local_gives_none : (dir : Dir) (tile other : ℕ) → given_to dir (step_at tile other Local) ≡ []
local_gives_none dir tile other = step_cases (λ steps. given_to dir steps ≡ []) tile other Local (λ same. refl) (λ apart. refl)

-- a local step takes nothing
pub local_takes_none : (dir : Dir) (tile other : ℕ) → taken_from dir (step_at tile other Local) ≡ []
local_takes_none dir tile other = step_cases (λ steps. taken_from dir steps ≡ []) tile other Local (λ same. refl) (λ apart. refl)

-- a step that takes gives nothing
pub took_gives_none : (dir : Dir) (tile other : ℕ) (port : Dir) (value : ℤ) → given_to dir (step_at tile other (Took port value)) ≡ []
took_gives_none dir tile other port value = step_cases (λ steps. given_to dir steps ≡ []) tile other (Took port value) (λ same. refl) (λ apart. refl)

-- a step that gives takes nothing
pub gave_takes_none : (dir : Dir) (tile other : ℕ) (port : Dir) (value : ℤ) → taken_from dir (step_at tile other (Gave port value)) ≡ []
gave_takes_none dir tile other port value = step_cases (λ steps. taken_from dir steps ≡ []) tile other (Gave port value) (λ same. refl) (λ apart. refl)

-- a step of another tile, or at another port, gives nothing to this port of this tile
pub gives_none : (dir : Dir) (tile other : ℕ) (port : Dir) (value : ℤ) → (other ≡ tile → port ≡ dir → ⊥) → given_to dir (step_at tile other (Gave port value)) ≡ []
gives_none dir tile other port value apart =
    step_cases (λ steps. given_to dir steps ≡ []) tile other (Gave port value)
    (λ same. ap (λ b. cond b (value ∷ []) [] ++ []) (false_from_ne_true (is_same_dir port dir) (λ is. apart same (is_same_dir-true port dir is)))) (λ elsewhere. refl)

-- nor does it take anything from there
pub takes_none : (dir : Dir) (tile other : ℕ) (port : Dir) (value : ℤ) → (other ≡ tile → port ≡ dir → ⊥) → taken_from dir (step_at tile other (Took port value)) ≡ []
takes_none dir tile other port value apart =
    step_cases (λ steps. taken_from dir steps ≡ []) tile other (Took port value)
    (λ same. ap (λ b. cond b (value ∷ []) [] ++ []) (false_from_ne_true (is_same_dir port dir) (λ is. apart same (is_same_dir-true port dir is)))) (λ elsewhere. refl)

-- a step of this tile at this port gives its value
pub gives_here : (dir : Dir) (tile other : ℕ) (port : Dir) (value : ℤ) → other ≡ tile → port ≡ dir → given_to dir (step_at tile other (Gave port value)) ≡ value ∷ []
gives_here dir tile other port value same is =
    subst (λ (t : ℕ). given_to dir (step_at t other (Gave port value)) ≡ value ∷ []) same
    (subst (λ (d : Dir). given_to d (step_at other other (Gave port value)) ≡ value ∷ []) is
    (ap (given_to port) (own_step other (Gave port value)) ∙ ap (λ b. cond b (value ∷ []) [] ++ []) (is_same_dir-self port)))

-- or takes it
pub takes_here : (dir : Dir) (tile other : ℕ) (port : Dir) (value : ℤ) → other ≡ tile → port ≡ dir → taken_from dir (step_at tile other (Took port value)) ≡ value ∷ []
takes_here dir tile other port value same is =
    subst (λ (t : ℕ). taken_from dir (step_at t other (Took port value)) ≡ value ∷ []) same
    (subst (λ (d : Dir). taken_from d (step_at other other (Took port value)) ≡ value ∷ []) is
    (ap (taken_from port) (own_step other (Took port value)) ∙ ap (λ b. cond b (value ∷ []) [] ++ []) (is_same_dir-self port)))

-- what a giver gives to a port, a taker takes on the other side, where the two are the two ends or neither is
pub meeting_passes : (dir port : Dir) (tile giver reader taker : ℕ) (value : ℤ) → (port ≡ dir → giver ≡ tile → taker ≡ reader) → (port ≡ dir → taker ≡ reader → giver ≡ tile) → given_to dir (step_at tile giver (Gave port value)) ≡ taken_from (opposite dir) (step_at reader taker (Took (opposite port) value))
meeting_passes dir port tile giver reader taker value to_reader to_tile =
    elim (cases_Bool (is_same_dir port dir)) [
      | inl same ↦ let is : port ≡ dir = is_same_dir-true port dir same in elim (cases_eq giver tile) [
        | inl here ↦ gives_here dir tile giver port value here is ∙ sym (takes_here (opposite dir) reader taker (opposite port) value (to_reader is here) (ap opposite is))
        | inr elsewhere ↦ neither (λ at is. elsewhere at) (λ at is. elsewhere (to_tile is at))
      ]
      | inr other ↦ neither (λ at is. apart other is) (λ at is. apart other is)
    ]
  where
    -- directions that fail the test differ
    apart : is_same_dir port dir ≡ false → port ≡ dir → ⊥
    apart other is = let same : is_same_dir port dir ≡ true = ap (is_same_dir port) (sym is) ∙ is_same_dir-self port in cc (other, same)

    -- two directions with one opposite are one
    back : opposite port ≡ opposite dir → port ≡ dir
    back is = sym (opposite_twice port) ∙ ap opposite is ∙ opposite_twice dir

    -- neither end gives or takes
    neither : (giver ≡ tile → port ≡ dir → ⊥) → (taker ≡ reader → port ≡ dir → ⊥) → given_to dir (step_at tile giver (Gave port value)) ≡ taken_from (opposite dir) (step_at reader taker (Took (opposite port) value))
    neither no_giver no_taker = gives_none dir tile giver port value no_giver ∙ sym (takes_none (opposite dir) reader taker (opposite port) value (λ at is. no_taker at (back is)))
