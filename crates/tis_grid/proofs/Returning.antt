-- Points that bring a state back.
use Rattle.std.proofs.Common.{◌≡◌, ℕ, zero, suc, ◌≤◌, ℤ, List, [], ◌∷◌, ◌++◌, length, map, get_or, take, Option, Some, None, option_map, unwrap_or, inl, inr, refl, sym, ap, ◌∙◌, arith}
use Rattle.std.specs.Prelude.{is_some}
use Rattle.std.proofs.Math.Seq.{take-append_seam}
use Rattle.std.proofs.lemmas.Bool.{cases_lt}
use Rattle.std.proofs.lemmas.List.{get_or_past, length-append}
use Rattle.tis_grid.specs.declared.event.Event.{Event}
use Rattle.tis_grid.specs.State.{Grid, State, output_taken}
use Rattle.tis_grid.specs.Orders.{Fits}
use Rattle.tis_grid.specs.Points.{point_of, cut, cut_each, returned, HasTaken, CanReturn}
use Rattle.tis_grid.specs.Laws.{IsOrder, ReturnsFit, PointsBringBack}
use Rattle.tis_grid.proofs.Outputs.{length-cut_each}
use Rattle.tis_grid.proofs.Grids.{orders_keep_fitting, outputs_pass_all}

-- ---- what comes back is a state of the grid

still_there : (count : Option ℕ) (taken : Option (List ℤ)) → is_some (cut count taken) ≡ is_some taken
still_there None taken = refl
still_there (Some count) None = refl
still_there (Some count) (Some values) = refl

still_there_each : (lengths : List (Option ℕ)) (taken : List (Option (List ℤ))) (position : ℕ) → is_some (get_or (cut_each lengths taken) position None) ≡ is_some (get_or taken position None)
still_there_each lengths [] position = refl
still_there_each [] (first ∷ taken) position = refl
still_there_each (count ∷ lengths) (first ∷ taken) zero = still_there count first
still_there_each (count ∷ lengths) (first ∷ taken) (suc position) = still_there_each lengths taken position

pub returns_fit : ReturnsFit
returns_fit grid state earlier fits before = record {
  nodes = before.nodes;
  stacks = before.stacks;
  left = before.left;
  outs = length-cut_each (point_of earlier).lengths state.outs ∙ fits.outs;
  inputs = before.inputs;
  outputs = λ position. still_there_each (point_of earlier).lengths state.outs position ∙ fits.outputs position;
  each = before.each;
  within = before.within;
  room = before.room;
  values = before.values;
}

-- ---- an output of a state, and of a later one

-- both stand and the later one has as much or more, or neither stands
Grows : Option (List ℤ) → Option (List ℤ) → Type 0
Grows None None = Unit {0}
Grows None (Some later) = ⊥
Grows (Some before) None = ⊥
Grows (Some before) (Some later) = (more : List ℤ) × (later ≡ before ++ more)

grown : (before later : Option (List ℤ)) (more : List ℤ) → is_some later ≡ is_some before → unwrap_or later [] ≡ unwrap_or before [] ++ more → Grows before later
unfolding Grows
grown None None more same is = tt
grown None (Some later) more same is = absurd cc
grown (Some before) None more same is = absurd cc
grown (Some before) (Some later) more same is = (more, is)

cut_back : (before later : Option (List ℤ)) → Grows before later → cut (option_map (λ (values : List ℤ). length values) before) later ≡ before
unfolding Grows
cut_back None None grows = refl
cut_back None (Some later) grows = absurd grows
cut_back (Some before) None grows = absurd grows
cut_back (Some before) (Some later) grows = ap (λ (values : List ℤ). Some (take (length before) values)) grows.1 ∙ ap Some (take-append_seam before grows.0)

cut_back_each : (before later : List (Option (List ℤ))) → length later ≡ length before → ((position : ℕ) → Grows (get_or before position None) (get_or later position None)) → cut_each (map (λ taken. option_map (λ (values : List ℤ). length values) taken) before) later ≡ before
cut_back_each [] [] same grows = refl
cut_back_each [] (taken ∷ later) same grows = absurd cc
cut_back_each (first ∷ before) [] same grows = absurd cc
cut_back_each (first ∷ before) (taken ∷ later) same grows =
    ap (λ (o : Option (List ℤ)). o ∷ cut_each (map (λ taken. option_map (λ (values : List ℤ). length values) taken) before) later) (cut_back first taken (grows 0))
    ∙ ap (λ (rest : List (Option (List ℤ))). first ∷ rest) (cut_back_each before later (omega (arith, same)) (λ position. grows (suc position)))

-- a later output has at least what it had
has_taken : (before later : Option (List ℤ)) → Grows before later → HasTaken (option_map (λ (values : List ℤ). length values) before) later
unfolding Grows
has_taken None None grows = tt
has_taken None (Some later) grows = absurd grows
has_taken (Some before) None grows = absurd grows
has_taken (Some before) (Some later) grows =
    let longer : length later ≡ length (before ++ grows.0) = ap (λ (values : List ℤ). length values) grows.1 in
    omega (arith, longer, length-append before grows.0)

has_taken_at : (before : List (Option (List ℤ))) (position : ℕ) (later : Option (List ℤ)) → Grows (get_or before position None) later → HasTaken (get_or (map (λ taken. option_map (λ (values : List ℤ). length values) taken) before) position None) later
has_taken_at [] position later grows = has_taken None later grows
has_taken_at (first ∷ before) zero later grows = has_taken first later grows
has_taken_at (first ∷ before) (suc position) later grows = has_taken_at before position later grows

-- ---- a state's own point

module _ (grid : Grid) (state : State) (events : List Event) (end : State) (is : IsOrder grid state events end) where
  fits_then : Fits grid end
  fits_then = orders_keep_fitting grid state events end is

  stands : (position : ℕ) → is_some (output_taken end position) ≡ is_some (output_taken state position)
  stands position = fits_then.outputs position ∙ sym (is.fits.outputs position)

  past : (position : ℕ) → grid.puzzle.tiles.shape.columns ≤ position → Grows (output_taken state position) (output_taken end position)
  past position beyond =
      let none = get_or_past state.outs position None (omega (arith, is.fits.outs, beyond)) in
      let none_then = get_or_past end.outs position None (omega (arith, fits_then.outs, beyond)) in
      grown (output_taken state position) (output_taken end position) [] (stands position) (ap (λ (o : Option (List ℤ)). unwrap_or o []) none_then ∙ ap (λ (o : Option (List ℤ)). unwrap_or o [] ++ []) (sym none))

  grows : (position : ℕ) → Grows (output_taken state position) (output_taken end position)
  grows position =
      elim (cases_lt position grid.puzzle.tiles.shape.columns) [
        | inl within ↦ grown (output_taken state position) (output_taken end position) _ (stands position) (outputs_pass_all grid state events end is position within)
        | inr beyond ↦ past position beyond
      ]

  brings_back : CanReturn end (point_of state) × (returned end (point_of state) ≡ state)
  brings_back = (
    λ position. has_taken_at state.outs position (output_taken end position) (grows position),
    ap (λ (taken : List (Option (List ℤ))). record { nodes = state.nodes; stacks = state.stacks; left = state.left; outs = taken }) (cut_back_each state.outs end.outs (fits_then.outs ∙ sym is.fits.outs) grows),
  )

pub points_bring_back : PointsBringBack
points_bring_back = brings_back
