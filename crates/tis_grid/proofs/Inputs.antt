-- The input at a position, found by its index.
use Rattle.std.proofs.Common.{◌≡◌, ℕ, suc, ◌+◌, ◌<◌, ◌≤◌, ℤ, List, [], ◌∷◌, length, map, get_or, true, false, cond, Some, None, refl, sym, ap, ◌∙◌, arith}
use Rattle.std.specs.Prelude.{All, Bool, ◌==◌, ◌||◌, not, nat_lt, slice_get}
use Rattle.std.specs.List.{position_or_len, list_any}
use Rattle.std.proofs.lemmas.Bool.{ltb-true, ltb-false, cond-true, cond-false}
use Rattle.std.proofs.lemmas.Option.{cond_some, slice_get-get_or}
use Rattle.std.proofs.lemmas.List.Elements.{All-nil, All-cons, All-head, All-tail}
use Rattle.tis_base.specs.Saturation.{IsValue}
use Rattle.tis_grid.specs.declared.puzzle.InputAt.{InputAt}
use Rattle.tis_grid.specs.declared.puzzle.OutputAt.{OutputAt}
use Rattle.tis_grid.specs.declared.puzzle.Puzzle as declared
use Rattle.tis_grid.specs.Puzzle.{Input, input_of, output_of, puzzle_of, values_at, has_input, has_output}
use Rattle.tis_grid.specs.HeldGrid.{place_of, input_values}

-- how many inputs stand before the one at a position
abbrev before : List InputAt → ℕ → ℕ
before [] at = 0
before (first ∷ inputs) at = cond (first.position == at) 0 (suc (before inputs at))

pub before_is : (inputs : List InputAt) (at : ℕ) → position_or_len (λ input. input.position == at) inputs ≡ before inputs at
before_is [] at = refl
before_is (first ∷ inputs) at = elim (first.position == at) as (λ b. cond (not b) (1 + position_or_len (λ input. input.position == at) inputs) 0 ≡ cond b 0 (suc (before inputs at))) [ true ↦ refl | false ↦ omega (arith, before_is inputs at) ]

values_found : (inputs : List InputAt) (at : ℕ) (input : InputAt) → slice_get inputs (before inputs at) ≡ Some input → values_at (map input_of inputs) at ≡ input.values.items
values_found [] at input is = absurd cc
values_found (first ∷ inputs) at input is =
    elim (first.position == at) as (λ b. slice_get (first ∷ inputs) (cond b 0 (suc (before inputs at))) ≡ Some input → cond b first.values.items (values_at (map input_of inputs) at) ≡ input.values.items) [
      | true ↦ λ here. let same : first ≡ input = cc in ap (λ (i : InputAt). i.values.items) same
      | false ↦ λ there. values_found inputs at input there
    ] is

has_found : (inputs : List InputAt) (at : ℕ) → before inputs at < length inputs → has_input (map input_of inputs) at ≡ true
has_found [] at below = absurd (omega arith)
has_found (first ∷ inputs) at below =
    elim (first.position == at) as (λ b. cond b 0 (suc (before inputs at)) < suc (length inputs) → (b || has_input (map input_of inputs) at) ≡ true) [
      | true ↦ λ here. refl
      | false ↦ λ there. has_found inputs at (omega arith)
    ] below

has_none : (inputs : List InputAt) (at : ℕ) → length inputs ≤ before inputs at → has_input (map input_of inputs) at ≡ false
has_none [] at past = refl
has_none (first ∷ inputs) at past =
    elim (first.position == at) as (λ b. suc (length inputs) ≤ cond b 0 (suc (before inputs at)) → (b || has_input (map input_of inputs) at) ≡ false) [
      | true ↦ λ here. absurd (omega arith)
      | false ↦ λ there. has_none inputs at (omega arith)
    ] past

-- the place in these words
pub place_at : (inputs : List InputAt) (at : ℕ) → place_of inputs at ≡ cond (nat_lt (before inputs at) (length inputs)) (Some (before inputs at)) None
place_at inputs at = ap (λ (n : ℕ). cond (nat_lt n (length inputs)) (Some n) None) (before_is inputs at)

-- a place that is found is within the list
pub found_within : (inputs : List InputAt) (at index : ℕ) (input : InputAt) → place_of inputs at ≡ Some index → input ≡ get_or inputs index input → slice_get inputs index ≡ Some input
found_within inputs at index input place is =
    let parts = cond_some (nat_lt (before inputs at) (length inputs)) (before inputs at) index (sym (place_at inputs at) ∙ place) in
    let below = ltb-true _ _ parts.0 in
    let within : index < length inputs = omega arith in
    slice_get-get_or inputs index input within ∙ ap (λ (i : InputAt). Some i) (sym is)

-- the values of the input that is found
pub found_values : (puzzle : declared.Puzzle) (at index : ℕ) (input : InputAt) → place_of puzzle.inputs.items at ≡ Some index → slice_get puzzle.inputs.items index ≡ Some input → Some input.values.items ≡ input_values (puzzle_of puzzle) at
found_values puzzle at index input place is =
    let parts = cond_some (nat_lt (before puzzle.inputs.items at) (length puzzle.inputs.items)) (before puzzle.inputs.items at) index (sym (place_at puzzle.inputs.items at) ∙ place) in
    let stands : slice_get puzzle.inputs.items (before puzzle.inputs.items at) ≡ Some input = ap (λ (i : ℕ). slice_get puzzle.inputs.items i) parts.1 ∙ is in
    sym (cond-true (has_input (map input_of puzzle.inputs.items) at) _ _ (has_found puzzle.inputs.items at (ltb-true _ _ parts.0)) ∙ ap (λ (v : List ℤ). Some v) (values_found puzzle.inputs.items at input stands))

-- where none is found, none stands
none_left : (test : Bool) (index : ℕ) → cond test (Some index) None ≡ None → test ≡ false
none_left true index is = absurd cc
none_left false index is = refl

pub found_none : (puzzle : declared.Puzzle) (at : ℕ) → place_of puzzle.inputs.items at ≡ None → None ≡ input_values (puzzle_of puzzle) at
found_none puzzle at place =
    let test = none_left (nat_lt (before puzzle.inputs.items at) (length puzzle.inputs.items)) (before puzzle.inputs.items at) (sym (place_at puzzle.inputs.items at) ∙ place) in
    sym (cond-false (has_input (map input_of puzzle.inputs.items) at) _ _ (has_none puzzle.inputs.items at (ltb-false _ _ test)))

-- whether an output stands at a position is the same of the outputs as they are held
pub has_output-held : (outputs : List OutputAt) (at : ℕ) → list_any (λ output. output.position == at) outputs ≡ has_output (map output_of outputs) at
has_output-held [] at = refl
has_output-held (first ∷ outputs) at = ap (λ (b : Bool). (first.position == at) || b) (has_output-held outputs at)

-- the inputs as contracts see them hold values
pub hold_values : (inputs : List InputAt) → All (λ input. All IsValue input.values.items) inputs → All (λ input. All IsValue input.values) (map input_of inputs)
hold_values [] are = All-nil (λ (input : Input). All IsValue input.values)
hold_values (first ∷ inputs) are =
    All-cons (λ (input : Input). All IsValue input.values) (input_of first) (map input_of inputs) (All-head (λ (input : InputAt). All IsValue input.values.items) first inputs are) (hold_values inputs (All-tail (λ (input : InputAt). All IsValue input.values.items) first inputs are))
