-- The start is a state of its grid, and so is what an event leads to.
use Rattle.std.proofs.Common.{◌≡◌, ℕ, zero, suc, ◌-◌, ◌<◌, ◌≤◌, ℤ, List, [], ◌∷◌, ◌++◌, length, map, replicate, get_or, set, true, false, cond, Option, Some, None, unwrap_or, inl, inr, refl, sym, ap, ◌∙◌, subst, arith, length-append, length-take}
use Rattle.std.specs.Prelude.{All, Bool, is_some, ◌||◌, ◌==◌}
use Rattle.std.specs.List.{range_with_len}
use Rattle.std.proofs.lemmas.List.Elements.{All-nil, All-push, All-take, All-head, All-tail}
use Rattle.std.proofs.lemmas.Bool.{cases_eq, cases_lt, ne_eqb}
use Rattle.std.proofs.lemmas.List.{length-set, length-replicate, get_or-set_same, get_or-set_other, get_or_past, set_past}
use Rattle.std.proofs.lemmas.List.FromFn.{length-map-range_with_len, get_or-map-range_with_len}
use Rattle.tis_base.specs.Saturation.{IsValue}
use Rattle.tis_asm.specs.Node.{Node, fresh, FitsProgram}
use Rattle.tis_asm.proofs.Progress.{fresh_fits}
use Rattle.tis_grid.specs.declared.event.Event.{Event}
use Rattle.tis_grid.specs.declared.event.Event.TheVariants.{Local, Meet, In, Out, Push, Pop}
use Rattle.tis_grid.specs.Puzzle.{Input, Output, values_at, has_input, has_output}
use Rattle.tis_grid.specs.State.{Grid, IsGrid, State, node_at, stack_at, input_left, left_at, output_taken, whole_input, empty_output, start}
use Rattle.tis_devices.specs.Stack.{without_newest, ROOM}
use Rattle.tis_grid.specs.Events.{program_of, offered, reached, after_event}
use Rattle.tis_grid.specs.Orders.{Fits}
use Rattle.tis_grid.specs.TileSteps.{steps_in}
use Rattle.tis_grid.proofs.Runs.{does_fit}
use Rattle.tis_grid.proofs.Steps.{event_does}
use Rattle.tis_grid.proofs.Enabled.{Enables, reached_is}
use Rattle.tis_grid.proofs.Held.{offered_value}

-- ---- the start

-- each element of a list of one value is that value, and so is the default
get_or-replicate : {X : Type 0} → (count index : ℕ) (value : X) → get_or (replicate count value) index value ≡ value
get_or-replicate zero index value = refl
get_or-replicate (suc count) zero value = refl
get_or-replicate (suc count) (suc index) value = get_or-replicate count index value

-- an element of a list by position is that of its position, and past the end there is none
by_position : {X : Type 0} (at : ℕ → Option X) (P : ℕ → Option X → Type 0) → ((position : ℕ) → P position (at position)) → (columns position : ℕ) → (columns ≤ position → P position None) → P position (get_or (map at (range_with_len 0 columns)) position None)
by_position {X} at P holds columns position none =
    elim (cases_lt position columns) [
      | inl below ↦ subst (P position) (sym (get_or-map-range_with_len at 0 columns position position None below (omega arith))) (holds position)
      | inr past ↦ subst (P position) (sym (get_or_past (map at (range_with_len 0 columns)) position None (omega (arith, length-map-range_with_len at 0 columns)))) (none past)
    ]

-- a choice between something and nothing is there where the test holds
is_some-choice : {X : Type 0} (test : Bool) (x : X) → is_some (cond test (Some x) None) ≡ test
is_some-choice true x = refl
is_some-choice false x = refl

choice_within : (test : Bool) (count : ℕ) → unwrap_or (cond test (Some count) None) 0 ≤ count
choice_within true count = omega arith
choice_within false count = omega arith

-- no port stands past the columns
no_input_past : (columns position : ℕ) (inputs : List Input) → All (λ input. input.position < columns) inputs → columns ≤ position → false ≡ has_input inputs position
no_input_past columns position [] below past = refl
no_input_past columns position (input ∷ inputs) below past =
    let first : input.position < columns = All-head (λ (i : Input). i.position < columns) input inputs below in
    let apart : (input.position == position) ≡ false = ne_eqb input.position position (λ same. omega arith) in
    no_input_past columns position inputs (All-tail (λ (i : Input). i.position < columns) input inputs below) past ∙ ap (λ (b : Bool). b || has_input inputs position) (sym apart)

no_output_past : (columns position : ℕ) (outputs : List Output) → All (λ output. output.position < columns) outputs → columns ≤ position → false ≡ has_output outputs position
no_output_past columns position [] below past = refl
no_output_past columns position (output ∷ outputs) below past =
    let first : output.position < columns = All-head (λ (o : Output). o.position < columns) output outputs below in
    let apart : (output.position == position) ≡ false = ne_eqb output.position position (λ same. omega arith) in
    no_output_past columns position outputs (All-tail (λ (o : Output). o.position < columns) output outputs below) past ∙ ap (λ (b : Bool). b || has_output outputs position) (sym apart)

-- the start fits
pub start_fitting : (grid : Grid) → IsGrid grid → Fits grid (start grid)
start_fitting grid is_grid =
    let columns = grid.puzzle.tiles.shape.columns in
    record {
      nodes = length-replicate (length grid.puzzle.tiles.kinds) fresh;
      stacks = length-replicate {A = List ℤ} (length grid.puzzle.tiles.kinds) [];
      left = length-map-range_with_len (λ position. whole_input grid.puzzle position) 0 columns;
      outs = length-map-range_with_len (λ position. empty_output grid.puzzle position) 0 columns;
      inputs = λ position. by_position (λ p. whole_input grid.puzzle p) (λ p o. is_some o ≡ has_input grid.puzzle.inputs p) (λ p. is_some-choice (has_input grid.puzzle.inputs p) (length (values_at grid.puzzle.inputs p))) columns position (no_input_past columns position grid.puzzle.inputs is_grid.puzzle.inputs_below);
      outputs = λ position. by_position (λ p. empty_output grid.puzzle p) (λ p o. is_some o ≡ has_output grid.puzzle.outputs p) (λ p. is_some-choice {X = List ℤ} (has_output grid.puzzle.outputs p) []) columns position (no_output_past columns position grid.puzzle.outputs is_grid.puzzle.outputs_below);
      each = λ tile. subst (λ (node : Node). FitsProgram (program_of grid tile) node) (sym (get_or-replicate (length grid.puzzle.tiles.kinds) tile fresh)) (fresh_fits (program_of grid tile));
      within = λ position. by_position (λ p. whole_input grid.puzzle p) (λ p o. unwrap_or o 0 ≤ length (values_at grid.puzzle.inputs p)) (λ p. choice_within (has_input grid.puzzle.inputs p) (length (values_at grid.puzzle.inputs p))) columns position (λ past. omega arith);
      room = λ tile. let none : length (stack_at (start grid) tile) ≡ 0 = ap length (get_or-replicate {X = List ℤ} (length grid.puzzle.tiles.kinds) tile []) in omega arith;
      values = λ tile. subst (λ (values : List ℤ). All IsValue values) (sym (get_or-replicate {X = List ℤ} (length grid.puzzle.tiles.kinds) tile [])) (All-nil IsValue);
    }

-- ---- what an event keeps

-- what holds of the value that is put in and of those that stood there holds of each element
pub get_or-set_holds : {X : Type 0} (P : X → Type 0) → (xs : List X) (at index : ℕ) (value other : X) → P value → P (get_or xs index other) → P (get_or (set xs at value) index other)
get_or-set_holds {X} P xs at index value other new old =
    elim (cases_eq index at) [
      | inl here ↦ elim (cases_lt at (length xs)) [
        | inl within ↦ subst P (sym (get_or-set_same xs at value other within) ∙ ap (λ (i : ℕ). get_or (set xs at value) i other) (sym here)) new
        | inr past ↦ subst (λ (list : List X). P (get_or list index other)) (sym (set_past xs at value past)) old
      ]
      | inr elsewhere ↦ subst P (sym (get_or-set_other xs at index value other elsewhere)) old
    ]

module _ (grid : Grid) (state : State) where
  -- each tile keeps a node
  nodes_kept : (event : Event) → length (after_event grid state event).nodes ≡ length state.nodes
  nodes_kept (Local at) = length-set state.nodes _ _
  nodes_kept (Meet at dir) = length-set (set state.nodes _ _) _ _ ∙ length-set state.nodes _ _
  nodes_kept (In position) = length-set state.nodes _ _
  nodes_kept (Out position) = length-set state.nodes _ _
  nodes_kept (Push at dir) = length-set state.nodes _ _
  nodes_kept (Pop at dir) = length-set state.nodes _ _

  -- each tile keeps a stack
  stacks_kept : (event : Event) → length (after_event grid state event).stacks ≡ length state.stacks
  stacks_kept (Local at) = refl
  stacks_kept (Meet at dir) = refl
  stacks_kept (In position) = refl
  stacks_kept (Out position) = refl
  stacks_kept (Push at dir) = length-set state.stacks _ _
  stacks_kept (Pop at dir) = length-set state.stacks _ _

  -- each position keeps a count
  left_kept : (event : Event) → length (after_event grid state event).left ≡ length state.left
  left_kept (Local at) = refl
  left_kept (Meet at dir) = refl
  left_kept (In position) = length-set state.left _ _
  left_kept (Out position) = refl
  left_kept (Push at dir) = refl
  left_kept (Pop at dir) = refl

  -- each position keeps a list
  outs_kept : (event : Event) → length (after_event grid state event).outs ≡ length state.outs
  outs_kept (Local at) = refl
  outs_kept (Meet at dir) = refl
  outs_kept (In position) = refl
  outs_kept (Out position) = length-set state.outs _ _
  outs_kept (Push at dir) = refl
  outs_kept (Pop at dir) = refl

  -- no input has more left than before
  left_falls : (event : Event) (position : ℕ) → left_at (after_event grid state event) position ≤ left_at state position
  left_falls (Local at) position = omega arith
  left_falls (Meet at dir) position = omega arith
  left_falls (In at) position =
      elim (cases_eq position at) [
        | inl here ↦ subst (λ (p : ℕ). left_at (after_event grid state (In at)) p ≤ left_at state p) (sym here) (falls_at at)
        | inr elsewhere ↦ let same = ap (λ (o : Option ℕ). unwrap_or o 0) (get_or-set_other state.left at position (Some (left_at state at - 1)) None elsewhere) in omega arith
      ]
    where
      -- the count of the input that gave a value falls
      falls_at : (at : ℕ) → unwrap_or (get_or (set state.left at (Some (left_at state at - 1))) at None) 0 ≤ left_at state at
      falls_at at = get_or-set_holds (λ (o : Option ℕ). unwrap_or o 0 ≤ left_at state at) state.left at at (Some (left_at state at - 1)) None (omega arith) (omega arith)
  left_falls (Out at) position = omega arith
  left_falls (Push at dir) position = omega arith
  left_falls (Pop at dir) position = omega arith

  -- an input that has a value left stands there
  some_left : (count : Option ℕ) → 0 < unwrap_or count 0 → is_some count ≡ true
  some_left None left = absurd (omega arith)
  some_left (Some count) left = refl

  -- the inputs stand where they stood
  inputs_kept : Fits grid state → (event : Event) → Enables grid state event → (position : ℕ) → is_some (input_left (after_event grid state event) position) ≡ has_input grid.puzzle.inputs position
  inputs_kept fits (Local at) is position = fits.inputs position
  inputs_kept fits (Meet at dir) is position = fits.inputs position
  inputs_kept fits (In at) is position =
      elim (cases_eq position at) [
        | inl here ↦
            let stands : is_some (input_left state position) ≡ true = some_left (input_left state position) (subst (λ (p : ℕ). 0 < left_at state p) (sym here) is.1) in
            get_or-set_holds (λ (o : Option ℕ). is_some o ≡ has_input grid.puzzle.inputs position) state.left at position (Some (left_at state at - 1)) None (sym stands ∙ fits.inputs position) (fits.inputs position)
        | inr elsewhere ↦ ap (λ (o : Option ℕ). is_some o) (get_or-set_other state.left at position (Some (left_at state at - 1)) None elsewhere) ∙ fits.inputs position
      ]
  inputs_kept fits (Out at) is position = fits.inputs position
  inputs_kept fits (Push at dir) is position = fits.inputs position
  inputs_kept fits (Pop at dir) is position = fits.inputs position

  -- and so do the outputs
  outputs_kept : Fits grid state → (event : Event) → Enables grid state event → (position : ℕ) → is_some (output_taken (after_event grid state event) position) ≡ has_output grid.puzzle.outputs position
  outputs_kept fits (Local at) is position = fits.outputs position
  outputs_kept fits (Meet at dir) is position = fits.outputs position
  outputs_kept fits (In at) is position = fits.outputs position
  outputs_kept fits (Out at) is position =
      elim (cases_eq position at) [
        | inl here ↦
            let stands : has_output grid.puzzle.outputs position ≡ true = subst (λ (p : ℕ). has_output grid.puzzle.outputs p ≡ true) (sym here) is.1 in
            get_or-set_holds (λ (o : Option (List ℤ)). is_some o ≡ has_output grid.puzzle.outputs position) state.outs at position _ None (sym stands) (fits.outputs position)
        | inr elsewhere ↦ ap (λ (o : Option (List ℤ)). is_some o) (get_or-set_other state.outs at position _ None elsewhere) ∙ fits.outputs position
      ]
  outputs_kept fits (Push at dir) is position = fits.outputs position
  outputs_kept fits (Pop at dir) is position = fits.outputs position

  -- no stack has more than it holds
  room_kept : (event : Event) → Enables grid state event → ((tile : ℕ) → length (stack_at state tile) ≤ ROOM) → (tile : ℕ) → length (stack_at (after_event grid state event) tile) ≤ ROOM
  room_kept (Local at) is room tile = room tile
  room_kept (Meet at dir) is room tile = room tile
  room_kept (In position) is room tile = room tile
  room_kept (Out position) is room tile = room tile
  room_kept (Push at dir) is room tile =
      let stack = reached grid at.number dir in
      let same : is.0 ≡ stack = sym (reached_is grid at.number dir is.0 is.1.next) in
      let below : length (stack_at state stack) < ROOM = subst (λ (s : ℕ). length (stack_at state s) < ROOM) same is.3 in
      let value = offered state at.number dir in
      get_or-set_holds (λ (values : List ℤ). length values ≤ ROOM) state.stacks stack tile (stack_at state stack ++ value ∷ []) [] (omega (arith, length-append (stack_at state stack) (value ∷ []))) (room tile)
  room_kept (Pop at dir) is room tile =
      let values = stack_at state (reached grid at.number dir) in
      get_or-set_holds (λ (values : List ℤ). length values ≤ ROOM) state.stacks (reached grid at.number dir) tile (without_newest values) [] (omega (arith, length-take (length values - 1) values, room (reached grid at.number dir))) (room tile)

  -- stacks hold values
  values_kept : Fits grid state → (event : Event) → Enables grid state event → (tile : ℕ) → All IsValue (stack_at (after_event grid state event) tile)
  values_kept fits (Local at) is tile = fits.values tile
  values_kept fits (Meet at dir) is tile = fits.values tile
  values_kept fits (In position) is tile = fits.values tile
  values_kept fits (Out position) is tile = fits.values tile
  values_kept fits (Push at dir) is tile =
      let stack = reached grid at.number dir in
      get_or-set_holds (λ (values : List ℤ). All IsValue values) state.stacks stack tile (stack_at state stack ++ offered state at.number dir ∷ []) []
      (All-push IsValue (stack_at state stack) (offered state at.number dir) (fits.values stack) (offered_value grid state at.number dir fits is.2)) (fits.values tile)
  values_kept fits (Pop at dir) is tile =
      let values = stack_at state (reached grid at.number dir) in
      get_or-set_holds (λ (values : List ℤ). All IsValue values) state.stacks (reached grid at.number dir) tile (without_newest values) []
      (All-take IsValue (length values - 1) values (fits.values (reached grid at.number dir))) (fits.values tile)

  -- the state after an event fits
  pub event_fitting : (event : Event) → IsGrid grid → Fits grid state → Enables grid state event → Fits grid (after_event grid state event)
  event_fitting event is_grid fits is =
      record {
        nodes = nodes_kept event ∙ fits.nodes;
        stacks = stacks_kept event ∙ fits.stacks;
        left = left_kept event ∙ fits.left;
        outs = outs_kept event ∙ fits.outs;
        inputs = inputs_kept fits event is;
        outputs = outputs_kept fits event is;
        each = λ tile. does_fit (program_of grid tile) (node_at state tile) (steps_in grid state event tile) (node_at (after_event grid state event) tile) (is_grid.programs.values tile) (is_grid.sound tile) (fits.each tile) (event_does grid state is_grid fits tile event is);
        within = λ position. omega (arith, left_falls event position, fits.within position);
        room = room_kept event is fits.room;
        values = values_kept fits event is;
      }
