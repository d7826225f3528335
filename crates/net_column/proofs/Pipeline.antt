-- Stages that stand one below the other carry what all of them make, whatever the order of the events.
use Rattle.std.proofs.Common.{◌≡◌, ◌≢◌, ℕ, zero, suc, ◌+◌, ◌-◌, ◌*◌, ◌<◌, ◌≤◌, ℤ, List, [], ◌∷◌, ◌++◌, length, replicate, get_or, true, false, cond, Option, Some, None, unwrap_or, refl, sym, ap, subst, subst₂, ◌∙◌, inl, inr, append-nil, le_trans, arith}
use Rattle.std.specs.Prelude.{Bool, IsTrue, ◌==◌, ◌||◌}
use Rattle.std.specs.List.{range_with_len}
use Rattle.std.proofs.lemmas.Bool.{cases_lt}
use Rattle.std.proofs.lemmas.List.{get_or_past, drop_all}
use Rattle.std.proofs.lemmas.List.FromFn.{get_or-map-range_with_len, length-range_with_len}
use Rattle.std.proofs.lemmas.List.Sums.{sum_by-le}
use Rattle.tis_base.specs.Prefix.{IsPrefixOf}
use Rattle.tis_base.specs.Tiles.{IsCompute}
use Rattle.tis_base.specs.declared.tiles.Dir.TheVariants.{Left, Right, Up, Down}
use Rattle.tis_base.proofs.Prefixes.{prefix_refl, prefix_trans, prefix_length}
use Rattle.tis_asm.specs.declared.program.MarkedInstr.{MarkedInstr}
use Rattle.tis_asm.specs.Node.{Node, fresh, wants}
use Rattle.tis_asm.specs.PortRuns.{Step, IsPortRun, after_steps, taken_from, given_to}
use Rattle.tis_asm.proofs.Passing.{empty_programs_rest}
use Rattle.tis_asm.proofs.Counting.{steps_add_up}
use Rattle.tis_grid.specs.declared.event.Event.{Event}
use Rattle.tis_grid.specs.declared.event.Event.TheVariants.{Local, Meet, In, Out}
use Rattle.tis_grid.specs.Puzzle.{Puzzle, Input, HasOutput, has_input, has_output, values_at}
use Rattle.tis_grid.specs.State.{Grid, IsGrid, State, node_at, left_at, outs, whole_input, empty_output, start}
use Rattle.tis_grid.specs.Events.{program_of, next_tile, bottom_of}
use Rattle.tis_grid.specs.Orders.{after, IsAtRest}
use Rattle.tis_grid.specs.TileSteps.{steps_of, values_left}
use Rattle.tis_grid.specs.Laws.{IsOrder}
use Rattle.tis_grid.proofs.Enabled.{Wants, Offers, enabled_from}
use Rattle.net_column.proofs.Stage.{Next, GoesOn, WaitsAbove, GivesBelow, WorksAs, Stage, made_by, most_steps, StandsOn, below, StandDown, IsAmong, IsPipeline, FollowsPipeline}
use Rattle.net_column.proofs.GridLaws.{GridLaws}

-- ---- lists

-- each element of a list of equal ones, also past its end
get_or-replicate_self : {X : Type 0} (count index : ℕ) (x : X) → get_or (replicate count x) index x ≡ x
get_or-replicate_self zero index x = refl
get_or-replicate_self (suc count) zero x = refl
get_or-replicate_self (suc count) (suc index) x = get_or-replicate_self count index x

-- ---- what the stages make

-- more values change nothing of what was made before
made_by-prefix : (stages : List Stage) (prefix whole : List ℤ) → IsPrefixOf prefix whole → IsPrefixOf (made_by stages prefix) (made_by stages whole)
made_by-prefix [] prefix whole is_prefix = is_prefix
made_by-prefix (stage ∷ stages) prefix whole is_prefix = made_by-prefix stages (stage.makes prefix) (stage.makes whole) (stage.is_stage.keeps_prefixes prefix whole is_prefix)

-- ---- one node at work

-- a run of a stage's program from the start
run_works : (program : List MarkedInstr) (stage : Stage) (first last : Node) (steps : List Step) → program ≡ stage.program → first ≡ fresh → IsPortRun program first steps → after_steps program first steps ≡ last → WorksAs stage.program stage.makes stage.most_local steps last
run_works program stage first last steps is_program is_fresh run leads =
    let same_run = subst₂ (λ (p : List MarkedInstr) (n : Node). IsPortRun p n steps) is_program is_fresh run in
    let same_end = subst₂ (λ (p : List MarkedInstr) (n : Node). after_steps p n steps ≡ last) is_program is_fresh leads in
    subst (λ (n : Node). WorksAs stage.program stage.makes stage.most_local steps n) same_end (stage.is_stage.works steps same_run)

-- a run of the empty program from the start
run_rests : (program : List MarkedInstr) (first : Node) (steps : List Step) → program ≡ [] → first ≡ fresh → IsPortRun program first steps → steps ≡ []
run_rests program first steps is_empty is_fresh run = empty_programs_rest steps (subst₂ (λ (p : List MarkedInstr) (n : Node). IsPortRun p n steps) is_empty is_fresh run)

-- how many steps a stage made at most, where at most so many values came in
steps_of_stage : (stage : Stage) (steps : List Step) (node : Node) (count : ℕ) → WorksAs stage.program stage.makes stage.most_local steps node → length (taken_from Up steps) ≤ count → length steps ≤ stage.most_local count + count + count
steps_of_stage stage steps node count works few =
    let no_left : length (taken_from Left steps) ≡ 0 = ap length (works.takes_above Left (λ e. absurd cc)) in
    let no_right : length (taken_from Right steps) ≡ 0 = ap length (works.takes_above Right (λ e. absurd cc)) in
    let no_down : length (taken_from Down steps) ≡ 0 = ap length (works.takes_above Down (λ e. absurd cc)) in
    let none_left : length (given_to Left steps) ≡ 0 = ap length (works.gives_below Left (λ e. absurd cc)) in
    let none_right : length (given_to Right steps) ≡ 0 = ap length (works.gives_below Right (λ e. absurd cc)) in
    let none_up : length (given_to Up steps) ≡ 0 = ap length (works.gives_below Up (λ e. absurd cc)) in
    let given : length (given_to Down steps) ≤ length (stage.makes (taken_from Up steps)) = prefix_length _ _ works.prefix in
    let made = stage.is_stage.no_longer (taken_from Up steps) in
    let local = stage.is_stage.grows (length (taken_from Up steps)) count few in
    omega (arith, steps_add_up steps, works.local)

-- ---- states of the grid

-- where no input stands there are no values
no_values : (inputs : List Input) (position : ℕ) → has_input inputs position ≡ false → length (values_at inputs position) ≡ 0
no_values [] position none = refl
no_values (input ∷ inputs) position none =
    elim (input.position == position) as (λ here. here || has_input inputs position ≡ false → length (cond here input.values (values_at inputs position)) ≡ 0) [
      | true ↦ λ is. absurd cc
      | false ↦ λ is. no_values inputs position is
    ] none

-- at the start all values are left
whole_left : (puzzle : Puzzle) (position : ℕ) → unwrap_or (whole_input puzzle position) 0 ≡ length (values_at puzzle.inputs position)
whole_left puzzle position =
    elim (has_input puzzle.inputs position) as (λ stands. has_input puzzle.inputs position ≡ stands → unwrap_or (cond stands (Some (length (values_at puzzle.inputs position))) None) 0 ≡ length (values_at puzzle.inputs position)) [
      | true ↦ λ is. refl
      | false ↦ λ is. sym (no_values puzzle.inputs position is)
    ] refl

-- what is left of an input at the start is all of it
left-start : (grid : Grid) (position : ℕ) → position < grid.puzzle.tiles.shape.columns → values_left grid (start grid) position ≡ values_at grid.puzzle.inputs position
left-start grid position inside =
    let values = values_at grid.puzzle.inputs position in
    let all : left_at (start grid) position ≡ length values = ap (λ (o : Option ℕ). unwrap_or o 0) (get_or-map-range_with_len (λ (p : ℕ). whole_input grid.puzzle p) 0 grid.puzzle.tiles.shape.columns position position None inside (omega arith)) ∙ whole_left grid.puzzle position in
    let none : length values - left_at (start grid) position ≡ 0 = omega arith in
    rw none refl

-- no output has a value at the start
nothing_out : (test : Bool) → unwrap_or {T = List ℤ} (cond test (Some []) None) [] ≡ []
nothing_out true = refl
nothing_out false = refl

none-start : (grid : Grid) (position : ℕ) → position < grid.puzzle.tiles.shape.columns → outs (start grid) position ≡ []
none-start grid position inside =
    ap (λ (o : Option (List ℤ)). unwrap_or o []) (get_or-map-range_with_len (λ (p : ℕ). empty_output grid.puzzle p) 0 grid.puzzle.tiles.shape.columns position position None inside (omega arith)) ∙ nothing_out (has_output grid.puzzle.outputs position)

-- the head of stages that stand one below the other
head_stands : (grid : Grid) (position tile : ℕ) (stage : Stage) (stages : List Stage) → StandDown grid position tile stage stages → StandsOn grid tile stage
head_stands grid position tile stage [] stand = stand.0
head_stands grid position tile stage (next ∷ stages) stand = stand.0

-- a stage with nothing left to do, at rest, waits for a value from above
waits_above : (grid : Grid) (state : State) (tile : ℕ) (program : List MarkedInstr) → IsCompute grid.puzzle.tiles tile → program_of grid tile ≡ program → Next program (node_at state tile) → IsAtRest grid state → (Offers grid state tile Down → ⊥) → Wants grid state tile Up
waits_above grid state tile program compute same (GoesOn can) rest never_gives = absurd (rest (Local (record { number = tile })) (enabled_from grid state (Local (record { number = tile })) (compute, rw same can)))
waits_above grid state tile program compute same (WaitsAbove waits) rest never_gives = record { compute = compute; wants = rw same waits }
waits_above grid state tile program compute same (GivesBelow value gives) rest never_gives = absurd (never_gives (record { compute = compute; value = value; offers = gives }))

-- what holds of every legal order from the start
module _ (laws : GridLaws) (grid : Grid) (events : List Event) (end : State) (is_grid : IsGrid grid) (leads : after grid (start grid) events ≡ Some end) where
  -- the order, as the laws take it
  order : IsOrder grid (start grid) events end
  order = record { is_grid = is_grid; fits = laws.start_fits grid is_grid; leads = leads }

  -- a stage on a tile works as its function
  tile_works : (tile : ℕ) (stage : Stage) → StandsOn grid tile stage → WorksAs stage.program stage.makes stage.most_local (steps_of grid (start grid) events tile) (node_at end tile)
  tile_works tile stage stands =
      let run = laws.orders_are_runs grid (start grid) events end order tile in
      run_works (program_of grid tile) stage (node_at (start grid) tile) _ (steps_of grid (start grid) events tile) stands.program (get_or-replicate_self (length grid.puzzle.tiles.kinds) tile fresh) run.0 run.1

  -- a tile without instructions makes no step
  tile_rests : (tile : ℕ) → program_of grid tile ≡ [] → steps_of grid (start grid) events tile ≡ []
  tile_rests tile is_empty =
      let run = laws.orders_are_runs grid (start grid) events end order tile in
      run_rests (program_of grid tile) (node_at (start grid) tile) (steps_of grid (start grid) events tile) is_empty (get_or-replicate_self (length grid.puzzle.tiles.kinds) tile fresh) run.0

  -- an output has what the tile above it gave downwards
  output_is : (position : ℕ) → position < grid.puzzle.tiles.shape.columns → outs end position ≡ given_to Down (steps_of grid (start grid) events (bottom_of grid position))
  output_is position inside =
      let none = none-start grid position inside in
      laws.outputs_pass_all grid (start grid) events end order position inside ∙ ap (λ (had : List ℤ). had ++ given_to Down (steps_of grid (start grid) events (bottom_of grid position))) none

  -- the output of the last stage
  last_output : (position tile : ℕ) → position < grid.puzzle.tiles.shape.columns → tile ≡ bottom_of grid position → outs end position ≡ given_to Down (steps_of grid (start grid) events tile)
  last_output position tile inside at_bottom = output_is position inside ∙ ap (λ (t : ℕ). given_to Down (steps_of grid (start grid) events t)) (sym at_bottom)

  -- what a tile gave downwards is what the tile below it took
  passed_down : (tile : ℕ) (stage next : Stage) → StandsOn grid tile stage → next_tile grid tile Down ≡ Some (below grid tile) → StandsOn grid (below grid tile) next → given_to Down (steps_of grid (start grid) events tile) ≡ taken_from Up (steps_of grid (start grid) events (below grid tile))
  passed_down tile stage next stands is_next stands_below = laws.links_pass_all grid (start grid) events end order tile Down (below grid tile) is_next stands.compute stands_below.compute

  -- the output is a prefix of what the stages make of what the first of them took
  output_prefix : (position tile : ℕ) (stage : Stage) (stages : List Stage) → position < grid.puzzle.tiles.shape.columns → StandDown grid position tile stage stages →
      IsPrefixOf (outs end position) (made_by (stage ∷ stages) (taken_from Up (steps_of grid (start grid) events tile)))
  output_prefix position tile stage [] inside stand =
      prefix_trans _ _ _ (prefix_refl _ _ (last_output position tile inside stand.1)) (tile_works tile stage stand.0).prefix
  output_prefix position tile stage (next ∷ stages) inside stand =
      let later = output_prefix position (below grid tile) next stages inside stand.2 in
      let link = passed_down tile stage next stand.0 stand.1 (head_stands grid position (below grid tile) next stages stand.2) in
      let prefix = subst (λ (given : List ℤ). IsPrefixOf given (stage.makes (taken_from Up (steps_of grid (start grid) events tile)))) link (tile_works tile stage stand.0).prefix in
      prefix_trans _ _ _ later (made_by-prefix (next ∷ stages) _ _ prefix)

  -- the first stage waits for a value from above, and the output has all that the stages make of what it took
  record Settled (position tile : ℕ) (stages : List Stage) : Type 0 where
    waits : Wants grid end tile Up
    whole : outs end position ≡ made_by stages (taken_from Up (steps_of grid (start grid) events tile))

  -- a stage that waits has given all that it makes of what it took
  gave_all : (tile : ℕ) (stage : Stage) → StandsOn grid tile stage → Wants grid end tile Up → given_to Down (steps_of grid (start grid) events tile) ≡ stage.makes (taken_from Up (steps_of grid (start grid) events tile))
  gave_all tile stage stands waits = (tile_works tile stage stands).whole (subst (λ (p : List MarkedInstr). IsTrue (wants p (node_at end tile) Up)) stands.program waits.wants)

  -- at rest each stage waits, from the output upwards
  settled : (position tile : ℕ) (stage : Stage) (stages : List Stage) → position < grid.puzzle.tiles.shape.columns → HasOutput grid.puzzle.outputs position → StandDown grid position tile stage stages →
      IsAtRest grid end → Settled position tile (stage ∷ stages)
  settled position tile stage [] inside has stand rest =
      let never_gives = λ (gives : Offers grid end tile Down). rest (Out position) (enabled_from grid end (Out position) (inside, has, subst (λ (t : ℕ). Offers grid end t Down) stand.1 gives)) in
      let waits = waits_above grid end tile stage.program stand.0.compute stand.0.program (tile_works tile stage stand.0).next rest never_gives in
      record { waits = waits; whole = last_output position tile inside stand.1 ∙ gave_all tile stage stand.0 waits }
  settled position tile stage (next ∷ stages) inside has stand rest =
      let later = settled position (below grid tile) next stages inside has stand.2 rest in
      let never_gives = λ (gives : Offers grid end tile Down). rest (Meet (record { number = tile }) Down) (enabled_from grid end (Meet (record { number = tile }) Down) (below grid tile, stand.1, gives, later.waits)) in
      let waits = waits_above grid end tile stage.program stand.0.compute stand.0.program (tile_works tile stage stand.0).next rest never_gives in
      let link = passed_down tile stage next stand.0 stand.1 (head_stands grid position (below grid tile) next stages stand.2) in
      record { waits = waits; whole = later.whole ∙ ap (made_by (next ∷ stages)) (sym link ∙ gave_all tile stage stand.0 waits) }

  -- what the first stage took is a prefix of the input
  took_prefix : (position : ℕ) → position < grid.puzzle.tiles.shape.columns → IsPrefixOf (taken_from Up (steps_of grid (start grid) events position)) (values_at grid.puzzle.inputs position)
  took_prefix position inside = (values_left grid end position, sym (laws.inputs_pass_all grid (start grid) events end order position inside) ∙ left-start grid position inside)

  -- at rest, where the first stage waits, it took the whole input
  took_all : (position : ℕ) → position < grid.puzzle.tiles.shape.columns → IsAtRest grid end → Wants grid end position Up → taken_from Up (steps_of grid (start grid) events position) ≡ values_at grid.puzzle.inputs position
  took_all position inside rest waits =
      let values = values_at grid.puzzle.inputs position in
      let left = left_at end position in
      let passed = laws.inputs_pass_all grid (start grid) events end order position inside in
      let none_left : left ≤ 0 = elim (cases_lt 0 left) [ inl some ↦ absurd (rest (In position) (enabled_from grid end (In position) (inside, some, waits))) | inr none ↦ none ] in
      let rest_is : values_left grid end position ≡ [] = drop_all (length values - left) values (omega arith) in
      let taken = taken_from Up (steps_of grid (start grid) events position) in
      sym (append-nil taken) ∙ ap (λ (more : List ℤ). taken ++ more) (sym rest_is) ∙ sym passed ∙ left-start grid position inside

  -- each tile on which a stage stands makes a bounded number of steps
  few_steps : (position tile first : ℕ) (stage : Stage) (stages : List Stage) (count : ℕ) → StandDown grid position first stage stages → IsAmong grid tile first (stage ∷ stages) → length (taken_from Up (steps_of grid (start grid) events first)) ≤ count →
      length (steps_of grid (start grid) events tile) ≤ most_steps (stage ∷ stages) count
  few_steps position tile first stage [] count stand among few =
      let here = steps_of_stage stage (steps_of grid (start grid) events first) _ count (tile_works first stage stand.0) few in
      elim among [
        | inl same ↦ subst (λ (t : ℕ). length (steps_of grid (start grid) events t) ≤ most_steps (stage ∷ []) count) (sym same) (omega arith)
        | inr none ↦ absurd none
      ]
  few_steps position tile first stage (next ∷ stages) count stand among few =
      let here = steps_of_stage stage (steps_of grid (start grid) events first) _ count (tile_works first stage stand.0) few in
      let link = passed_down first stage next stand.0 stand.1 (head_stands grid position (below grid first) next stages stand.2) in
      let given = prefix_length _ _ (tile_works first stage stand.0).prefix in
      let made = stage.is_stage.no_longer (taken_from Up (steps_of grid (start grid) events first)) in
      let fewer : length (taken_from Up (steps_of grid (start grid) events (below grid first))) ≤ count = omega (arith, ap length link) in
      elim among [
        | inl same ↦ subst (λ (t : ℕ). length (steps_of grid (start grid) events t) ≤ most_steps (stage ∷ next ∷ stages) count) (sym same) (omega arith)
        | inr lower ↦ let later = few_steps position tile (below grid first) next stages count stand.2 lower fewer in omega arith
      ]

  -- past the columns there is no output
  no_output : (position : ℕ) → grid.puzzle.tiles.shape.columns ≤ position → outs end position ≡ []
  no_output position outside =
      let fits = laws.orders_keep_fitting grid (start grid) events end order in
      ap (λ (o : Option (List ℤ)). unwrap_or o []) (get_or_past end.outs position None (omega (arith, fits.outs)))

  -- other outputs have no value
  others_empty : (position : ℕ) (stage : Stage) (stages : List Stage) → IsPipeline grid position stage stages → (other : ℕ) → other ≢ position → outs end other ≡ []
  others_empty position stage stages stack other apart =
      elim (cases_lt other grid.puzzle.tiles.shape.columns) [
        | inl inside ↦ output_is other inside ∙ ap (given_to Down) (tile_rests (bottom_of grid other) (stack.other_bottoms other inside apart))
        | inr outside ↦ no_output other outside
      ]

  -- no tile makes more steps than all stages at most
  each_tile : (position : ℕ) (stage : Stage) (stages : List Stage) → IsPipeline grid position stage stages → (tile : ℕ) →
      length (steps_of grid (start grid) events tile) ≤ most_steps (stage ∷ stages) (length (values_at grid.puzzle.inputs position))
  each_tile position stage stages stack tile =
      elim (stack.elsewhere tile) [
        | inl among ↦ few_steps position tile position stage stages _ stack.stand among (prefix_length _ _ (took_prefix position stack.inside))
        | inr is_empty ↦ let none : length (steps_of grid (start grid) events tile) ≡ 0 = ap length (tile_rests tile is_empty) in omega arith
      ]

  -- the number of events is bounded
  few_events : (position : ℕ) (stage : Stage) (stages : List Stage) → IsPipeline grid position stage stages →
      length events ≤ length grid.puzzle.tiles.kinds * most_steps (stage ∷ stages) (length (values_at grid.puzzle.inputs position))
  few_events position stage stages stack =
      let most = most_steps (stage ∷ stages) (length (values_at grid.puzzle.inputs position)) in
      let tiles = range_with_len 0 (length grid.puzzle.tiles.kinds) in
      let all : length tiles ≡ length grid.puzzle.tiles.kinds = length-range_with_len 0 (length grid.puzzle.tiles.kinds) in
      let sum = sum_by-le (λ (tile : ℕ). length (steps_of grid (start grid) events tile)) most tiles (λ k d inside. each_tile position stage stages stack (get_or tiles k d)) in
      subst (λ (count : ℕ). length events ≤ count * most) all (le_trans (laws.steps_count_events grid (start grid) events end order) sum)

  -- a legal order from the start follows the stages
  pub follows_stack : (position : ℕ) (stage : Stage) (stages : List Stage) → IsPipeline grid position stage stages → FollowsPipeline grid position (stage ∷ stages) events end
  follows_stack position stage stages stack =
      record {
        prefix = prefix_trans _ _ _ (output_prefix position position stage stages stack.inside stack.stand) (made_by-prefix (stage ∷ stages) _ _ (took_prefix position stack.inside));
        others = others_empty position stage stages stack;
        bounded = few_events position stage stages stack;
        whole = λ has rest.
            let at_rest = settled position position stage stages stack.inside has stack.stand rest in
            at_rest.whole ∙ ap (made_by (stage ∷ stages)) (took_all position stack.inside rest at_rest.waits);
      }
