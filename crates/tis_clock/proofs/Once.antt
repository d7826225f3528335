-- Each tile does one thing in a cycle at most.
use Rattle.std.proofs.Common.{◌≡◌, ◌≢◌, ℕ, zero, suc, ◌+◌, ◌*◌, ◌<◌, ◌≤◌, ℤ, true, false, cond, List, [], ◌∷◌, ◌++◌, length, map, Option, Some, None, inl, inr, refl, sym, ap, subst, ◌∙◌, arith, eq-eqb, eqb-true, ne_eqb, length-append, append_assoc}
use Rattle.std.specs.Prelude.{Bool, ◌&&◌, ◌⊎◌, ◌==◌, flat_map}
use Rattle.std.specs.List.{find, range_with_len}
use Rattle.std.proofs.lemmas.Bool.{and_parts, cases_eq}
use Rattle.tis_base.specs.Tiles.{opposite}
use Rattle.tis_base.specs.declared.tiles.Dir.{Dir}
use Rattle.tis_base.specs.declared.tiles.Dir.TheVariants.{Left, Right, Up, Down}
use Rattle.tis_asm.specs.Node.{Node, Mode, Ready, Writing}
use Rattle.tis_asm.specs.PortRuns.{Step, Took, Gave, after_steps}
use Rattle.tis_asm.specs.PortRuns as port
use Rattle.tis_grid.specs.declared.event.Event.{Event}
use Rattle.tis_grid.specs.declared.event.Event.TheVariants.{Local, Meet, In, Out, Push, Pop}
use Rattle.tis_grid.specs.State.{Grid, IsGrid, State, node_at, next_value}
use Rattle.tis_grid.specs.Events.{program_of, next_tile, bottom_of, reached, offered, is_enabled, after_event}
use Rattle.tis_grid.specs.Orders.{Fits}
use Rattle.tis_grid.specs.TileSteps.{step_at, steps_in, steps_of}
use Rattle.tis_grid.specs.Laws.{IsOrder}
use Rattle.tis_grid.proofs.Enabled.{enabled_parts, reached_is}
use Rattle.tis_grid.proofs.Grids.{orders_are_runs, orders_keep_fitting}
use Rattle.tis_grid.proofs.Listed.{IsIn, passes_filter}
use Rattle.tis_grid.proofs.Places.{next_back, next_differs, some_columns}
use Rattle.tis_clock.specs.Cycle.{writers, is_ready, is_writing, directions, from_neighbour, from_above, ways_to_take, ways_of_ready, gives_old, first_way, reads_or_steps, to_below, ways_to_give, gives_out, state_after, and_then, in_turn, all_tiles, first_half, second_half, cycle_events}
use Rattle.tis_clock.specs.Laws.{TilesActOnce}
use Rattle.tis_clock.proofs.Legal.{ChoosesEnabled, chosen_where, find_passes, readers_choose, writers_choose, step_leads, in_turn_leads}
use Rattle.tis_clock.proofs.Resting.{writing_of_offers}

-- ---- what stands in a list

pub find_in : {X : Type 0} (test : X → Bool) (xs : List X) (x : X) → find test xs ≡ Some x → IsIn x xs
find_in test [] x is = absurd cc
find_in test (first ∷ xs) x is =
    elim (test first) as (λ b. cond b (Some first) (find test xs) ≡ Some x → IsIn x (first ∷ xs)) [
      | true ↦ λ found. inl cc
      | false ↦ λ found. inr (find_in test xs x found)
    ] is

pub of_append : {X : Type 0} (x : X) (xs ys : List X) → IsIn x (xs ++ ys) → IsIn x xs ⊎ IsIn x ys
of_append x [] ys is = inr is
of_append x (first ∷ xs) ys (inl same) = inl (inl same)
of_append x (first ∷ xs) ys (inr later) = elim (of_append x xs ys later) [ inl left ↦ inl (inr left) | inr right ↦ inr right ]

pub of_flat_map : {X Y : Type 0} (f : X → List Y) (y : Y) (xs : List X) → IsIn y (flat_map f xs) → (x : X) × IsIn y (f x)
of_flat_map f y [] is = absurd is
of_flat_map f y (first ∷ xs) is = elim (of_append y (f first) (flat_map f xs) is) [ inl here ↦ (first, here) | inr later ↦ of_flat_map f y xs later ]

pub of_map : {X Y : Type 0} (f : X → Y) (y : Y) (xs : List X) → IsIn y (map f xs) → (x : X) × IsIn x xs × (f x ≡ y)
of_map f y [] is = absurd is
of_map f y (first ∷ xs) (inl same) = (first, inl refl, same)
of_map f y (first ∷ xs) (inr later) = let found = of_map f y xs later in (found.0, inr found.1, found.2)

-- ---- the steps of one tile

-- nothing, or one step where it is the tile's turn
abbrev AtTurn : ℕ → ℕ → List Step → Type 0
AtTurn tile turn steps = (steps ≡ []) ⊎ ((tile ≡ turn) × (length steps ≡ 1))

step_at_turn : (tile turn : ℕ) (step : Step) → AtTurn tile turn (step_at tile turn step)
step_at_turn tile turn step =
    elim (cases_eq turn tile) [
      | inl same ↦ inr (sym same, ap (λ (b : Bool). length (cond b (step ∷ []) [])) (eq-eqb turn tile same))
      | inr other ↦ inl (ap (λ (b : Bool). cond b (step ∷ []) []) (ne_eqb turn tile other))
    ]

-- nothing, or a value given
abbrev pub Gives : List Step → Type 0
Gives steps = (dir : Dir) × (value : ℤ) × (steps ≡ Gave dir value ∷ [])

gift_at_turn : (tile turn : ℕ) (dir : Dir) (value : ℤ) → (step_at tile turn (Gave dir value) ≡ []) ⊎ ((tile ≡ turn) × Gives (step_at tile turn (Gave dir value)))
gift_at_turn tile turn dir value =
    elim (cases_eq turn tile) [
      | inl same ↦ inr (sym same, (dir, value, ap (λ (b : Bool). cond b (Gave dir value ∷ []) []) (eq-eqb turn tile same)))
      | inr other ↦ inl (ap (λ (b : Bool). cond b (Gave dir value ∷ []) []) (ne_eqb turn tile other))
    ]

abbrev pub mode_at : State → ℕ → Mode
mode_at state tile = (node_at state tile).mode

ready_or_writing : (mode : Mode) → (is_ready mode ≡ true) ⊎ (is_writing mode ≡ true)
ready_or_writing Ready = inl refl
ready_or_writing (Writing value toward) = inr refl

not_both : (mode : Mode) → is_ready mode ≡ true → is_writing mode ≡ true → ⊥
not_both Ready ready writing = cc
not_both (Writing value toward) ready writing = cc

-- where something is chosen under a test, the test holds
test_of : (test : Bool) (choice : Option Event) (event : Event) → cond test choice None ≡ Some event → test ≡ true
test_of true choice event is = refl
test_of false choice event is = absurd cc

module _ (grid : Grid) (is_grid : IsGrid grid) (before : State) (tile : ℕ) where
  columns : 0 < grid.puzzle.tiles.shape.columns
  columns = some_columns grid.puzzle.tiles is_grid.puzzle.tiles

  -- ---- one event

  -- what an event of the first half is for the tile: nothing, its own turn, or a value that it gives
  abbrev pub InFirst : ℕ → State → List Step → Type 0
  InFirst turn now steps = (steps ≡ []) ⊎ ((tile ≡ turn) × (length steps ≡ 1) × (is_ready (mode_at before tile) ≡ true)) ⊎ (Gives steps × (is_writing (mode_at before tile) ≡ true) × (is_writing (mode_at now tile) ≡ true))

  own : (turn : ℕ) (now : State) (steps : List Step) → is_ready (mode_at before turn) ≡ true → AtTurn tile turn steps → InFirst turn now steps
  own turn now steps ready (inl none) = inl none
  own turn now steps ready (inr one) = inr (inl (one.0, one.1, subst (λ (t : ℕ). is_ready (mode_at before t) ≡ true) (sym one.0) ready))

  nothing_for : (turn : ℕ) (step : Step) → (turn ≡ tile → ⊥) → step_at tile turn step ≡ []
  nothing_for turn step other = ap (λ (b : Bool). cond b (step ∷ []) []) (ne_eqb turn tile other)

  -- a meeting at the reader's turn
  meets : (turn giver : ℕ) (dir : Dir) (now : State) → is_ready (mode_at before turn) ≡ true → next_tile grid turn dir ≡ Some giver → turn < grid.puzzle.tiles.shape.columns * grid.puzzle.tiles.shape.rows →
      is_writing (mode_at before giver) ≡ true → is_writing (mode_at now giver) ≡ true → InFirst turn now (steps_in grid now (Meet (record { number = giver }) (opposite dir)) tile)
  meets turn giver dir now ready next within old writing =
      let towards : Dir = opposite dir in
      let value : ℤ = offered now giver towards in
      let reader : ℕ = reached grid giver towards in
      let takes : Step = Took (opposite towards) value in
      let gift : List Step = step_at tile giver (Gave towards value) in
      let taken : List Step = step_at tile reader takes in
      let is_turn : reader ≡ turn = reached_is grid giver towards turn (next_back grid.puzzle.tiles.shape turn dir giver columns within next) in
      let differs : turn ≢ giver = next_differs grid.puzzle.tiles.shape turn dir giver columns next in
      elim (gift_at_turn tile giver towards value) [
        | inl none ↦ elim (step_at_turn tile reader takes) [
          | inl neither ↦ inl (ap (λ (l : List Step). l ++ taken) none ∙ neither)
          | inr one ↦ inr (inl (one.0 ∙ is_turn, ap (λ (l : List Step). length (l ++ taken)) none ∙ one.1, subst (λ (t : ℕ). is_ready (mode_at before t) ≡ true) (sym (one.0 ∙ is_turn)) ready))
        ]
        | inr gives ↦
            let other : reader ≡ tile → ⊥ = λ same. differs (sym is_turn ∙ same ∙ gives.0) in
            inr (inr (
              (gives.1.0, gives.1.1, ap (λ (l : List Step). l ++ taken) gives.1.2 ∙ ap (λ (l : List Step). (Gave gives.1.0 gives.1.1 ∷ []) ++ l) (nothing_for reader takes other)),
              subst (λ (t : ℕ). is_writing (mode_at before t) ≡ true) (sym gives.0) old,
              subst (λ (t : ℕ). is_writing (mode_at now t) ≡ true) (sym gives.0) writing,
            ))
      ]

  abbrev pub size : ℕ
  size = grid.puzzle.tiles.shape.columns * grid.puzzle.tiles.shape.rows

  -- what can be done at the turn of a tile that is ready
  abbrev IsWay : ℕ → Event → Type 0
  IsWay turn event =
      (Local (record { number = turn }) ≡ event)
      ⊎ ((dir : Dir) × (giver : ℕ) × (next_tile grid turn dir ≡ Some giver) × (Meet (record { number = giver }) (opposite dir) ≡ event))
      ⊎ ((dir : Dir) × (Pop (record { number = turn }) dir ≡ event))
      ⊎ (In turn ≡ event)

  way_from : (turn : ℕ) (dir : Dir) (event : Event) (next : Option ℕ) → next_tile grid turn dir ≡ next → IsIn event (from_neighbour next dir) → IsWay turn event
  way_from turn dir event None is among = absurd among
  way_from turn dir event (Some giver) is (inl same) = inr (inl (dir, giver, is, same))
  way_from turn dir event (Some giver) is (inr later) = absurd later

  way_above : (turn : ℕ) (dir : Dir) (event : Event) → IsIn event (from_above turn dir) → IsWay turn event
  way_above turn Up event (inl same) = inr (inr (inr same))
  way_above turn Up event (inr later) = absurd later
  way_above turn Down event is = absurd is
  way_above turn Left event is = absurd is
  way_above turn Right event is = absurd is

  way_of : (turn : ℕ) (event : Event) → IsIn event (ways_of_ready grid turn) → IsWay turn event
  way_of turn event (inl same) = inl same
  way_of turn event (inr later) =
      let (dir, among) = of_flat_map (ways_to_take grid turn) event directions later in
      elim (of_append event (from_neighbour (next_tile grid turn dir) dir) (Pop (record { number = turn }) dir ∷ from_above turn dir) among) [
        | inl met ↦ way_from turn dir event (next_tile grid turn dir) refl met
        | inr other ↦ elim other [
          | inl same ↦ inr (inr (inl (dir, same)))
          | inr above ↦ way_above turn dir event above
        ]
      ]

  abbrev pub FirstOf : ℕ → State → Event → Type 0
  FirstOf turn now event = InFirst turn now (steps_in grid now event tile)

  by_way : (turn : ℕ) (now : State) (event : Event) → turn < size → is_ready (mode_at before turn) ≡ true → IsWay turn event → gives_old (writers before) event ≡ true → is_enabled grid now event ≡ true → FirstOf turn now event
  by_way turn now event within ready (inl same) old enabled = subst (FirstOf turn now) same (own turn now _ ready (step_at_turn tile turn port.Local))
  by_way turn now event within ready (inr (inl met)) old enabled =
      let meet : Event = Meet (record { number = met.1 }) (opposite met.0) in
      let parts = enabled_parts grid now meet (ap (is_enabled grid now) met.3 ∙ enabled) in
      subst (FirstOf turn now) met.3
      (meets turn met.1 met.0 now ready met.2 within (ap (gives_old (writers before)) met.3 ∙ old) (writing_of_offers (mode_at now met.1) (opposite met.0) parts.2.value parts.2.offers))
  by_way turn now event within ready (inr (inr (inl popped))) old enabled = subst (FirstOf turn now) popped.1 (own turn now _ ready (step_at_turn tile turn _))
  by_way turn now event within ready (inr (inr (inr same))) old enabled = subst (FirstOf turn now) same (own turn now _ ready (step_at_turn tile turn (Took Up (next_value grid now turn))))

  pub in_first : (turn : ℕ) (now : State) (event : Event) → turn < size → reads_or_steps grid (writers before) now turn ≡ Some event → FirstOf turn now event
  in_first turn now event within chose =
      let ways : List Event = ways_of_ready grid turn in
      let found : first_way grid (writers before) now ways ≡ Some event = chosen_where (is_ready (mode_at before turn)) (first_way grid (writers before) now ways) event chose in
      let passes = and_parts (gives_old (writers before) event) (is_enabled grid now event) (find_passes (λ e. gives_old (writers before) e && is_enabled grid now e) ways event found) in
      by_way turn now event within (test_of (is_ready (mode_at before turn)) (first_way grid (writers before) now ways) event chose)
      (way_of turn event (find_in (λ e. gives_old (writers before) e && is_enabled grid now e) ways event found)) passes.0 passes.1

  -- what an event of the second half is for the tile: nothing, or a value that it gives
  abbrev pub InSecond : State → List Step → Type 0
  InSecond now steps = (steps ≡ []) ⊎ (Gives steps × (is_writing (mode_at before tile) ≡ true) × (is_writing (mode_at now tile) ≡ true))

  abbrev pub SecondOf : State → Event → Type 0
  SecondOf now event = InSecond now (steps_in grid now event tile)

  gift : (turn : ℕ) (now : State) (dir : Dir) (value : ℤ) → is_writing (mode_at before turn) ≡ true → is_writing (mode_at now turn) ≡ true → InSecond now (step_at tile turn (Gave dir value))
  gift turn now dir value old writing =
      elim (gift_at_turn tile turn dir value) [
        | inl none ↦ inl none
        | inr gives ↦ inr (gives.1, subst (λ (t : ℕ). is_writing (mode_at before t) ≡ true) (sym gives.0) old, subst (λ (t : ℕ). is_writing (mode_at now t) ≡ true) (sym gives.0) writing)
      ]

  below : (turn : ℕ) (now : State) (dir : Dir) (event : Event) → is_writing (mode_at before turn) ≡ true → IsIn event (to_below grid turn dir) → is_enabled grid now event ≡ true → SecondOf now event
  below turn now Down event old is enabled =
      let out = of_map (λ p. Out p) event _ is in
      let bottom : bottom_of grid out.0 ≡ turn = eqb-true _ _ (passes_filter (λ p. bottom_of grid p == turn) out.0 (range_with_len 0 grid.puzzle.tiles.shape.columns) out.1) in
      let parts = enabled_parts grid now (Out out.0) (ap (is_enabled grid now) out.2 ∙ enabled) in
      subst (SecondOf now) out.2
      (gift (bottom_of grid out.0) now Down (offered now (bottom_of grid out.0) Down) (subst (λ (t : ℕ). is_writing (mode_at before t) ≡ true) (sym bottom) old)
      (writing_of_offers (mode_at now (bottom_of grid out.0)) Down parts.2.value parts.2.offers))
  below turn now Up event old is enabled = absurd is
  below turn now Left event old is enabled = absurd is
  below turn now Right event old is enabled = absurd is

  pub in_second : (turn : ℕ) (now : State) (event : Event) → gives_out grid (writers before) now turn ≡ Some event → SecondOf now event
  in_second turn now event chose =
      let ways : List Event = flat_map (ways_to_give grid turn) directions in
      let writing = test_of (is_writing (mode_at before turn)) (find (is_enabled grid now) ways) event chose in
      let enabled = writers_choose grid before now turn event chose in
      let (dir, among) = of_flat_map (ways_to_give grid turn) event directions (find_in (is_enabled grid now) ways event (chosen_where (is_writing (mode_at before turn)) (find (is_enabled grid now) ways) event chose)) in
      elim among [
        | inl same ↦
            let parts = enabled_parts grid now (Push (record { number = turn }) dir) (ap (is_enabled grid now) same ∙ enabled) in
            subst (SecondOf now) same (gift turn now dir (offered now turn dir) writing (writing_of_offers (mode_at now turn) dir parts.2.value parts.2.offers))
        | inr out ↦ below turn now dir event writing out enabled
      ]

  -- ---- a tile that was ready

  first_ready : is_ready (mode_at before tile) ≡ true → (count start : ℕ) (now : State) → start + count ≤ size →
      (length (steps_of grid now (in_turn grid (reads_or_steps grid (writers before)) now (range_with_len start count)) tile) ≤ 1)
      × (tile < start → length (steps_of grid now (in_turn grid (reads_or_steps grid (writers before)) now (range_with_len start count)) tile) ≡ 0)
  first_ready ready zero start now within = (omega arith, λ past. refl)
  first_ready ready (suc count) start now within =
      let tiles : List ℕ = range_with_len (start + 1) count in
      elim (reads_or_steps grid (writers before) now start) as (λ choice. reads_or_steps grid (writers before) now start ≡ choice →
      (length (steps_of grid now (and_then grid now choice (λ next. in_turn grid (reads_or_steps grid (writers before)) next tiles)) tile) ≤ 1)
      × (tile < start → length (steps_of grid now (and_then grid now choice (λ next. in_turn grid (reads_or_steps grid (writers before)) next tiles)) tile) ≡ 0)) [
        | None ↦ λ chose.
            let later = first_ready ready count (start + 1) now (omega arith) in
            (later.0, λ past. later.1 (omega arith))
        | Some event ↦ λ chose.
            let next : State = after_event grid now event in
            let later = first_ready ready count (start + 1) next (omega arith) in
            let steps : List Step = steps_in grid now event tile in
            let rest : List Step = steps_of grid next (in_turn grid (reads_or_steps grid (writers before)) next tiles) tile in
            let both : length (steps ++ rest) ≡ length steps + length rest = length-append steps rest in
            elim (in_first start now event (omega arith) chose) [
              | inl none ↦
                  let no_steps : length steps ≡ 0 = ap (λ (l : List Step). length l) none in
                  (omega (arith, later.0), λ past. let no_rest = later.1 (omega arith) in omega arith)
              | inr some ↦ elim some [
                | inl one ↦ let no_rest = later.1 (omega (arith, one.0)) in (omega (arith, one.1), λ past. absurd (omega (arith, one.0)))
                | inr gives ↦ absurd (not_both (mode_at before tile) ready gives.1)
              ]
            ]
      ] refl

  second_ready : is_ready (mode_at before tile) ≡ true → (tiles : List ℕ) (now : State) → steps_of grid now (in_turn grid (gives_out grid (writers before)) now tiles) tile ≡ []
  second_ready ready [] now = refl
  second_ready ready (turn ∷ tiles) now =
      elim (gives_out grid (writers before) now turn) as (λ choice. gives_out grid (writers before) now turn ≡ choice → steps_of grid now (and_then grid now choice (λ next. in_turn grid (gives_out grid (writers before)) next tiles)) tile ≡ []) [
        | None ↦ λ chose. second_ready ready tiles now
        | Some event ↦ λ chose.
            let next : State = after_event grid now event in
            let rest : List Step = steps_of grid next (in_turn grid (gives_out grid (writers before)) next tiles) tile in
            elim (in_second turn now event chose) [
              | inl none ↦ ap (λ (l : List Step). l ++ rest) none ∙ second_ready ready tiles next
              | inr gives ↦ absurd (not_both (mode_at before tile) ready gives.1)
            ]
      ] refl

  -- ---- a tile that was writing

  -- each event is nothing for the tile, or a value that it gives
  abbrev ChoosesGifts : (State → ℕ → Option Event) → Type 0
  ChoosesGifts choose = (turn : ℕ) (now : State) (event : Event) → turn < size → choose now turn ≡ Some event →
      (steps_in grid now event tile ≡ []) ⊎ (Gives (steps_in grid now event tile) × (is_writing (mode_at now tile) ≡ true))

  -- no step, and the node is as it was, or one, behind which it is ready
  abbrev AtMostOne : State → List Event → Type 0
  AtMostOne now events =
      ((length (steps_of grid now events tile) ≡ 0) × (mode_at (state_after grid now events) tile ≡ mode_at now tile))
      ⊎ ((length (steps_of grid now events tile) ≡ 1) × (mode_at (state_after grid now events) tile ≡ Ready) × (is_writing (mode_at now tile) ≡ true))

  ready_writes_not : (mode : Mode) → mode ≡ Ready → is_writing mode ≡ true → ⊥
  ready_writes_not mode is writing = let no : is_writing Ready ≡ true = ap is_writing (sym is) ∙ writing in absurd cc

  -- one event before others
  one_before : (now : State) (event : Event) (events : List Event) → Fits grid now → is_enabled grid now event ≡ true →
      ((steps_in grid now event tile ≡ []) ⊎ (Gives (steps_in grid now event tile) × (is_writing (mode_at now tile) ≡ true))) →
      AtMostOne (after_event grid now event) events → AtMostOne now (event ∷ events)
  one_before now event events fits enabled steps later =
      let next : State = after_event grid now event in
      let order : IsOrder grid now (event ∷ []) next = record { is_grid = is_grid; fits = fits; leads = step_leads grid now event [] enabled } in
      let run = (orders_are_runs grid now (event ∷ []) next order tile).1 in
      let program = program_of grid tile in
      let own_steps : List Step = steps_in grid now event tile in
      let rest : List Step = steps_of grid next events tile in
      let both : length (own_steps ++ rest) ≡ length own_steps + length rest = length-append own_steps rest in
      elim steps [
        | inl none ↦
            let same : node_at next tile ≡ node_at now tile = sym run ∙ ap (λ (l : List Step). after_steps program (node_at now tile) (l ++ [])) none in
            let no_steps : length own_steps ≡ 0 = ap (λ (l : List Step). length l) none in
            let mode : mode_at next tile ≡ mode_at now tile = ap (λ (n : Node). n.mode) same in
            elim later [
              | inl neither ↦ inl (omega (arith, neither.0), neither.1 ∙ mode)
              | inr one ↦ inr (omega (arith, one.0), one.1, ap is_writing (sym mode) ∙ one.2)
            ]
        | inr gives ↦
            let given : node_at next tile ≡ after_steps program (node_at now tile) (Gave gives.0.0 gives.0.1 ∷ []) = sym run ∙ ap (λ (l : List Step). after_steps program (node_at now tile) (l ++ [])) gives.0.2 in
            let mode : mode_at next tile ≡ Ready = ap (λ (n : Node). n.mode) given in
            let one_step : length own_steps ≡ 1 = ap (λ (l : List Step). length l) gives.0.2 in
            elim later [
              | inl neither ↦ inr (omega (arith, neither.0), neither.1 ∙ mode, gives.1)
              | inr one ↦ absurd (ready_writes_not (mode_at next tile) mode one.2)
            ]
      ]

  gifts_once : (choose : State → ℕ → Option Event) → ChoosesEnabled grid choose → ChoosesGifts choose → (count start : ℕ) (now : State) → start + count ≤ size → Fits grid now → AtMostOne now (in_turn grid choose now (range_with_len start count))
  gifts_once choose chooses gifts zero start now within fits = inl (refl, refl)
  gifts_once choose chooses gifts (suc count) start now within fits =
      let tiles : List ℕ = range_with_len (start + 1) count in
      elim (choose now start) as (λ choice. choose now start ≡ choice → AtMostOne now (and_then grid now choice (λ next. in_turn grid choose next tiles))) [
        | None ↦ λ chose. gifts_once choose chooses gifts count (start + 1) now (omega arith) fits
        | Some event ↦ λ chose.
            let next : State = after_event grid now event in
            let enabled = chooses now start event chose in
            let order : IsOrder grid now (event ∷ []) next = record { is_grid = is_grid; fits = fits; leads = step_leads grid now event [] enabled } in
            one_before now event (in_turn grid choose next tiles) fits enabled (gifts start now event (omega arith) chose)
            (gifts_once choose chooses gifts count (start + 1) next (omega arith) (orders_keep_fitting grid now (event ∷ []) next order))
      ] refl

  -- ---- the whole cycle

  steps_then : (one other : List Event) (now : State) → steps_of grid now (one ++ other) tile ≡ steps_of grid now one tile ++ steps_of grid (state_after grid now one) other tile
  steps_then [] other now = refl
  steps_then (event ∷ one) other now =
      ap (λ (l : List Step). steps_in grid now event tile ++ l) (steps_then one other (after_event grid now event))
      ∙ sym (append_assoc (steps_in grid now event tile) (steps_of grid (after_event grid now event) one tile) (steps_of grid (state_after grid (after_event grid now event) one) other tile))

  first_gifts : is_writing (mode_at before tile) ≡ true → ChoosesGifts (reads_or_steps grid (writers before))
  first_gifts writing turn now event within chose =
      elim (in_first turn now event within chose) [
        | inl none ↦ inl none
        | inr some ↦ elim some [
          | inl one ↦ absurd (not_both (mode_at before tile) one.2 writing)
          | inr gives ↦ inr (gives.0, gives.2)
        ]
      ]

  second_gifts : ChoosesGifts (gives_out grid (writers before))
  second_gifts turn now event within chose =
      elim (in_second turn now event chose) [
        | inl none ↦ inl none
        | inr gives ↦ inr (gives.0, gives.2)
      ]

  once : Fits grid before → length (steps_of grid before (cycle_events grid before) tile) ≤ 1
  once fits =
      let first : List Event = first_half grid before in
      let middle : State = state_after grid before first in
      let second : List Event = second_half grid before middle in
      let one : List Step = steps_of grid before first tile in
      let other : List Step = steps_of grid middle second tile in
      let both : length (steps_of grid before (first ++ second) tile) ≡ length one + length other = ap (λ (l : List Step). length l) (steps_then first second before) ∙ length-append one other in
      let count : ℕ = length grid.puzzle.tiles.kinds in
      let within : 0 + count ≤ size = omega (arith, is_grid.puzzle.tiles.filled) in
      elim (ready_or_writing (mode_at before tile)) [
        | inl ready ↦
            let few = (first_ready ready count 0 before within).0 in
            let none : length other ≡ 0 = ap (λ (l : List Step). length l) (second_ready ready (all_tiles grid) middle) in
            omega (arith, few)
        | inr writing ↦
            let order : IsOrder grid before first middle = record { is_grid = is_grid; fits = fits; leads = in_turn_leads grid (reads_or_steps grid (writers before)) (readers_choose grid before) (all_tiles grid) before } in
            let at_first = gifts_once (reads_or_steps grid (writers before)) (readers_choose grid before) (first_gifts writing) count 0 before within fits in
            let then = gifts_once (gives_out grid (writers before)) (writers_choose grid before) second_gifts count 0 middle within (orders_keep_fitting grid before first middle order) in
            elim then [
              | inl neither ↦ elim at_first [
                | inl none ↦ omega (arith, neither.0, none.0)
                | inr given ↦ omega (arith, neither.0, given.0)
              ]
              | inr last ↦ elim at_first [
                | inl none ↦ omega (arith, last.0, none.0)
                | inr given ↦ absurd (ready_writes_not (mode_at middle tile) given.1 last.2)
              ]
            ]
      ]

pub tiles_act_once : TilesActOnce
tiles_act_once grid state is_grid fits tile = once grid is_grid state tile fits
