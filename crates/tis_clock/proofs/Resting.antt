-- A cycle has no event exactly at rest.
use Rattle.std.proofs.Common.{◌≡◌, ℕ, ℤ, true, false, cond, List, [], ◌∷◌, ◌++◌, length, Option, Some, None, inl, inr, refl, sym, ap, subst, ◌∙◌, arith, eq-eqb}
use Rattle.std.specs.Prelude.{Bool, ◌&&◌, ◌==◌, flat_map}
use Rattle.std.specs.List.{find, range_with_len}
use Rattle.std.proofs.lemmas.Bool.{and_from}
use Rattle.tis_base.specs.Tiles.{IsCompute, opposite}
use Rattle.tis_base.specs.declared.tiles.Dir.{Dir}
use Rattle.tis_base.specs.declared.tiles.Dir.TheVariants.{Left, Right, Up, Down}
use Rattle.tis_asm.specs.Node.{Node, Mode, Ready, Writing, can_local_in, wants_in, offers_in, instr_at}
use Rattle.tis_asm.specs.declared.instr.Instr.{Instr}
use Rattle.tis_grid.specs.declared.event.Event.{Event}
use Rattle.tis_grid.specs.declared.event.Event.TheVariants.{Local, Meet, In, Out, Push, Pop}
use Rattle.tis_grid.specs.State.{Grid, IsGrid, State, node_at}
use Rattle.tis_grid.specs.Events.{program_of, next_tile, bottom_of, is_enabled}
use Rattle.tis_grid.specs.Orders.{IsAtRest}
use Rattle.tis_grid.proofs.Enabled.{Enables, enabled_parts, Wants, Offers}
use Rattle.tis_grid.proofs.Listed.{IsIn, in_left, in_right, in_map, in_flat_map, in_range, in_filter}
use Rattle.tis_grid.proofs.Places.{next_back, some_columns, compute_within}
use Rattle.tis_clock.specs.Cycle.{writers, is_ready, is_writing, directions, from_neighbour, ways_to_take, ways_of_ready, gives_old, first_way, reads_or_steps, ways_to_give, gives_out, state_after, and_then, in_turn, all_tiles, first_half, second_half, cycle_events}
use Rattle.tis_clock.specs.Laws.{RestHasNoCycle}
use Rattle.tis_clock.proofs.Legal.{ChoosesEnabled, readers_choose, writers_choose}

-- where nothing is found, nothing passes the test
none_passes : {X : Type 0} (test : X → Bool) (xs : List X) (x : X) → find test xs ≡ None → IsIn x xs → test x ≡ true → ⊥
none_passes test [] x none is passes = is
none_passes test (first ∷ xs) x none is passes =
    elim (test first) as (λ b. test first ≡ b → cond b (Some first) (find test xs) ≡ None → ⊥) [
      | true ↦ λ passed found. absurd cc
      | false ↦ λ failed rest. elim is [
        | inl same ↦ let passed : test first ≡ true = ap test same ∙ passes in absurd cc
        | inr later ↦ none_passes test xs x rest later passes
      ]
    ] refl none

none_before : {X : Type 0} (xs ys : List X) → xs ++ ys ≡ [] → xs ≡ []
none_before [] ys none = refl
none_before (x ∷ xs) ys none = absurd cc

in_directions : (dir : Dir) → IsIn dir directions
in_directions Left = inl refl
in_directions Right = inr (inl refl)
in_directions Up = inr (inr (inl refl))
in_directions Down = inr (inr (inr (inl refl)))

pub twice : (dir : Dir) → opposite (opposite dir) ≡ dir
twice Left = refl
twice Right = refl
twice Up = refl
twice Down = refl

-- ---- what a node that can do something is at

ready_of_local : (mode : Mode) (instr : Option Instr) (node : Node) → can_local_in mode instr node ≡ true → is_ready mode ≡ true
ready_of_local Ready instr node is = refl
ready_of_local (Writing value toward) instr node is = absurd cc

ready_of_wants : (mode : Mode) (instr : Option Instr) (node : Node) (dir : Dir) → wants_in mode instr node dir ≡ true → is_ready mode ≡ true
ready_of_wants Ready instr node dir is = refl
ready_of_wants (Writing value toward) instr node dir is = absurd cc

pub writing_of_offers : (mode : Mode) (dir : Dir) (value : ℤ) → offers_in mode dir ≡ Some value → is_writing mode ≡ true
writing_of_offers Ready dir value is = absurd cc
writing_of_offers (Writing other toward) dir value is = refl

module _ (grid : Grid) where
  -- ---- at rest

  idle : (choose : State → ℕ → Option Event) → ChoosesEnabled grid choose → (now : State) → IsAtRest grid now → (tiles : List ℕ) → in_turn grid choose now tiles ≡ []
  idle choose chooses now rest [] = refl
  idle choose chooses now rest (tile ∷ tiles) =
      elim (choose now tile) as (λ choice. choose now tile ≡ choice → and_then grid now choice (λ next. in_turn grid choose next tiles) ≡ []) [
        | None ↦ λ is. idle choose chooses now rest tiles
        | Some event ↦ λ is. absurd (rest event (chooses now tile event is))
      ] refl

  rests : (state : State) → IsAtRest grid state → cycle_events grid state ≡ []
  rests state rest =
      ap (λ (events : List Event). events ++ second_half grid state (state_after grid state events)) (idle (reads_or_steps grid (writers state)) (readers_choose grid state) state rest (all_tiles grid))
      ∙ idle (gives_out grid (writers state)) (writers_choose grid state) state rest (all_tiles grid)

  -- ---- a cycle without events

  nothing_chosen : (choose : State → ℕ → Option Event) (now : State) (tiles : List ℕ) → in_turn grid choose now tiles ≡ [] → (tile : ℕ) → IsIn tile tiles → choose now tile ≡ None
  nothing_chosen choose now [] none tile is = absurd is
  nothing_chosen choose now (first ∷ tiles) none tile is =
      elim (choose now first) as (λ choice. choose now first ≡ choice → and_then grid now choice (λ next. in_turn grid choose next tiles) ≡ [] → choose now tile ≡ None) [
        | None ↦ λ chose rest. elim is [
          | inl same ↦ ap (choose now) (sym same) ∙ chose
          | inr later ↦ nothing_chosen choose now tiles rest tile later
        ]
        | Some event ↦ λ chose rest. absurd cc
      ] refl none

  module _ (is_grid : IsGrid grid) (state : State) (none : cycle_events grid state ≡ []) where
    no_readers : first_half grid state ≡ []
    no_readers = none_before (first_half grid state) (second_half grid state (state_after grid state (first_half grid state))) none

    no_writers : second_half grid state state ≡ []
    no_writers = sym (ap (λ (events : List Event). events ++ second_half grid state (state_after grid state events)) no_readers) ∙ none

    tile_in : (tile : ℕ) → IsCompute grid.puzzle.tiles tile → IsIn tile (all_tiles grid)
    tile_in tile compute = in_range 0 (length grid.puzzle.tiles.kinds) tile (omega arith) (omega (arith, is_grid.puzzle.tiles.filled, compute_within grid.puzzle.tiles tile is_grid.puzzle.tiles compute))

    -- a ready tile can do none of what it would do
    no_way : (tile : ℕ) → IsCompute grid.puzzle.tiles tile → is_ready (node_at state tile).mode ≡ true → (event : Event) → IsIn event (ways_of_ready grid tile) → gives_old (writers state) event ≡ true → is_enabled grid state event ≡ true → ⊥
    no_way tile compute ready event is old enabled =
        let chose = nothing_chosen (reads_or_steps grid (writers state)) state (all_tiles grid) no_readers tile (tile_in tile compute) in
        let way : first_way grid (writers state) state (ways_of_ready grid tile) ≡ None = sym (ap (λ (b : Bool). cond b (first_way grid (writers state) state (ways_of_ready grid tile)) None) ready) ∙ chose in
        none_passes (λ e. gives_old (writers state) e && is_enabled grid state e) (ways_of_ready grid tile) event way is (and_from (gives_old (writers state) event) (is_enabled grid state event) old enabled)

    -- nor can one that writes
    no_gift : (tile : ℕ) (dir : Dir) → IsCompute grid.puzzle.tiles tile → is_writing (node_at state tile).mode ≡ true → (event : Event) → IsIn event (ways_to_give grid tile dir) → is_enabled grid state event ≡ true → ⊥
    no_gift tile dir compute writing event is enabled =
        let ways : List Event = flat_map (ways_to_give grid tile) directions in
        let chose = nothing_chosen (gives_out grid (writers state)) state (all_tiles grid) no_writers tile (tile_in tile compute) in
        let way : find (is_enabled grid state) ways ≡ None = sym (ap (λ (b : Bool). cond b (find (is_enabled grid state) ways) None) writing) ∙ chose in
        none_passes (is_enabled grid state) ways event way (in_flat_map (ways_to_give grid tile) dir event directions (in_directions dir) is) enabled

    taking : (tile : ℕ) (dir : Dir) (event : Event) → IsIn event (ways_to_take grid tile dir) → IsIn event (ways_of_ready grid tile)
    taking tile dir event is = inr (in_flat_map (ways_to_take grid tile) dir event directions (in_directions dir) is)

    waits : (tile : ℕ) (dir : Dir) → Wants grid state tile dir → is_ready (node_at state tile).mode ≡ true
    waits tile dir is = ready_of_wants (node_at state tile).mode (instr_at (program_of grid tile) (node_at state tile).pc) (node_at state tile) dir is.wants

    writes : (tile : ℕ) (dir : Dir) → Offers grid state tile dir → is_writing (node_at state tile).mode ≡ true
    writes tile dir is = writing_of_offers (node_at state tile).mode dir is.value is.offers

    from_giver : (reader giver : ℕ) (dir : Dir) → next_tile grid reader (opposite dir) ≡ Some giver → IsIn (Meet (record { number = giver }) dir) (ways_to_take grid reader (opposite dir))
    from_giver reader giver dir next =
        let meet : Event = Meet (record { number = giver }) dir in
        in_left meet (from_neighbour (next_tile grid reader (opposite dir)) (opposite dir)) _
        (subst (λ (o : Option ℕ). IsIn meet (from_neighbour o (opposite dir))) (sym next) (inl (ap (λ (d : Dir). Meet (record { number = giver }) d) (twice dir))))

    nothing_happens : (event : Event) → Enables grid state event → is_enabled grid state event ≡ true → ⊥
    nothing_happens (Local tile) is enabled =
        no_way tile.number is.0 (ready_of_local (node_at state tile.number).mode (instr_at (program_of grid tile.number) (node_at state tile.number).pc) (node_at state tile.number) is.1) (Local tile) (inl refl) refl enabled
    nothing_happens (Meet giver dir) is enabled =
        let tiles = is_grid.puzzle.tiles in
        let back = next_back grid.puzzle.tiles.shape giver.number dir is.0 (some_columns grid.puzzle.tiles tiles) (compute_within grid.puzzle.tiles giver.number tiles is.2.compute) is.1 in
        no_way is.0 is.3.compute (waits is.0 (opposite dir) is.3) (Meet giver dir) (taking is.0 (opposite dir) (Meet giver dir) (from_giver is.0 giver.number dir back)) (writes giver.number dir is.2) enabled
    nothing_happens (In position) is enabled =
        no_way position is.2.compute (waits position Up is.2) (In position) (taking position Up (In position) (in_right (In position) (from_neighbour (next_tile grid position Up) Up) _ (inr (inl refl)))) refl enabled
    nothing_happens (Pop tile dir) is enabled =
        no_way tile.number is.2.compute (waits tile.number dir is.2) (Pop tile dir) (taking tile.number dir (Pop tile dir) (in_right (Pop tile dir) (from_neighbour (next_tile grid tile.number dir) dir) _ (inl refl))) refl enabled
    nothing_happens (Out position) is enabled =
        let bottom : ℕ = bottom_of grid position in
        let among = in_filter (λ p. bottom_of grid p == bottom) position (range_with_len 0 grid.puzzle.tiles.shape.columns) (in_range 0 grid.puzzle.tiles.shape.columns position (omega arith) (omega (arith, is.0))) (eq-eqb bottom bottom refl) in
        no_gift bottom Down is.2.compute (writes bottom Down is.2) (Out position) (inr (in_map (λ p. Out p) position _ among)) enabled
    nothing_happens (Push tile dir) is enabled =
        no_gift tile.number dir is.2.compute (writes tile.number dir is.2) (Push tile dir) (inl refl) enabled

pub rest_has_no_cycle : RestHasNoCycle
rest_has_no_cycle grid state is_grid = (
  λ rest. rests grid state rest,
  λ none event enabled. nothing_happens grid is_grid state none event (enabled_parts grid state event enabled) enabled,
)
