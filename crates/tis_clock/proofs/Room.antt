-- The room of the outputs, tile by tile.
use Rattle.std.proofs.Common.{◌≡◌, ℕ, ◌+◌, ◌-◌, ◌≤◌, Bool, List, ◌∷◌, Option, Some, None, inl, inr, refl, sym, ap, subst, ◌∙◌, arith}
use Rattle.std.specs.Prelude.{◌&&◌, ◌==◌, IsTrue, IfSome, unwrap_or, option_map, not, flat_map}
use Rattle.std.specs.List.{find, range_with_len}
use Rattle.std.proofs.lemmas.Bool.{cases_eq, eqb-true, and_parts}
use Rattle.std.proofs.lemmas.List.{get_or-set_other}
use Rattle.tis_base.specs.declared.tiles.Dir.{Dir}
use Rattle.tis_base.specs.declared.tiles.Dir.TheVariants.{Left, Right, Up, Down}
use Rattle.tis_grid.specs.declared.event.Event.{Event}
use Rattle.tis_grid.specs.declared.event.Event.TheVariants.{Local, Meet, In, Out, Push, Pop}
use Rattle.tis_grid.specs.Puzzle.{has_output}
use Rattle.tis_grid.specs.State.{Grid, State}
use Rattle.tis_grid.specs.Events.{is_enabled, IsEnabled, next_tile, bottom_of}
use Rattle.tis_grid.specs.HeldState.{HeldState, spare_at, spares_after, output_spare, HasRoom, HasRoomEach}
use Rattle.tis_grid.specs.Orders.{Fits}
use Rattle.tis_grid.proofs.Listed.{IsIn, passes_filter}
use Rattle.tis_grid.proofs.Enabled.{enabled_parts}
use Rattle.tis_grid.proofs.OrderRuns.{room_falls}
use Rattle.tis_clock.specs.Cycle as cycle
use Rattle.tis_clock.specs.Turns.{room_behind, HasRoomForOne}
use Rattle.tis_clock.specs.Runs.{LowersBy}
use Rattle.tis_clock.proofs.Legal.{chosen_where, find_passes}
use Rattle.tis_clock.proofs.Once.{find_in, of_append, of_flat_map, of_map}

-- ---- which events give to an output

-- the event gives to no output
abbrev pub GivesNoOutput : Event → Type 0
GivesNoOutput (Local tile) = Unit {0}
GivesNoOutput (Meet tile dir) = Unit {0}
GivesNoOutput (In position) = Unit {0}
GivesNoOutput (Out position) = ⊥
GivesNoOutput (Push tile dir) = Unit {0}
GivesNoOutput (Pop tile dir) = Unit {0}

-- it gives to no output but to those whose column ends in this tile
abbrev pub GivesBelow : Grid → ℕ → Event → Type 0
GivesBelow grid tile (Local at) = Unit {0}
GivesBelow grid tile (Meet at dir) = Unit {0}
GivesBelow grid tile (In position) = Unit {0}
GivesBelow grid tile (Out position) = bottom_of grid position ≡ tile
GivesBelow grid tile (Push at dir) = Unit {0}
GivesBelow grid tile (Pop at dir) = Unit {0}

met : (event : Event) (next : Option ℕ) (dir : Dir) → IsIn event (cycle.from_neighbour next dir) → GivesNoOutput event
met event None dir is = absurd is
met event (Some next) dir (inl same) = subst GivesNoOutput same tt
met event (Some next) dir (inr none) = absurd none

above : (event : Event) (tile : ℕ) (dir : Dir) → IsIn event (cycle.from_above tile dir) → GivesNoOutput event
above event tile Up (inl same) = subst GivesNoOutput same tt
above event tile Up (inr none) = absurd none
above event tile Left is = absurd is
above event tile Right is = absurd is
above event tile Down is = absurd is

taken : (grid : Grid) (tile : ℕ) (event : Event) (dir : Dir) → IsIn event (cycle.ways_to_take grid tile dir) → GivesNoOutput event
taken grid tile event dir is =
    elim (of_append event (cycle.from_neighbour (next_tile grid tile dir) dir) (Pop (record { number = tile }) dir ∷ cycle.from_above tile dir) is) [
      | inl one ↦ met event (next_tile grid tile dir) dir one
      | inr (inl same) ↦ subst GivesNoOutput same tt
      | inr (inr other) ↦ above event tile dir other
    ]

-- a tile that was ready gives to none
pub reads_give_none : (grid : Grid) (was : ℕ → Bool) (now : State) (tile : ℕ) (event : Event) → cycle.reads_or_steps grid was now tile ≡ Some event → GivesNoOutput event
reads_give_none grid was now tile event is =
    elim (find_in (λ e. cycle.gives_old was e && is_enabled grid now e) (cycle.ways_of_ready grid tile) event (chosen_where (not (was tile)) (cycle.first_way grid was now (cycle.ways_of_ready grid tile)) event is)) [
      | inl same ↦ subst GivesNoOutput same tt
      | inr later ↦ let (dir, one) = of_flat_map (cycle.ways_to_take grid tile) event cycle.directions later in taken grid tile event dir one
    ]

below : (grid : Grid) (tile : ℕ) (event : Event) (dir : Dir) → IsIn event (cycle.to_below grid tile dir) → GivesBelow grid tile event
below grid tile event Down is =
    let out = of_map (λ p. Out p) event _ is in
    subst (GivesBelow grid tile) out.2 (eqb-true _ _ (passes_filter (λ p. bottom_of grid p == tile) out.0 (range_with_len 0 grid.puzzle.tiles.shape.columns) out.1))
below grid tile event Up is = absurd is
below grid tile event Left is = absurd is
below grid tile event Right is = absurd is

-- a tile that was writing gives to the output below it at most
pub gives_below : (grid : Grid) (was : ℕ → Bool) (now : State) (tile : ℕ) (event : Event) → cycle.gives_out grid was now tile ≡ Some event → GivesBelow grid tile event
gives_below grid was now tile event is =
    let (dir, one) = of_flat_map (cycle.ways_to_give grid tile) event cycle.directions (find_in (is_enabled grid now) (flat_map (cycle.ways_to_give grid tile) cycle.directions) event (chosen_where (was tile) (find (is_enabled grid now) (flat_map (cycle.ways_to_give grid tile) cycle.directions)) event is)) in
    elim one [
      | inl same ↦ subst (GivesBelow grid tile) same tt
      | inr other ↦ below grid tile event dir other
    ]

-- ---- what can happen

pub reads_can : (grid : Grid) (was : ℕ → Bool) (now : State) (tile : ℕ) (event : Event) → cycle.reads_or_steps grid was now tile ≡ Some event → IsEnabled grid now event
reads_can grid was now tile event is =
    (and_parts (cycle.gives_old was event) (is_enabled grid now event) (find_passes (λ e. cycle.gives_old was e && is_enabled grid now e) (cycle.ways_of_ready grid tile) event (chosen_where (not (was tile)) (cycle.first_way grid was now (cycle.ways_of_ready grid tile)) event is))).1

pub gives_can : (grid : Grid) (was : ℕ → Bool) (now : State) (tile : ℕ) (event : Event) → cycle.gives_out grid was now tile ≡ Some event → IsEnabled grid now event
gives_can grid was now tile event is = find_passes (is_enabled grid now) (flat_map (cycle.ways_to_give grid tile) cycle.directions) event (chosen_where (was tile) (find (is_enabled grid now) (flat_map (cycle.ways_to_give grid tile) cycle.directions)) event is)

-- ---- the room

pub no_room_asked : (spares : List (Option ℕ)) (event : Event) → GivesNoOutput event → HasRoom spares event
no_room_asked spares (Local tile) none = tt
no_room_asked spares (Meet tile dir) none = tt
no_room_asked spares (In position) none = tt
no_room_asked spares (Out position) none = absurd none
no_room_asked spares (Push tile dir) none = tt
no_room_asked spares (Pop tile dir) none = tt

pub no_room_used : (spares : List (Option ℕ)) (event : Event) → GivesNoOutput event → spares_after spares event ≡ spares
no_room_used spares (Local tile) none = refl
no_room_used spares (Meet tile dir) none = refl
no_room_used spares (In position) none = refl
no_room_used spares (Out position) none = absurd none
no_room_used spares (Push tile dir) none = refl
no_room_used spares (Pop tile dir) none = refl

-- the outputs at and behind a tile have the room that they had, and each lost one place at most
abbrev pub IsLeft : Grid → ℕ → List (Option ℕ) → List (Option ℕ) → Type 0
IsLeft grid tile old new = ((position : ℕ) → tile ≤ bottom_of grid position → spare_at old position ≤ spare_at new position) × LowersBy 1 old new

pub all_left : (grid : Grid) (spares : List (Option ℕ)) → IsLeft grid 0 spares spares
all_left grid spares = ((λ position behind. omega arith), (λ position. omega arith))

-- a later tile is next
pub later_left : (grid : Grid) (tile later : ℕ) (old new : List (Option ℕ)) → IsLeft grid tile old new → tile ≤ later → IsLeft grid later old new
later_left grid tile later old new left from = ((λ position behind. left.0 position (omega (arith, behind, from))), left.1)

-- the output below the tile has room
pub room_below : (grid : Grid) (now : State) (tile : ℕ) (old new : List (Option ℕ)) (event : Event) → HasRoomForOne grid old → IsLeft grid tile old new → IsEnabled grid now event → GivesBelow grid tile event → HasRoom new event
room_below grid now tile old new (Local at) room left can gives = tt
room_below grid now tile old new (Meet at dir) room left can gives = tt
room_below grid now tile old new (In position) room left can gives = tt
room_below grid now tile old new (Out position) room left can gives =
    let had = room position (enabled_parts grid now (Out position) can).1 in
    let has = left.0 position (omega (arith, gives)) in
    omega (arith, had, has)
room_below grid now tile old new (Push at dir) room left can gives = tt
room_below grid now tile old new (Pop at dir) room left can gives = tt

one_left : (grid : Grid) (tile : ℕ) (old new : List (Option ℕ)) (event : Event) → IsLeft grid tile old new → GivesBelow grid tile event → IsLeft grid (tile + 1) old (spares_after new event)
one_left grid tile old new (Local at) left gives = ((λ position behind. left.0 position (omega (arith, behind))), left.1)
one_left grid tile old new (Meet at dir) left gives = ((λ position behind. left.0 position (omega (arith, behind))), left.1)
one_left grid tile old new (In at) left gives = ((λ position behind. left.0 position (omega (arith, behind))), left.1)
one_left grid tile old new (Out at) left gives =
    let other : (position : ℕ) → (position ≡ at → ⊥) → spare_at (spares_after new (Out at)) position ≡ spare_at new position =
    λ position apart. ap (λ (o : Option ℕ). unwrap_or o 0) (get_or-set_other new at position (option_map (λ spare. spare - 1) (output_spare new at)) None apart) in (
      (λ position behind.
          let same = other position (λ is. let bottom = ap (bottom_of grid) is in omega (arith, behind, gives, bottom)) in
          let had = left.0 position (omega (arith, behind)) in
          omega (arith, same, had)),
      (λ position. elim (cases_eq position at) [
        | inl is ↦
            let here = ap (bottom_of grid) is in
            let had = left.0 position (omega (arith, here, gives)) in
            let less = room_falls new (Out at) (spare_at new position) position (omega arith) in
            omega (arith, had, less)
        | inr apart ↦ let same = other position apart in let had = left.1 position in omega (arith, same, had)
      ]),
    )
one_left grid tile old new (Push at dir) left gives = ((λ position behind. left.0 position (omega (arith, behind))), left.1)
one_left grid tile old new (Pop at dir) left gives = ((λ position behind. left.0 position (omega (arith, behind))), left.1)

-- and behind the tile's turn
pub still_left : (grid : Grid) (tile : ℕ) (old new : List (Option ℕ)) (chosen : Option Event) → IsLeft grid tile old new → IfSome chosen (GivesBelow grid tile) → IsLeft grid (tile + 1) old (room_behind new chosen)
still_left grid tile old new None left gives = ((λ position behind. left.0 position (omega (arith, behind))), left.1)
still_left grid tile old new (Some event) left gives = one_left grid tile old new event left gives

pub room_stays : (spares : List (Option ℕ)) (chosen : Option Event) → IfSome chosen GivesNoOutput → room_behind spares chosen ≡ spares
room_stays spares None none = refl
room_stays spares (Some event) none = no_room_used spares event none

-- what holds of each event that is chosen
pub if_chosen : (P : Event → Type 0) (chosen choice : Option Event) → chosen ≡ choice → ((event : Event) → choice ≡ Some event → P event) → IfSome chosen P
if_chosen P None choice is holds = tt
if_chosen P (Some event) choice is holds = holds event (sym is)

-- where each output that stands has room for so many values, an output of the puzzle has
pub room_of_each : (grid : Grid) (held : HeldState) (count : ℕ) → Fits grid held.state → HasRoomEach held count → (position : ℕ) → IsTrue (has_output grid.puzzle.outputs position) → count ≤ spare_at held.spares position
room_of_each grid held count fits room position stands = room position (fits.outputs position ∙ stands)

-- and the other way around
pub each_of_room : (grid : Grid) (held : HeldState) (count : ℕ) → Fits grid held.state → ((position : ℕ) → IsTrue (has_output grid.puzzle.outputs position) → count ≤ spare_at held.spares position) → HasRoomEach held count
each_of_room grid held count fits room position stands = room position (sym (fits.outputs position) ∙ stands)
