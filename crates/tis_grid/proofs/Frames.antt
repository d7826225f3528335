-- What an event leaves as it is.
use Rattle.std.proofs.Common.{◌≡◌, ◌≢◌, ℕ, ◌*◌, ◌-◌, ◌%◌, ◌<◌, ◌≤◌, ℤ, true, false, cond, List, [], ◌∷◌, length, set, Option, Some, None, option_map, unwrap_or, refl, sym, ap, ◌∙◌, subst, inl, inr, arith}
use Rattle.std.specs.Prelude.{Bool, ◌&&◌, ◌⊎◌, filter, nat_lt, is_some, IfSome}
use Rattle.std.proofs.lemmas.Bool.{cases_eq, ltb-true, ltb-false}
use Rattle.std.proofs.lemmas.List.{get_or-set_other}
use Rattle.tis_base.specs.Tiles.{opposite, neighbour_of}
use Rattle.tis_base.specs.declared.tiles.Shape.{Shape}
use Rattle.tis_base.specs.declared.tiles.Tile.{Tile}
use Rattle.tis_base.specs.declared.tiles.Dir.{Dir}
use Rattle.tis_base.specs.declared.tiles.Dir.TheVariants.{Left, Right, Up, Down}
use Rattle.tis_asm.specs.Node.{Node, fresh, can_local, wants, offers}
use Rattle.tis_devices.specs.Stack.{ROOM}
use Rattle.tis_grid.specs.declared.event.Event.{Event}
use Rattle.tis_grid.specs.declared.event.Event.TheVariants.{Local, Meet, In, Out, Push, Pop}
use Rattle.tis_grid.specs.declared.choices.Choices.{Choices}
use Rattle.tis_grid.specs.State.{Grid, IsGrid, State, left_at, node_at, stack_at}
use Rattle.tis_grid.specs.Puzzle.{has_output}
use Rattle.tis_grid.specs.Events.{bottom_of, program_of, next_tile, is_compute_at, is_memory_at, is_waiting, is_giving, has_room, has_value, is_enabled, after_event}
use Rattle.tis_grid.specs.Choices.{events_at, those_enabled}
use Rattle.tis_grid.specs.HeldChoices.{IsRight, IsApart, IsMarked, AreRenewed, events_in, tile_at, touched}
use Rattle.tis_grid.proofs.Choosing.{events_of_tile, events_of_input, events_of_output, tile_of_input, tile_of_output}
use Rattle.tis_grid.proofs.Places.{next_left, next_right, next_up, next_down, next_back, next_differs, some_columns}
use Rattle.tis_grid.proofs.Starting.{twelve_tiles}

-- a tile is the same in both states
pub record SameAt (before after : State) (tile : ℕ) : Type 0 where
  pub node : node_at after tile ≡ node_at before tile
  pub stack : stack_at after tile ≡ stack_at before tile

-- an event leaves each tile that it doesn't touch
pub untouched : (grid : Grid) (state : State) (event : Event) (tile : ℕ) → tile ≢ (touched grid event).0 → tile ≢ (touched grid event).1 → SameAt state (after_event grid state event) tile
untouched grid state (Local at) tile first second = record { node = get_or-set_other state.nodes at.number tile _ fresh first; stack = refl }
untouched grid state (Meet at dir) tile first second = record { node = get_or-set_other (set state.nodes _ _) at.number tile _ fresh first ∙ get_or-set_other state.nodes _ tile _ fresh second; stack = refl }
untouched grid state (In position) tile first second = record { node = get_or-set_other state.nodes position tile _ fresh first; stack = refl }
untouched grid state (Out position) tile first second = record { node = get_or-set_other state.nodes _ tile _ fresh first; stack = refl }
untouched grid state (Push at dir) tile first second = record { node = get_or-set_other state.nodes at.number tile _ fresh first; stack = get_or-set_other state.stacks _ tile _ [] second }
untouched grid state (Pop at dir) tile first second = record { node = get_or-set_other state.nodes at.number tile _ fresh first; stack = get_or-set_other state.stacks _ tile _ [] second }

-- ---- tests that give the same

-- two tests agree on each element
AgreeOn : (p q : Event → Bool) → List Event → Type 0
AgreeOn p q [] = Unit {0}
AgreeOn p q (event ∷ events) = (p event ≡ q event) × AgreeOn p q events

filter_same : (p q : Event → Bool) (events : List Event) → AgreeOn p q events → filter p events ≡ filter q events
unfolding AgreeOn
filter_same p q [] agree = refl
filter_same p q (event ∷ events) agree =
    ap (λ (b : Bool). cond b (event ∷ filter p events) (filter p events)) agree.0 ∙ ap (λ (xs : List Event). cond (q event) (event ∷ xs) xs) (filter_same p q events agree.1)

those_same : (grid : Grid) (before after : State) (events : List Event) → AgreeOn (is_enabled grid after) (is_enabled grid before) events → those_enabled grid after events ≡ those_enabled grid before events
unfolding those_enabled
those_same grid before after events agree = filter_same (is_enabled grid after) (is_enabled grid before) events agree

-- what is next passes the same test
next_same : (next : Option ℕ) (f g : ℕ → Bool) → ((tile : ℕ) → next ≡ Some tile → f tile ≡ g tile) → unwrap_or (option_map f next) false ≡ unwrap_or (option_map g next) false
next_same None f g same = refl
next_same (Some tile) f g same = same tile refl

both_same : (a b c d : Bool) → a ≡ c → b ≡ d → (a && b) ≡ (c && d)
both_same a b c d first second = ap (λ (x : Bool). x && b) first ∙ ap (λ (y : Bool). c && y) second

module _ (grid : Grid) (before after : State) where
  waiting_same : (tile : ℕ) (dir : Dir) → SameAt before after tile → is_waiting grid after tile dir ≡ is_waiting grid before tile dir
  waiting_same tile dir same = ap (λ (node : Node). is_compute_at grid tile && wants (program_of grid tile) node dir) same.node

  giving_same : (tile : ℕ) (dir : Dir) → SameAt before after tile → is_giving grid after tile dir ≡ is_giving grid before tile dir
  giving_same tile dir same = ap (λ (node : Node). is_compute_at grid tile && is_some (offers node dir)) same.node

  room_same : (tile : ℕ) → SameAt before after tile → has_room grid after tile ≡ has_room grid before tile
  room_same tile same = ap (λ (values : List ℤ). is_memory_at grid tile && nat_lt (length values) ROOM) same.stack

  value_same : (tile : ℕ) → SameAt before after tile → has_value grid after tile ≡ has_value grid before tile
  value_same tile same = ap (λ (values : List ℤ). is_memory_at grid tile && nat_lt 0 (length values)) same.stack

  -- what a tile can do towards a direction is the same
  record SameTowards (tile : ℕ) (dir : Dir) : Type 0 where
    meet : is_enabled grid after (Meet (record { number = tile }) dir) ≡ is_enabled grid before (Meet (record { number = tile }) dir)
    push : is_enabled grid after (Push (record { number = tile }) dir) ≡ is_enabled grid before (Push (record { number = tile }) dir)
    pop : is_enabled grid after (Pop (record { number = tile }) dir) ≡ is_enabled grid before (Pop (record { number = tile }) dir)

  module _ (tile : ℕ) (here : SameAt before after tile) where
    local_same : is_enabled grid after (Local (record { number = tile })) ≡ is_enabled grid before (Local (record { number = tile }))
    local_same = ap (λ (node : Node). is_compute_at grid tile && can_local (program_of grid tile) node) here.node

    -- the tile there is the same
    same_beside : (dir : Dir) → ((next : ℕ) → next_tile grid tile dir ≡ Some next → SameAt before after next) → SameTowards tile dir
    same_beside dir beside = record {
      meet = both_same _ _ _ _ (giving_same tile dir here) (next_same (next_tile grid tile dir) (λ reader. is_waiting grid after reader (opposite dir)) (λ reader. is_waiting grid before reader (opposite dir)) (λ next is. waiting_same next (opposite dir) (beside next is)));
      push = both_same _ _ _ _ (giving_same tile dir here) (next_same (next_tile grid tile dir) (has_room grid after) (has_room grid before) (λ next is. room_same next (beside next is)));
      pop = both_same _ _ _ _ (waiting_same tile dir here) (next_same (next_tile grid tile dir) (has_value grid after) (has_value grid before) (λ next is. value_same next (beside next is)));
    }

    -- the tile there has changed, but this one gives nothing there, and there is no stack
    same_apart : (dir : Dir) (next : ℕ) → next_tile grid tile dir ≡ Some next → is_giving grid after tile dir ≡ false → is_memory_at grid next ≡ false → SameTowards tile dir
    same_apart dir next is gives memory =
        let gave : is_giving grid before tile dir ≡ false = sym (giving_same tile dir here) ∙ gives in
        let no_value : (state : State) → unwrap_or (option_map (has_value grid state) (next_tile grid tile dir)) false ≡ false =
        λ state. ap (λ (o : Option ℕ). unwrap_or (option_map (has_value grid state) o) false) is ∙ ap (λ (b : Bool). b && nat_lt 0 (length (stack_at state next))) memory in
        record {
          meet = neither _ _ _ _ gives gave;
          push = neither _ _ _ _ gives gave;
          pop = both_same _ _ _ _ (waiting_same tile dir here) (no_value after ∙ sym (no_value before));
        }
      where
        neither : (a b c d : Bool) → a ≡ false → c ≡ false → (a && b) ≡ (c && d)
        neither a b c d first second = ap (λ (x : Bool). x && b) first ∙ sym (ap (λ (x : Bool). x && d) second)

    -- what a tile can do is the same where it is so towards each direction
    events_same : ((dir : Dir) → SameTowards tile dir) → those_enabled grid after (events_at tile) ≡ those_enabled grid before (events_at tile)
    unfolding AgreeOn
    events_same same = those_same grid before after (events_at tile) (
      local_same,
      (
        (same Left).meet,
        (
          (same Left).push,
          (
            (same Left).pop,
            (
              (same Right).meet,
              (
                (same Right).push,
                (
                  (same Right).pop,
                  (
                    (same Up).meet,
                    (
                      (same Up).push,
                      (
                        (same Up).pop,
                        ((same Down).meet, ((same Down).push, ((same Down).pop, tt))),
                      ),
                    ),
                  ),
                ),
              ),
            ),
          ),
        ),
      ),
    )

-- a tile that is next, or isn't
next_or_not : (next : Option ℕ) (other : ℕ) → (next ≡ Some other) ⊎ ((tile : ℕ) → next ≡ Some tile → tile ≢ other)
next_or_not None other = inr (λ tile is. absurd cc)
next_or_not (Some tile) other = elim (cases_eq tile other) [
  | inl same ↦ inl (ap Some same)
  | inr apart ↦ inr (λ next is same. let e : tile ≡ next = cc in apart (e ∙ same))
]

twice : (dir : Dir) → opposite (opposite dir) ≡ dir
twice Left = refl
twice Right = refl
twice Up = refl
twice Down = refl

-- a number is below another, or isn't
below_or_not : (a b : ℕ) → (a < b) ⊎ (b ≤ a)
below_or_not a b = decide (nat_lt a b) refl
  where
    decide : (test : Bool) → nat_lt a b ≡ test → (a < b) ⊎ (b ≤ a)
    decide true is = inl (ltb-true a b is)
    decide false is = inr (ltb-false a b is)

-- ---- ports

-- an input at a tile that an event doesn't touch has as many values left
left_same : (grid : Grid) (state : State) (event : Event) (position : ℕ) → position ≢ (touched grid event).0 → left_at (after_event grid state event) position ≡ left_at state position
left_same grid state (Local at) position apart = refl
left_same grid state (Meet at dir) position apart = refl
left_same grid state (In other) position apart = ap (λ (left : Option ℕ). unwrap_or left 0) (get_or-set_other state.left other position _ None apart)
left_same grid state (Out other) position apart = refl
left_same grid state (Push at dir) position apart = refl
left_same grid state (Pop at dir) position apart = refl

-- the tile above an output, of which this is the list
pub bottom_is : (grid : Grid) → IsGrid grid → (list : ℕ) → 16 ≤ list → bottom_of grid (list - 16) ≡ list - 8
bottom_is grid is_grid list past =
    let eight : grid.puzzle.tiles.shape.columns * (grid.puzzle.tiles.shape.rows - 1) ≡ 8 =
    ap (λ (n : ℕ). n * (grid.puzzle.tiles.shape.rows - 1)) is_grid.puzzle.tiles.allowed.0 ∙ ap (λ (n : ℕ). 4 * (n - 1)) is_grid.puzzle.tiles.allowed.1 in
    omega (arith, eight)

module _ (grid : Grid) (is_grid : IsGrid grid) (before : State) (event : Event) (list : ℕ) where
  -- the one event of a list, in both states
  one_same : (only : Event) → events_in list ≡ only ∷ [] → is_enabled grid (after_event grid before event) only ≡ is_enabled grid before only → those_enabled grid before (events_in list) ≡ those_enabled grid (after_event grid before event) (events_in list)
  unfolding AgreeOn
  one_same only is same =
      ap (λ (events : List Event). those_enabled grid before events) is
      ∙ sym (those_same grid before (after_event grid before event) (only ∷ []) (same, tt))
      ∙ ap (λ (events : List Event). those_enabled grid (after_event grid before event) events) (sym is)

  input_same : 12 ≤ list → list < 16 → tile_at list ≢ (touched grid event).0 → tile_at list ≢ (touched grid event).1 → those_enabled grid before (events_in list) ≡ those_enabled grid (after_event grid before event) (events_in list)
  input_same behind below not_first not_second =
      let tile = tile_of_input list below in
      let first : list - 12 ≢ (touched grid event).0 = λ is. not_first (tile ∙ is) in
      let second : list - 12 ≢ (touched grid event).1 = λ is. not_second (tile ∙ is) in
      let same = untouched grid before event (list - 12) first second in
      one_same (In (list - 12)) (events_of_input list behind below)
      (ap (λ (b : Bool). nat_lt (list - 12) grid.puzzle.tiles.shape.columns && b)
      (both_same _ _ _ _ (ap (λ (n : ℕ). nat_lt 0 n) (left_same grid before event (list - 12) first)) (waiting_same grid before (after_event grid before event) (list - 12) Up same)))

  output_same : 16 ≤ list → tile_at list ≢ (touched grid event).0 → tile_at list ≢ (touched grid event).1 → those_enabled grid before (events_in list) ≡ those_enabled grid (after_event grid before event) (events_in list)
  output_same past not_first not_second =
      let bottom : bottom_of grid (list - 16) ≡ tile_at list = bottom_is grid is_grid list past ∙ sym (tile_of_output list past) in
      let first : bottom_of grid (list - 16) ≢ (touched grid event).0 = λ is. not_first (sym bottom ∙ is) in
      let second : bottom_of grid (list - 16) ≢ (touched grid event).1 = λ is. not_second (sym bottom ∙ is) in
      let same = untouched grid before event (bottom_of grid (list - 16)) first second in
      one_same (Out (list - 16)) (events_of_output list past)
      (ap (λ (b : Bool). nat_lt (list - 16) grid.puzzle.tiles.shape.columns && (has_output grid.puzzle.outputs (list - 16) && b)) (giving_same grid before (after_event grid before event) (bottom_of grid (list - 16)) Down same))

-- ---- lists that were made anew

-- behind an event all lists are right, once those that it concerns were made anew around what it touched
module _ (grid : Grid) (before : State) (event : Event) (old new : Choices) (is_grid : IsGrid grid) (were : (list : ℕ) → list < 20 → IsRight grid before old.lists list)
    (once : AreRenewed grid (after_event grid before event) (touched grid event).0 old new) (again : AreRenewed grid (after_event grid before event) (touched grid event).1 old new) where
  after : State
  after = after_event grid before event

  module _ (tile : ℕ) (within : tile < 12) (not_first : tile ≢ (touched grid event).0) (not_second : tile ≢ (touched grid event).1) where
    same : SameAt before (after_event grid before event) tile
    same = untouched grid before event tile not_first not_second

    back : (dir : Dir) (next : ℕ) → next_tile grid tile dir ≡ Some next → next_tile grid next (opposite dir) ≡ Some tile
    back dir next is = next_back grid.puzzle.tiles.shape tile dir next (some_columns grid.puzzle.tiles is_grid.puzzle.tiles) (omega (arith, is_grid.puzzle.tiles.filled, twelve_tiles grid is_grid)) is

    stays : (dir : Dir) (next : ℕ) → next_tile grid tile dir ≡ Some next → IsApart grid (after_event grid before event) next tile (opposite dir) → SameTowards grid before (after_event grid before event) tile dir
    stays dir next is apart = same_apart grid before (after_event grid before event) tile same dir next is (ap (λ (d : Dir). is_giving grid (after_event grid before event) tile d) (sym (twice dir)) ∙ apart.0) apart.1

    -- what a list of a tile has, in both states
    as_before : (tile : ℕ) → tile < 12 → those_enabled grid (after_event grid before event) (events_at tile) ≡ those_enabled grid before (events_at tile) → those_enabled grid before (events_in tile) ≡ those_enabled grid (after_event grid before event) (events_in tile)
    as_before tile within same =
        ap (λ (events : List Event). those_enabled grid before events) (events_of_tile tile within)
        ∙ sym same
        ∙ ap (λ (events : List Event). those_enabled grid (after_event grid before event) events) (sym (events_of_tile tile within))

    -- the tile's list was made anew, or what it can do in a direction is as it was
    towards : (dir : Dir) → IsRight grid (after_event grid before event) new.lists tile ⊎ SameTowards grid before (after_event grid before event) tile dir
    towards dir =
        elim (next_or_not (next_tile grid tile dir) (touched grid event).1) [
          | inl is ↦ elim (again.around (opposite dir) tile (back dir (touched grid event).1 is)) [
            | inl right ↦ inl right
            | inr apart ↦ inr (stays dir (touched grid event).1 is apart)
          ]
          | inr other ↦ elim (next_or_not (next_tile grid tile dir) (touched grid event).0) [
            | inl is ↦ elim (once.around (opposite dir) tile (back dir (touched grid event).0 is)) [
              | inl right ↦ inl right
              | inr apart ↦ inr (stays dir (touched grid event).0 is apart)
            ]
            | inr another ↦ inr (same_beside grid before (after_event grid before event) tile same dir (λ next is. untouched grid before event next (another next is) (other next is)))
          ]
        ]

    far_right : IsRight grid (after_event grid before event) new.lists tile
    far_right =
        elim (towards Left) [
          | inl right ↦ right
          | inr left ↦ elim (towards Right) [
            | inl right ↦ right
            | inr right ↦ elim (towards Up) [
              | inl there ↦ there
              | inr up ↦ elim (towards Down) [
                | inl there ↦ there
                | inr down ↦ again.others tile (were tile (omega arith) ∙ as_before tile within (events_same grid before (after_event grid before event) tile same (each left right up down)))
              ]
            ]
          ]
        ]
      where
        each : SameTowards grid before (after_event grid before event) tile Left → SameTowards grid before (after_event grid before event) tile Right → SameTowards grid before (after_event grid before event) tile Up → SameTowards grid before (after_event grid before event) tile Down → (dir : Dir) → SameTowards grid before (after_event grid before event) tile dir
        each left right up down Left = left
        each left right up down Right = right
        each left right up down Up = up
        each left right up down Down = down

  tile_right : (tile : ℕ) → tile < 12 → IsRight grid (after_event grid before event) new.lists tile
  tile_right tile within =
      elim (cases_eq tile (touched grid event).1) [
        | inl is ↦ subst (λ (t : ℕ). IsRight grid (after_event grid before event) new.lists t) (sym is) again.here
        | inr not_second ↦ elim (cases_eq tile (touched grid event).0) [
          | inl is ↦ subst (λ (t : ℕ). IsRight grid (after_event grid before event) new.lists t) (sym is) once.here
          | inr not_first ↦ far_right tile within not_first not_second
        ]
      ]

  -- a port's tile isn't touched, and its event can happen exactly where it could before
  port_same : (list : ℕ) → 12 ≤ list → list < 20 → tile_at list ≢ (touched grid event).0 → tile_at list ≢ (touched grid event).1 → those_enabled grid before (events_in list) ≡ those_enabled grid (after_event grid before event) (events_in list)
  port_same list behind within not_first not_second =
      elim (below_or_not list 16) [
        | inl below ↦ input_same grid is_grid before event list behind below not_first not_second
        | inr past ↦ output_same grid is_grid before event list past not_first not_second
      ]

  port_right : (list : ℕ) → 12 ≤ list → list < 20 → IsRight grid (after_event grid before event) new.lists list
  port_right list behind within =
      elim (cases_eq (tile_at list) (touched grid event).1) [
        | inl is ↦ again.ports list behind within is
        | inr not_second ↦ elim (cases_eq (tile_at list) (touched grid event).0) [
          | inl is ↦ once.ports list behind within is
          | inr not_first ↦ again.others list (were list within ∙ port_same list behind within not_first not_second)
        ]
      ]

  all_right : (list : ℕ) → list < 20 → IsRight grid (after_event grid before event) new.lists list
  all_right list within =
      elim (below_or_not list 12) [
        | inl below ↦ tile_right list below
        | inr behind ↦ port_right list behind within
      ]

-- the same, for a state and tiles that are these
pub all_right_at : (grid : Grid) (before after : State) (event : Event) (x y : ℕ) (old new : Choices) → IsGrid grid → after ≡ after_event grid before event → x ≡ (touched grid event).0 → y ≡ (touched grid event).1 →
    ((list : ℕ) → list < 20 → IsRight grid before old.lists list) → AreRenewed grid after x old new → AreRenewed grid after y old new →
    (list : ℕ) → list < 20 → IsRight grid after new.lists list
all_right_at grid before after event x y old new is_grid state x-is y-is were once again list within =
    let once_then = subst (λ (s : State). AreRenewed grid s (touched grid event).0 old new) state (subst (λ (t : ℕ). AreRenewed grid after t old new) x-is once) in
    let again_then = subst (λ (s : State). AreRenewed grid s (touched grid event).1 old new) state (subst (λ (t : ℕ). AreRenewed grid after t old new) y-is again) in
    subst (λ (s : State). IsRight grid s new.lists list) (sym state) (all_right grid before event old new is_grid were once_then again_then list within)

-- the bits of a tile that an event doesn't touch are right still
pub still_marked : (grid : Grid) (before after : State) (event : Event) (x y marks : ℕ) → after ≡ after_event grid before event → x ≡ (touched grid event).0 → y ≡ (touched grid event).1 →
    ((tile : ℕ) → tile < 12 → IsMarked grid before marks tile) → (tile : ℕ) → tile < 12 → tile ≢ x → tile ≢ y → IsMarked grid after marks tile
still_marked grid before then event x y marks state x-is y-is were tile within not_x not_y =
    let same = untouched grid before event tile (λ is. not_x (is ∙ sym x-is)) (λ is. not_y (is ∙ sym y-is)) in
    λ dir none. ap (λ (s : State). is_giving grid s tile dir) state ∙ giving_same grid before (after_event grid before event) tile dir same ∙ were tile within dir none

-- a tile that is next to one of the grid is on it too
pub within_twelve : (shape : Shape) (tile next : ℕ) (dir : Dir) → shape.columns ≡ 4 → shape.rows ≡ 3 → tile < 12 → neighbour_of shape tile dir ≡ Some next → next < 12
within_twelve shape tile next Left columns rows within is = let parts = next_left shape tile next is in omega (arith, parts.1)
within_twelve shape tile next Right columns rows within is =
    let parts = next_right shape tile next is in
    let column : tile % shape.columns ≡ tile % 4 = ap (λ (n : ℕ). tile % n) columns in
    omega (arith, parts.0, parts.1, column)
within_twelve shape tile next Up columns rows within is = let parts = next_up shape tile next is in omega (arith, parts.1)
within_twelve shape tile next Down columns rows within is =
    let parts = next_down shape tile next is in
    let whole : shape.columns * shape.rows ≡ 4 * shape.rows = ap (λ (n : ℕ). n * shape.rows) columns in
    omega (arith, parts.0, parts.1, whole, rows)

pub next_there : (grid : Grid) (tile : ℕ) (dir : Dir) (next : Option Tile) → IsGrid grid → tile < length grid.puzzle.tiles.kinds → option_map (λ t. t.number) next ≡ next_tile grid tile dir → IfSome next (λ t. t.number < length grid.puzzle.tiles.kinds)
next_there grid tile dir None is_grid within is = tt
next_there grid tile dir (Some next) is_grid within is =
    let twelve = twelve_tiles grid is_grid in
    let few : tile < 12 = omega arith in
    let below = within_twelve grid.puzzle.tiles.shape tile next.number dir is_grid.puzzle.tiles.allowed.0 is_grid.puzzle.tiles.allowed.1 few (sym is) in
    omega (arith, below, twelve)

pub next_apart : (grid : Grid) (tile : ℕ) (dir : Dir) (next : Option Tile) → IsGrid grid → option_map (λ t. t.number) next ≡ next_tile grid tile dir → IfSome next (λ t. tile ≢ t.number)
next_apart grid tile dir None is_grid is = tt
next_apart grid tile dir (Some next) is_grid is = next_differs grid.puzzle.tiles.shape tile dir next.number (some_columns grid.puzzle.tiles is_grid.puzzle.tiles) (sym is)

-- the tile that is next, as the code has it
pub is_the_next : (found : Option Tile) (tile : Tile) (next : ℕ) (there : Option ℕ) → option_map (λ t. t.number) found ≡ there → found ≡ Some tile → there ≡ Some next → tile.number ≡ next
is_the_next found tile next there next-is found-is there-is = let same : ◌≡◌ {A = Option ℕ} (Some tile.number) (Some next) = sym (ap (option_map (λ (t : Tile). t.number)) found-is) ∙ next-is ∙ there-is in cc
