-- What can happen, list by list.
use Rattle.std.proofs.Common.{◌≡◌, ℕ, ◌+◌, ◌-◌, ◌<◌, ◌≤◌, true, false, cond, List, [], ◌∷◌, ◌++◌, length, map, get_or, take, Some, None, refl, sym, ap, ◌∙◌, arith, append_assoc}
use Rattle.std.specs.Prelude.{Bool, flat_map}
use Rattle.std.specs.List.{range_with_len}
use Rattle.std.specs.Prelude.{slice_get}
use Rattle.arrayvec.specs.ArrayVec.{ArrayVec}
use Rattle.std.proofs.Math.ListN.{get_or-append}
use Rattle.std.proofs.lemmas.List.{take_more, take_all, flat_map_more, length-append, get_or-append-add, get_or-map, length-map}
use Rattle.std.proofs.lemmas.List.FromFn.{fill_by_all}
use Rattle.tis_grid.specs.HeldChoices.{events_in, tile_at, listed, AreChoices}
use Rattle.tis_grid.specs.declared.choices.Choices.{Choices}
use Rattle.tis_grid.proofs.Starting.{twelve_tiles}
use Rattle.tis_grid.specs.Drawn.{choice_of, next_of}
use Rattle.std.proofs.lemmas.List.Concat.{get_or-flat_map}
use Rattle.std.proofs.lemmas.List.Folds.{length-flat_map-take, flat_map-map}
use Rattle.std.proofs.lemmas.Option.{slice_get-get_or, slice_get_within}
use Rattle.std.proofs.lemmas.List.Elements.{filter-append}
use Rattle.tis_grid.specs.declared.event.Event.{Event}
use Rattle.tis_grid.specs.declared.event.Event.TheVariants.{Pop, Push, Meet, In, Out}
use Rattle.tis_grid.specs.State.{Grid, IsGrid, State}
use Rattle.tis_grid.specs.Events.{is_enabled, is_giving, is_waiting, is_compute_at}
use Rattle.tis_grid.specs.Choices.{events_towards, events_at, all_events, enabled_events, those_enabled}
use Rattle.std.specs.Prelude.{filter, ◌&&◌, nat_lt}
use Rattle.std.proofs.lemmas.Bool.{lt-ltb, le-ltb}
use Rattle.tis_base.specs.declared.tiles.Dir.{Dir}
use Rattle.tis_base.specs.declared.tiles.Dir.TheVariants.{Left, Right, Up, Down}

module _ (grid : Grid) (state : State) where
  -- one list behind another
  pub those-append : (xs ys : List Event) → those_enabled grid state (xs ++ ys) ≡ those_enabled grid state xs ++ those_enabled grid state ys
  unfolding those_enabled
  those-append xs ys = filter-append (is_enabled grid state) xs ys

  -- one event that is enabled, and one that isn't
  pub those-one : (event : Event) → is_enabled grid state event ≡ true → those_enabled grid state (event ∷ []) ≡ event ∷ []
  unfolding those_enabled
  those-one event is = ap (λ (b : Bool). cond b (event ∷ []) []) is

  pub those-none : (event : Event) → is_enabled grid state event ≡ false → those_enabled grid state (event ∷ []) ≡ []
  unfolding those_enabled
  those-none event is = ap (λ (b : Bool). cond b (event ∷ []) []) is

  pub those-empty : those_enabled grid state [] ≡ []
  unfolding those_enabled
  those-empty = refl

  -- a first list, and three single events behind it
  pub three : (before : List Event) (a b c : Event) → ((before ++ those_enabled grid state (a ∷ [])) ++ those_enabled grid state (b ∷ [])) ++ those_enabled grid state (c ∷ []) ≡ before ++ those_enabled grid state (a ∷ b ∷ c ∷ [])
  three before a b c =
      let ab = those-append (a ∷ []) (b ∷ []) in
      let abc = those-append (a ∷ b ∷ []) (c ∷ []) in
      ap (λ (xs : List Event). xs ++ those_enabled grid state (c ∷ [])) (append_assoc before (those_enabled grid state (a ∷ [])) (those_enabled grid state (b ∷ [])))
      ∙ append_assoc before _ (those_enabled grid state (c ∷ []))
      ∙ ap (λ (xs : List Event). before ++ (xs ++ those_enabled grid state (c ∷ []))) (sym ab)
      ∙ ap (λ (xs : List Event). before ++ xs) (sym abc)

  -- one list behind another, where the first is that of the events before
  pub those_more : (before more : List Event) (first : List Event) → first ≡ those_enabled grid state before → first ++ those_enabled grid state more ≡ those_enabled grid state (before ++ more)
  those_more before more first is = ap (λ (xs : List Event). xs ++ those_enabled grid state more) is ∙ sym (those-append before more)

  -- the lists of the tiles, one after the other
  those-flat_map : (f : ℕ → List Event) (numbers : List ℕ) → those_enabled grid state (flat_map f numbers) ≡ flat_map (λ number. those_enabled grid state (f number)) numbers
  those-flat_map f [] = those-empty
  those-flat_map f (number ∷ numbers) = those-append (f number) (flat_map f numbers) ∙ ap (λ (xs : List Event). those_enabled grid state (f number) ++ xs) (those-flat_map f numbers)

  -- a list that has grown by those of more events
  pub grown : (before more first new : List Event) → first ≡ those_enabled grid state before → new ≡ first ++ those_enabled grid state more → new ≡ those_enabled grid state (before ++ more)
  grown before more first new is by = by ∙ those_more before more first is

-- ---- what isn't enabled

-- no event passes
NonePass : (Event → Bool) → List Event → Type 0
NonePass test [] = Unit {0}
NonePass test (event ∷ events) = (test event ≡ false) × NonePass test events

filter_none : (test : Event → Bool) (events : List Event) → NonePass test events → filter test events ≡ []
unfolding NonePass
filter_none test [] none = refl
filter_none test (event ∷ events) none = ap (λ (b : Bool). cond b (event ∷ filter test events) (filter test events)) none.0 ∙ filter_none test events none.1

none_of : (grid : Grid) (state : State) (events : List Event) → NonePass (is_enabled grid state) events → those_enabled grid state events ≡ []
unfolding those_enabled
none_of grid state events none = filter_none (is_enabled grid state) events none

-- where the first test fails, so do both
first_fails : (a b : Bool) → a ≡ false → (a && b) ≡ false
first_fails a b is = ap (λ (x : Bool). x && b) is

module _ (grid : Grid) (state : State) (tile : ℕ) where
  -- a tile that gives nothing meets no other one and pushes nothing
  pub only_pops : (dir : Dir) → is_giving grid state tile dir ≡ false → those_enabled grid state (Pop (record { number = tile }) dir ∷ []) ≡ those_enabled grid state (events_towards tile dir)
  unfolding NonePass
  only_pops dir gives_none =
      let none = none_of grid state (Meet (record { number = tile }) dir ∷ Push (record { number = tile }) dir ∷ []) (first_fails _ _ gives_none, (first_fails _ _ gives_none, tt)) in
      ap (λ (xs : List Event). xs ++ those_enabled grid state (Pop (record { number = tile }) dir ∷ [])) (sym none)
      ∙ sym (those-append grid state (Meet (record { number = tile }) dir ∷ Push (record { number = tile }) dir ∷ []) (Pop (record { number = tile }) dir ∷ []))

  -- a tile that isn't a compute tile can do nothing
  pub none_at : is_compute_at grid tile ≡ false → [] ≡ those_enabled grid state (events_at tile)
  unfolding NonePass
  none_at other = sym (none_of grid state (events_at tile) (
    first_fails _ _ other,
    (
      gives_none Left _,
      (
        gives_none Left _,
        (
          waits_none Left _,
          (
            gives_none Right _,
            (
              gives_none Right _,
              (
                waits_none Right _,
                (
                  gives_none Up _,
                  (
                    gives_none Up _,
                    (
                      waits_none Up _,
                      (gives_none Down _, (gives_none Down _, (waits_none Down _, tt))),
                    ),
                  ),
                ),
              ),
            ),
          ),
        ),
      ),
    ),
  ))
    where
      gives_none : (dir : Dir) (b : Bool) → (is_giving grid state tile dir && b) ≡ false
      gives_none dir b = first_fails (is_giving grid state tile dir) b (first_fails (is_compute_at grid tile) _ other)

      waits_none : (dir : Dir) (b : Bool) → (is_waiting grid state tile dir && b) ≡ false
      waits_none dir b = first_fails (is_waiting grid state tile dir) b (first_fails (is_compute_at grid tile) _ other)

-- ---- the lists one after the other

abbrev items_of : ArrayVec Event → List Event
items_of events = events.items

module _ (lists : List (ArrayVec Event)) where
  -- an event of a list
  pub found_in : (list left index : ℕ) (e : ArrayVec Event) (d : Event) → list < length lists → left < length (get_or lists list e).items → length (flat_map items_of (take list lists)) + left ≡ index → slice_get (flat_map items_of lists) index ≡ Some (get_or (get_or lists list e).items left d)
  found_in list left index e d within below is =
      let fits = length-flat_map-take items_of lists list e within in
      let there : index < length (flat_map items_of lists) = omega arith in
      slice_get-get_or (flat_map items_of lists) index d there
      ∙ ap (λ (x : Event). Some x) (ap (λ (i : ℕ). get_or (flat_map items_of lists) i d) (sym is) ∙ get_or-flat_map items_of lists list left e d within below)

  -- all lists
  pub all_of : (count : ℕ) → length lists ≤ count → flat_map items_of (take count lists) ≡ flat_map items_of lists
  all_of count past = ap (λ (list : List (ArrayVec Event)). flat_map items_of list) (take_all count lists past)

  -- one more list
  pub one_more_list : (list : ℕ) (e : ArrayVec Event) → list < length lists → length (flat_map items_of (take (list + 1) lists)) ≡ length (flat_map items_of (take list lists)) + length (get_or lists list e).items
  one_more_list list e within =
      ap (λ (some : List (ArrayVec Event)). length (flat_map items_of some)) (take_more lists list e within)
      ∙ ap (λ (some : List Event). length some) (sym (flat_map_more items_of [] (take list lists) (get_or lists list e)))
      ∙ length-append (flat_map items_of (take list lists)) (get_or lists list e).items

-- ---- the list of each tile and port

-- a test of two numbers, as the definitions make it
below_is : (a b : ℕ) → a < b → nat_lt a b ≡ true
below_is a b below = lt-ltb a b below

behind_is : (a b : ℕ) → b ≤ a → nat_lt a b ≡ false
behind_is a b behind = le-ltb a b behind

pub events_of_tile : (tile : ℕ) → tile < 12 → events_in tile ≡ events_at tile
events_of_tile tile below = ap (λ (b : Bool). cond b (events_at tile) (cond (nat_lt tile 16) (In (tile - 12) ∷ []) (Out (tile - 16) ∷ []))) (below_is tile 12 below)

pub events_of_input : (list : ℕ) → 12 ≤ list → list < 16 → events_in list ≡ In (list - 12) ∷ []
events_of_input list behind below =
    ap (λ (b : Bool). cond b (events_at list) (cond (nat_lt list 16) (In (list - 12) ∷ []) (Out (list - 16) ∷ []))) (behind_is list 12 behind)
    ∙ ap (λ (b : Bool). cond b (In (list - 12) ∷ []) (Out (list - 16) ∷ [])) (below_is list 16 below)

pub events_of_output : (list : ℕ) → 16 ≤ list → events_in list ≡ Out (list - 16) ∷ []
events_of_output list behind =
    ap (λ (b : Bool). cond b (events_at list) (cond (nat_lt list 16) (In (list - 12) ∷ []) (Out (list - 16) ∷ []))) (behind_is list 12 (omega arith))
    ∙ ap (λ (b : Bool). cond b (In (list - 12) ∷ []) (Out (list - 16) ∷ [])) (behind_is list 16 behind)

pub tile_of_input : (list : ℕ) → list < 16 → tile_at list ≡ list - 12
tile_of_input list below = ap (λ (b : Bool). cond b (list - 12) (list - 8)) (below_is list 16 below)

pub tile_of_output : (list : ℕ) → 16 ≤ list → tile_at list ≡ list - 8
tile_of_output list behind = ap (λ (b : Bool). cond b (list - 12) (list - 8)) (behind_is list 16 behind)

-- ---- all events that are enabled

module _ (grid : Grid) (state : State) where
  -- the lists
  lists_listed : (lists : List (ArrayVec Event)) (count : ℕ) → length lists ≡ count → ((list : ℕ) → list < count → (get_or lists list (record { items = [] })).items ≡ those_enabled grid state (events_in list)) →
      flat_map items_of lists ≡ those_enabled grid state (flat_map events_in (range_with_len 0 count))
  lists_listed lists count len each =
      let all = fill_by_all (λ list. those_enabled grid state (events_in list)) (map items_of lists) count [] (length-map lists items_of ∙ len)
      (λ list below. get_or-map items_of lists list (record { items = [] }) [] (omega arith) ∙ each list below) in
      sym (flat_map-map (λ (xs : List Event). xs) items_of lists)
      ∙ ap (λ (xss : List (List Event)). flat_map (λ (xs : List Event). xs) xss) all
      ∙ flat_map-map (λ (xs : List Event). xs) (λ list. those_enabled grid state (events_in list)) (range_with_len 0 count)
      ∙ sym (those-flat_map grid state events_in (range_with_len 0 count))

  -- all of them are the events of twelve tiles and four columns
  twenty_lists : (tiles columns : ℕ) → tiles ≡ 12 → columns ≡ 4 → flat_map events_in (range_with_len 0 20) ≡ flat_map events_at (range_with_len 0 tiles) ++ map (λ position. In position) (range_with_len 0 columns) ++ map (λ position. Out position) (range_with_len 0 columns)
  twenty_lists tiles columns tiles-is columns-is =
      ap (λ (n : ℕ). flat_map events_at (range_with_len 0 n) ++ map (λ position. In position) (range_with_len 0 4) ++ map (λ position. Out position) (range_with_len 0 4)) (sym tiles-is)
      ∙ ap (λ (n : ℕ). flat_map events_at (range_with_len 0 tiles) ++ map (λ position. In position) (range_with_len 0 n) ++ map (λ position. Out position) (range_with_len 0 n)) (sym columns-is)

  -- those of all events
  all_enabled : those_enabled grid state (all_events grid) ≡ enabled_events grid state
  unfolding those_enabled
  all_enabled = refl

  pub all_listed : (lists : List (ArrayVec Event)) → length grid.puzzle.tiles.kinds ≡ 12 → grid.puzzle.tiles.shape.columns ≡ 4 → length lists ≡ 20 →
      ((list : ℕ) → list < 20 → (get_or lists list (record { items = [] })).items ≡ those_enabled grid state (events_in list)) → flat_map items_of lists ≡ enabled_events grid state
  all_listed lists kinds columns len each =
      lists_listed lists 20 len each
      ∙ ap (λ (xs : List Event). those_enabled grid state xs) (twenty_lists (length grid.puzzle.tiles.kinds) grid.puzzle.tiles.shape.columns kinds columns)
      ∙ all_enabled

-- an element of a list that isn't empty, as a word chooses it
pub chosen_at : (events : List Event) (word : ℕ) (event : Event) → slice_get events (choice_of word (length events)) ≡ Some event → Some event ≡ next_of events word
chosen_at [] word event is = absurd cc
chosen_at (first ∷ events) word event is = sym is ∙ slice_get-get_or (first ∷ events) (choice_of word (length (first ∷ events))) first (slice_get_within (first ∷ events) (choice_of word (length (first ∷ events))) event is)

-- none is chosen where none is there
pub none_chosen : (events : List Event) (word : ℕ) → length events ≡ 0 → None ≡ next_of events word
none_chosen [] word none = refl
none_chosen (first ∷ events) word none = absurd (omega arith)

-- what is listed is what is enabled
pub choices_list : (grid : Grid) (state : State) (choices : Choices) → IsGrid grid → AreChoices grid state choices → listed choices ≡ enabled_events grid state
choices_list grid state choices is_grid are = all_listed grid state choices.lists (twelve_tiles grid is_grid) is_grid.puzzle.tiles.allowed.0 are.len are.right

-- a word chooses the same of both
pub drawn_from : (grid : Grid) (state : State) (choices : Choices) (word : ℕ) → IsGrid grid → AreChoices grid state choices → next_of (listed choices) word ≡ next_of (enabled_events grid state) word
drawn_from grid state choices word is_grid are = ap (λ (events : List Event). next_of events word) (choices_list grid state choices is_grid are)
