-- What a tile does, told by what it would do.
use Rattle.std.proofs.Common.{◌≡◌, ℕ, ◌<◌, true, false, cond, [], ◌∷◌, length, Option, Some, None, refl, sym, ap, ◌∙◌, arith}
use Rattle.std.specs.Prelude.{Bool, IsTrue, ◌&&◌, not, nat_lt, flat_map, unwrap_or, option_map}
use Rattle.std.specs.List.{find, range_with_len}
use Rattle.std.specs.Option.{option_or}
use Rattle.std.proofs.lemmas.Bool.{le-ltb}
use Rattle.tis_base.specs.Tiles.{opposite}
use Rattle.tis_base.specs.declared.tiles.Dir.{Dir}
use Rattle.tis_base.specs.declared.tiles.Dir.TheVariants.{Left, Right, Up, Down}
use Rattle.tis_asm.specs.Node.{is_same_dir}
use Rattle.tis_grid.specs.declared.event.Event.{Event}
use Rattle.tis_grid.specs.declared.event.Event.TheVariants.{Local, Meet, In, Push, Pop}
use Rattle.tis_grid.specs.State.{Grid, IsGrid, State, left_at}
use Rattle.tis_grid.specs.Events.{next_tile, is_giving, is_waiting, has_value, has_room, is_enabled}
use Rattle.tis_grid.proofs.Places.{next_back, next_up, some_columns}
use Rattle.tis_clock.specs.Cycle.{directions, from_neighbour, from_above, ways_to_take, ways_of_ready, gives_old, first_way, reads_or_steps, to_below, ways_to_give, gives_out}
use Rattle.tis_clock.proofs.Ways.{found_in_parts, found_first, found_later}
use Rattle.tis_clock.proofs.Resting.{twice}
use Rattle.tis_clock.proofs.Below.{nothing_below}

and_false : (a : Bool) → (a && false) ≡ false
and_false true = refl
and_false false = refl

-- what is false isn't true
pub not_true : (b : Bool) → b ≡ false → IsTrue b → ⊥
not_true b fails holds = let same : true ≡ false = sym holds ∙ fails in cc

or_none : {X : Type 0} (option : Option X) → option_or option None ≡ option
or_none None = refl
or_none (Some x) = refl

-- one event alone
found_one : (test : Event → Bool) (event : Event) (is : Bool) → test event ≡ is → find test (event ∷ []) ≡ cond is (Some event) None
found_one test event is passes = ap (λ (b : Bool). cond b (Some event) None) passes

module _ (grid : Grid) (is_grid : IsGrid grid) (now : State) (was : ℕ → Bool) (tile : ℕ) (within : tile < length grid.puzzle.tiles.kinds) where
  abbrev test : Event → Bool
  test event = gives_old was event && is_enabled grid now event

  -- a meeting with a giver that is next, at this tile's turn
  meets : (dir : Dir) (giver : ℕ) → next_tile grid tile dir ≡ Some giver →
      is_enabled grid now (Meet (record { number = giver }) (opposite dir)) ≡ (is_giving grid now giver (opposite dir) && is_waiting grid now tile dir)
  meets dir giver is =
      let back = next_back grid.puzzle.tiles.shape tile dir giver (some_columns grid.puzzle.tiles is_grid.puzzle.tiles) (omega (arith, within, is_grid.puzzle.tiles.filled)) is in
      ap (λ (o : Option ℕ). is_giving grid now giver (opposite dir) && unwrap_or (option_map (λ reader. is_waiting grid now reader (opposite (opposite dir))) o) false) back
      ∙ ap (λ (d : Dir). is_giving grid now giver (opposite dir) && is_waiting grid now tile d) (twice dir)

  -- ---- a direction in which the tile doesn't wait

  no_meeting : (dir : Dir) (next : Option ℕ) → next_tile grid tile dir ≡ next → is_waiting grid now tile dir ≡ false → find test (from_neighbour next dir) ≡ None
  no_meeting dir None is waits = refl
  no_meeting dir (Some giver) is waits =
      found_one test (Meet (record { number = giver }) (opposite dir)) false
      (ap (λ (b : Bool). was giver && b) (meets dir giver is ∙ ap (λ (b : Bool). is_giving grid now giver (opposite dir) && b) waits ∙ and_false (is_giving grid now giver (opposite dir))) ∙ and_false (was giver))

  no_pop : (dir : Dir) → is_waiting grid now tile dir ≡ false → find test (Pop (record { number = tile }) dir ∷ []) ≡ None
  no_pop dir waits = found_one test (Pop (record { number = tile }) dir) false (ap (λ (b : Bool). b && unwrap_or (option_map (has_value grid now) (next_tile grid tile dir)) false) waits)

  no_input : (dir : Dir) → is_waiting grid now tile dir ≡ false → find test (from_above tile dir) ≡ None
  no_input Left waits = refl
  no_input Right waits = refl
  no_input Down waits = refl
  no_input Up waits =
      found_one test (In tile) false
      (ap (λ (b : Bool). nat_lt tile grid.puzzle.tiles.shape.columns && (nat_lt 0 (left_at now tile) && b)) waits
      ∙ ap (λ (b : Bool). nat_lt tile grid.puzzle.tiles.shape.columns && b) (and_false (nat_lt 0 (left_at now tile)))
      ∙ and_false (nat_lt tile grid.puzzle.tiles.shape.columns))

  none_taken : (dir : Dir) → is_waiting grid now tile dir ≡ false → first_way grid was now (ways_to_take grid tile dir) ≡ None
  none_taken dir waits =
      found_later test (from_neighbour (next_tile grid tile dir) dir) (Pop (record { number = tile }) dir ∷ from_above tile dir) (no_meeting dir (next_tile grid tile dir) refl waits)
      ∙ found_later test (Pop (record { number = tile }) dir ∷ []) (from_above tile dir) (no_pop dir waits)
      ∙ no_input dir waits

  -- ---- a direction in which it waits

  module _ (dir : Dir) (next : ℕ) (is : next_tile grid tile dir ≡ Some next) (waits : is_waiting grid now tile dir ≡ true) where
    meeting : find test (from_neighbour (next_tile grid tile dir) dir) ≡ cond (was next && is_giving grid now next (opposite dir)) (Some (Meet (record { number = next }) (opposite dir))) None
    meeting =
        ap (λ (o : Option ℕ). find test (from_neighbour o dir)) is
        ∙ found_one test (Meet (record { number = next }) (opposite dir)) (was next && is_giving grid now next (opposite dir))
        (ap (λ (b : Bool). was next && b) (meets dir next is ∙ ap (λ (b : Bool). is_giving grid now next (opposite dir) && b) waits ∙ and_true (is_giving grid now next (opposite dir))))
      where
        and_true : (a : Bool) → (a && true) ≡ a
        and_true true = refl
        and_true false = refl

    popping : find test (Pop (record { number = tile }) dir ∷ []) ≡ cond (has_value grid now next) (Some (Pop (record { number = tile }) dir)) None
    popping =
        found_one test (Pop (record { number = tile }) dir) (has_value grid now next)
        (ap (λ (b : Bool). b && unwrap_or (option_map (has_value grid now) (next_tile grid tile dir)) false) waits
        ∙ ap (λ (o : Option ℕ). unwrap_or (option_map (has_value grid now) o) false) is)

    pub met : (was next && is_giving grid now next (opposite dir)) ≡ true → Some (Meet (record { number = next }) (opposite dir)) ≡ first_way grid was now (ways_to_take grid tile dir)
    met gives =
        sym (found_first test (from_neighbour (next_tile grid tile dir) dir) (Pop (record { number = tile }) dir ∷ from_above tile dir) (Meet (record { number = next }) (opposite dir))
        (meeting ∙ ap (λ (b : Bool). cond b (Some (Meet (record { number = next }) (opposite dir))) None) gives))

    not_met : (was next && is_giving grid now next (opposite dir)) ≡ false → first_way grid was now (ways_to_take grid tile dir) ≡ find test (Pop (record { number = tile }) dir ∷ from_above tile dir)
    not_met gives =
        found_later test (from_neighbour (next_tile grid tile dir) dir) (Pop (record { number = tile }) dir ∷ from_above tile dir)
        (meeting ∙ ap (λ (b : Bool). cond b (Some (Meet (record { number = next }) (opposite dir))) None) gives)

    pub popped : (was next && is_giving grid now next (opposite dir)) ≡ false → has_value grid now next ≡ true → Some (Pop (record { number = tile }) dir) ≡ first_way grid was now (ways_to_take grid tile dir)
    popped gives has =
        sym (not_met gives
        ∙ found_first test (Pop (record { number = tile }) dir ∷ []) (from_above tile dir) (Pop (record { number = tile }) dir)
        (popping ∙ ap (λ (b : Bool). cond b (Some (Pop (record { number = tile }) dir)) None) has))

    pub nothing_comes : (was next && is_giving grid now next (opposite dir)) ≡ false → has_value grid now next ≡ false → None ≡ first_way grid was now (ways_to_take grid tile dir)
    nothing_comes gives has =
        sym (not_met gives
        ∙ found_later test (Pop (record { number = tile }) dir ∷ []) (from_above tile dir) (popping ∙ ap (λ (b : Bool). cond b (Some (Pop (record { number = tile }) dir)) None) has)
        ∙ not_above dir is)
      where
        -- below another tile no input comes in
        not_above : (d : Dir) → next_tile grid tile d ≡ Some next → find test (from_above tile d) ≡ None
        not_above Left n = refl
        not_above Right n = refl
        not_above Down n = refl
        not_above Up n =
            let parts = next_up grid.puzzle.tiles.shape tile next n in
            found_one test (In tile) false (ap (λ (b : Bool). b && (nat_lt 0 (left_at now tile) && is_waiting grid now tile Up)) (le-ltb tile grid.puzzle.tiles.shape.columns parts.0))

  -- ---- beyond the grid

  none_beyond : (dir : Dir) → next_tile grid tile dir ≡ None → first_way grid was now (ways_to_take grid tile dir) ≡ find test (from_above tile dir)
  none_beyond dir is =
      found_later test (from_neighbour (next_tile grid tile dir) dir) (Pop (record { number = tile }) dir ∷ from_above tile dir) (ap (λ (o : Option ℕ). find test (from_neighbour o dir)) is)
      ∙ found_later test (Pop (record { number = tile }) dir ∷ []) (from_above tile dir)
      (found_one test (Pop (record { number = tile }) dir) false
      (ap (λ (o : Option ℕ). is_waiting grid now tile dir && unwrap_or (option_map (has_value grid now) o) false) is ∙ and_false (is_waiting grid now tile dir)))

  pub comes_in : next_tile grid tile Up ≡ None → is_enabled grid now (In tile) ≡ true → Some (In tile) ≡ first_way grid was now (ways_to_take grid tile Up)
  comes_in is enabled = sym (none_beyond Up is ∙ found_one test (In tile) true enabled)

  pub none_comes_in : next_tile grid tile Up ≡ None → is_enabled grid now (In tile) ≡ false → None ≡ first_way grid was now (ways_to_take grid tile Up)
  none_comes_in is enabled = sym (none_beyond Up is ∙ found_one test (In tile) false enabled)

  pub no_left : next_tile grid tile Left ≡ None → None ≡ first_way grid was now (ways_to_take grid tile Left)
  no_left is = sym (none_beyond Left is)

  pub no_right : next_tile grid tile Right ≡ None → None ≡ first_way grid was now (ways_to_take grid tile Right)
  no_right is = sym (none_beyond Right is)

  pub no_down : next_tile grid tile Down ≡ None → None ≡ first_way grid was now (ways_to_take grid tile Down)
  no_down is = sym (none_beyond Down is)

  -- ---- the turn of a tile that was ready

  abbrev way : Dir → Option Event
  way dir = first_way grid was now (ways_to_take grid tile dir)

  -- the directions, one after the other
  abbrev one_of_four : Option Event → Option Event → Option Event → Option Event → Option Event
  one_of_four left right up down = option_or left (option_or right (option_or up (option_or down None)))

  in_order : first_way grid was now (flat_map (ways_to_take grid tile) directions) ≡ one_of_four (way Left) (way Right) (way Up) (way Down)
  in_order =
      found_in_parts test (ways_to_take grid tile Left) (flat_map (ways_to_take grid tile) (Right ∷ Up ∷ Down ∷ []))
      ∙ ap (λ (o : Option Event). option_or (way Left) o) (found_in_parts test (ways_to_take grid tile Right) (flat_map (ways_to_take grid tile) (Up ∷ Down ∷ []))
      ∙ ap (λ (o : Option Event). option_or (way Right) o) (found_in_parts test (ways_to_take grid tile Up) (flat_map (ways_to_take grid tile) (Down ∷ []))
      ∙ ap (λ (o : Option Event). option_or (way Up) o) (found_in_parts test (ways_to_take grid tile Down) [])))

  module _ (ready : was tile ≡ false) where
    at_turn : reads_or_steps grid was now tile ≡ first_way grid was now (ways_of_ready grid tile)
    at_turn = ap (λ (b : Bool). cond (not b) (first_way grid was now (ways_of_ready grid tile)) None) ready

    pub steps : is_enabled grid now (Local (record { number = tile })) ≡ true → Some (Local (record { number = tile })) ≡ reads_or_steps grid was now tile
    steps local = sym (at_turn ∙ ap (λ (b : Bool). cond b (Some (Local (record { number = tile }))) (first_way grid was now (flat_map (ways_to_take grid tile) directions))) local)

    module _ (local : is_enabled grid now (Local (record { number = tile })) ≡ false) where
      pub takes_any : first_way grid was now (flat_map (ways_to_take grid tile) directions) ≡ reads_or_steps grid was now tile
      takes_any = sym (at_turn ∙ ap (λ (b : Bool). cond b (Some (Local (record { number = tile }))) (first_way grid was now (flat_map (ways_to_take grid tile) directions))) local)

      -- it waits for one port alone
      pub takes_one : (dir : Dir) → ((other : Dir) → is_waiting grid now tile other ≡ is_same_dir dir other) → first_way grid was now (ways_to_take grid tile dir) ≡ reads_or_steps grid was now tile
      takes_one Left only =
          sym (or_none (way Left))
          ∙ sym (in_order ∙ ap (λ (o : Option Event). one_of_four (way Left) o (way Up) (way Down)) (none_taken Right (only Right)) ∙ ap (λ (o : Option Event). one_of_four (way Left) None o (way Down)) (none_taken Up (only Up)) ∙ ap (λ (o : Option Event). one_of_four (way Left) None None o) (none_taken Down (only Down)))
          ∙ takes_any
      takes_one Right only =
          sym (or_none (way Right))
          ∙ sym (in_order ∙ ap (λ (o : Option Event). one_of_four o (way Right) (way Up) (way Down)) (none_taken Left (only Left)) ∙ ap (λ (o : Option Event). one_of_four None (way Right) o (way Down)) (none_taken Up (only Up)) ∙ ap (λ (o : Option Event). one_of_four None (way Right) None o) (none_taken Down (only Down)))
          ∙ takes_any
      takes_one Up only =
          sym (or_none (way Up))
          ∙ sym (in_order ∙ ap (λ (o : Option Event). one_of_four o (way Right) (way Up) (way Down)) (none_taken Left (only Left)) ∙ ap (λ (o : Option Event). one_of_four None o (way Up) (way Down)) (none_taken Right (only Right)) ∙ ap (λ (o : Option Event). one_of_four None None (way Up) o) (none_taken Down (only Down)))
          ∙ takes_any
      takes_one Down only =
          sym (or_none (way Down))
          ∙ sym (in_order ∙ ap (λ (o : Option Event). one_of_four o (way Right) (way Up) (way Down)) (none_taken Left (only Left)) ∙ ap (λ (o : Option Event). one_of_four None o (way Up) (way Down)) (none_taken Right (only Right)) ∙ ap (λ (o : Option Event). one_of_four None None o (way Down)) (none_taken Up (only Up)))
          ∙ takes_any

      -- it waits for none
      pub takes_none : ((other : Dir) → is_waiting grid now tile other ≡ false) → None ≡ reads_or_steps grid was now tile
      takes_none none =
          sym (in_order ∙ ap (λ (o : Option Event). one_of_four o (way Right) (way Up) (way Down)) (none_taken Left (none Left)) ∙ ap (λ (o : Option Event). one_of_four None o (way Up) (way Down)) (none_taken Right (none Right)) ∙ ap (λ (o : Option Event). one_of_four None None o (way Down)) (none_taken Up (none Up)) ∙ ap (λ (o : Option Event). one_of_four None None None o) (none_taken Down (none Down)))
          ∙ takes_any

  -- ---- the turn of a tile that was writing

  abbrev gift : Dir → Option Event
  gift dir = find (is_enabled grid now) (ways_to_give grid tile dir)

  no_push : (dir : Dir) → is_giving grid now tile dir ≡ false → find (is_enabled grid now) (Push (record { number = tile }) dir ∷ []) ≡ None
  no_push dir gives = found_one (is_enabled grid now) (Push (record { number = tile }) dir) false (ap (λ (b : Bool). b && unwrap_or (option_map (has_room grid now) (next_tile grid tile dir)) false) gives)

  none_out : (dir : Dir) → is_giving grid now tile dir ≡ false → find (is_enabled grid now) (to_below grid tile dir) ≡ None
  none_out Left gives = refl
  none_out Right gives = refl
  none_out Up gives = refl
  none_out Down gives = nothing_below grid now tile gives (range_with_len 0 grid.puzzle.tiles.shape.columns)

  none_given : (dir : Dir) → is_giving grid now tile dir ≡ false → gift dir ≡ None
  none_given dir gives = found_later (is_enabled grid now) (Push (record { number = tile }) dir ∷ []) (to_below grid tile dir) (no_push dir gives) ∙ none_out dir gives

  gifts_in_order : find (is_enabled grid now) (flat_map (ways_to_give grid tile) directions) ≡ one_of_four (gift Left) (gift Right) (gift Up) (gift Down)
  gifts_in_order =
      found_in_parts (is_enabled grid now) (ways_to_give grid tile Left) (flat_map (ways_to_give grid tile) (Right ∷ Up ∷ Down ∷ []))
      ∙ ap (λ (o : Option Event). option_or (gift Left) o) (found_in_parts (is_enabled grid now) (ways_to_give grid tile Right) (flat_map (ways_to_give grid tile) (Up ∷ Down ∷ []))
      ∙ ap (λ (o : Option Event). option_or (gift Right) o) (found_in_parts (is_enabled grid now) (ways_to_give grid tile Up) (flat_map (ways_to_give grid tile) (Down ∷ []))
      ∙ ap (λ (o : Option Event). option_or (gift Up) o) (found_in_parts (is_enabled grid now) (ways_to_give grid tile Down) [])))

  module _ (writes : was tile ≡ true) where
    pub gives_any : find (is_enabled grid now) (flat_map (ways_to_give grid tile) directions) ≡ gives_out grid was now tile
    gives_any = sym (ap (λ (b : Bool). cond b (find (is_enabled grid now) (flat_map (ways_to_give grid tile) directions)) None) writes)

    -- it gives to one port alone
    pub gives_one : (dir : Dir) → ((other : Dir) → is_giving grid now tile other ≡ is_same_dir dir other) → find (is_enabled grid now) (ways_to_give grid tile dir) ≡ gives_out grid was now tile
    gives_one Left only =
        sym (or_none (gift Left))
        ∙ sym (gifts_in_order ∙ ap (λ (o : Option Event). one_of_four (gift Left) o (gift Up) (gift Down)) (none_given Right (only Right)) ∙ ap (λ (o : Option Event). one_of_four (gift Left) None o (gift Down)) (none_given Up (only Up)) ∙ ap (λ (o : Option Event). one_of_four (gift Left) None None o) (none_given Down (only Down)))
        ∙ gives_any
    gives_one Right only =
        sym (or_none (gift Right))
        ∙ sym (gifts_in_order ∙ ap (λ (o : Option Event). one_of_four o (gift Right) (gift Up) (gift Down)) (none_given Left (only Left)) ∙ ap (λ (o : Option Event). one_of_four None (gift Right) o (gift Down)) (none_given Up (only Up)) ∙ ap (λ (o : Option Event). one_of_four None (gift Right) None o) (none_given Down (only Down)))
        ∙ gives_any
    gives_one Up only =
        sym (or_none (gift Up))
        ∙ sym (gifts_in_order ∙ ap (λ (o : Option Event). one_of_four o (gift Right) (gift Up) (gift Down)) (none_given Left (only Left)) ∙ ap (λ (o : Option Event). one_of_four None o (gift Up) (gift Down)) (none_given Right (only Right)) ∙ ap (λ (o : Option Event). one_of_four None None (gift Up) o) (none_given Down (only Down)))
        ∙ gives_any
    gives_one Down only =
        sym (or_none (gift Down))
        ∙ sym (gifts_in_order ∙ ap (λ (o : Option Event). one_of_four o (gift Right) (gift Up) (gift Down)) (none_given Left (only Left)) ∙ ap (λ (o : Option Event). one_of_four None o (gift Up) (gift Down)) (none_given Right (only Right)) ∙ ap (λ (o : Option Event). one_of_four None None o (gift Down)) (none_given Up (only Up)))
        ∙ gives_any

    -- its value was taken
    pub gives_none : ((other : Dir) → is_giving grid now tile other ≡ false) → None ≡ gives_out grid was now tile
    gives_none none =
        sym (gifts_in_order ∙ ap (λ (o : Option Event). one_of_four o (gift Right) (gift Up) (gift Down)) (none_given Left (none Left)) ∙ ap (λ (o : Option Event). one_of_four None o (gift Up) (gift Down)) (none_given Right (none Right)) ∙ ap (λ (o : Option Event). one_of_four None None o (gift Down)) (none_given Up (none Up)) ∙ ap (λ (o : Option Event). one_of_four None None None o) (none_given Down (none Down)))
        ∙ gives_any

  -- it was ready
  pub gives_nothing : was tile ≡ false → None ≡ gives_out grid was now tile
  gives_nothing ready = sym (ap (λ (b : Bool). cond b (find (is_enabled grid now) (flat_map (ways_to_give grid tile) directions)) None) ready)
