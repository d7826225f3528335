-- What a tile can do, told by what its node would do.
use Rattle.std.proofs.Common.{◌≡◌, ℕ, true, false, cond, List, [], ◌∷◌, ◌++◌, Option, Some, None, refl, sym, ap, ◌∙◌, append_assoc, append-nil}
use Rattle.std.specs.Prelude.{Bool, ◌&&◌, flat_map, unwrap_or, option_map, nat_lt, length, get_or}
use Rattle.tis_base.specs.Tiles.{opposite, is_compute, is_memory}
use Rattle.tis_base.specs.declared.tiles.Dir.{Dir}
use Rattle.tis_base.specs.declared.tiles.Dir.TheVariants.{Left, Right, Up, Down}
use Rattle.tis_base.specs.declared.tiles.TileKind.{TileKind}
use Rattle.tis_base.specs.declared.tiles.TileKind.TheVariants.{Compute, Memory, Damaged}
use Rattle.tis_asm.specs.Node.{is_same_dir, wants}
use Rattle.tis_devices.specs.Stack.{ROOM}
use Rattle.tis_grid.specs.declared.event.Event.{Event}
use Rattle.tis_grid.specs.declared.event.Event.TheVariants.{Local, Meet, Push, Pop}
use Rattle.tis_grid.specs.State.{Grid, State, node_at, stack_at}
use Rattle.tis_grid.specs.Events.{program_of, next_tile, is_waiting, is_giving, has_room, has_value, is_enabled}
use Rattle.tis_grid.specs.Choices.{events_towards, events_at, those_enabled}
use Rattle.tis_grid.proofs.Choosing.{those-append, those-empty}

-- what is a stack computes nothing
stack_or_node : (kind : TileKind) (b : Bool) → (is_compute kind && b) ≡ true → is_memory kind ≡ false
stack_or_node Compute b is = refl
stack_or_node Memory b is = absurd cc
stack_or_node Damaged b is = refl

module _ (grid : Grid) (state : State) where
  -- the first event is enabled, or isn't
  kept : (event : Event) (rest : List Event) → is_enabled grid state event ≡ true → those_enabled grid state (event ∷ rest) ≡ event ∷ those_enabled grid state rest
  unfolding those_enabled
  kept event rest is = ap (λ (b : Bool). cond b (event ∷ those_enabled grid state rest) (those_enabled grid state rest)) is

  dropped : (event : Event) (rest : List Event) → is_enabled grid state event ≡ false → those_enabled grid state (event ∷ rest) ≡ those_enabled grid state rest
  unfolding those_enabled
  dropped event rest is = ap (λ (b : Bool). cond b (event ∷ those_enabled grid state rest) (those_enabled grid state rest)) is

  module _ (tile : ℕ) where
    abbrev pub here : Event
    here = Local (record { number = tile })

    abbrev pub meets : Dir → Event
    meets dir = Meet (record { number = tile }) dir

    abbrev pub pushes : Dir → Event
    pushes dir = Push (record { number = tile }) dir

    abbrev pub pops : Dir → Event
    pops dir = Pop (record { number = tile }) dir

    -- what it can do towards a direction
    abbrev pub ways : Dir → List Event
    ways dir = those_enabled grid state (events_towards tile dir)

    -- ---- one direction

    module _ (dir : Dir) where
      gives_none : is_giving grid state tile dir ≡ false → (b : Bool) → (is_giving grid state tile dir && b) ≡ false
      gives_none is b = ap (λ (a : Bool). a && b) is

      waits_none : is_waiting grid state tile dir ≡ false → (b : Bool) → (is_waiting grid state tile dir && b) ≡ false
      waits_none is b = ap (λ (a : Bool). a && b) is

      -- a tile that gives nothing there can only pop
      gives_nothing : is_giving grid state tile dir ≡ false → ways dir ≡ those_enabled grid state (pops dir ∷ [])
      gives_nothing gives = dropped (meets dir) (pushes dir ∷ pops dir ∷ []) (gives_none gives _) ∙ dropped (pushes dir) (pops dir ∷ []) (gives_none gives _)

      -- one that neither gives nor waits there can do nothing
      silent : is_waiting grid state tile dir ≡ false → is_giving grid state tile dir ≡ false → ways dir ≡ []
      silent waits gives = gives_nothing gives ∙ dropped (pops dir) [] (waits_none waits _) ∙ those-empty grid state

      module _ (waits : is_waiting grid state tile dir ≡ true) (gives : is_giving grid state tile dir ≡ false) where
        popping : (next : Option ℕ) (has : Bool) → next_tile grid tile dir ≡ next → unwrap_or (option_map (has_value grid state) next) false ≡ has → is_enabled grid state (pops dir) ≡ has
        popping next has is value = ap (λ (b : Bool). b && unwrap_or (option_map (has_value grid state) (next_tile grid tile dir)) false) waits ∙ ap (λ (o : Option ℕ). unwrap_or (option_map (has_value grid state) o) false) is ∙ value

        pub pulls : (next : ℕ) → next_tile grid tile dir ≡ Some next → has_value grid state next ≡ true → pops dir ∷ [] ≡ ways dir
        pulls next is value = sym (gives_nothing gives ∙ kept (pops dir) [] (popping (Some next) true is value) ∙ ap (λ (xs : List Event). pops dir ∷ xs) (those-empty grid state))

        pub pulls_nothing : (next : ℕ) → next_tile grid tile dir ≡ Some next → has_value grid state next ≡ false → [] ≡ ways dir
        pulls_nothing next is value = sym (gives_nothing gives ∙ dropped (pops dir) [] (popping (Some next) false is value) ∙ those-empty grid state)

        pub pulls_beyond : next_tile grid tile dir ≡ None → [] ≡ ways dir
        pulls_beyond is = sym (gives_nothing gives ∙ dropped (pops dir) [] (popping None false is refl) ∙ those-empty grid state)

      module _ (waits : is_waiting grid state tile dir ≡ false) (gives : is_giving grid state tile dir ≡ true) where
        no_pop : is_enabled grid state (pops dir) ≡ false
        no_pop = waits_none waits _

        meeting : (next : Option ℕ) (met : Bool) → next_tile grid tile dir ≡ next → unwrap_or (option_map (λ reader. is_waiting grid state reader (opposite dir)) next) false ≡ met → is_enabled grid state (meets dir) ≡ met
        meeting next met is value = ap (λ (b : Bool). b && unwrap_or (option_map (λ reader. is_waiting grid state reader (opposite dir)) (next_tile grid tile dir)) false) gives ∙ ap (λ (o : Option ℕ). unwrap_or (option_map (λ reader. is_waiting grid state reader (opposite dir)) o) false) is ∙ value

        pushing : (next : Option ℕ) (room : Bool) → next_tile grid tile dir ≡ next → unwrap_or (option_map (has_room grid state) next) false ≡ room → is_enabled grid state (pushes dir) ≡ room
        pushing next room is value = ap (λ (b : Bool). b && unwrap_or (option_map (has_room grid state) (next_tile grid tile dir)) false) gives ∙ ap (λ (o : Option ℕ). unwrap_or (option_map (has_room grid state) o) false) is ∙ value

        last : those_enabled grid state (pops dir ∷ []) ≡ []
        last = dropped (pops dir) [] no_pop ∙ those-empty grid state

        pub gives_beyond : next_tile grid tile dir ≡ None → [] ≡ ways dir
        gives_beyond is = sym (dropped (meets dir) (pushes dir ∷ pops dir ∷ []) (meeting None false is refl) ∙ dropped (pushes dir) (pops dir ∷ []) (pushing None false is refl) ∙ last)

        module _ (next : ℕ) (is : next_tile grid tile dir ≡ Some next) where
          -- a tile that waits is no stack
          no_room : is_waiting grid state next (opposite dir) ≡ true → has_room grid state next ≡ false
          no_room takes = ap (λ (b : Bool). b && nat_lt (length (stack_at state next)) ROOM) (stack_or_node (get_or grid.puzzle.tiles.kinds next Damaged) (wants (program_of grid next) (node_at state next) (opposite dir)) takes)

          pub meets_it : is_waiting grid state next (opposite dir) ≡ true → meets dir ∷ [] ≡ ways dir
          meets_it takes =
              sym (kept (meets dir) (pushes dir ∷ pops dir ∷ []) (meeting (Some next) true is takes)
              ∙ ap (λ (xs : List Event). meets dir ∷ xs) (dropped (pushes dir) (pops dir ∷ []) (pushing (Some next) false is (no_room takes)) ∙ last))

          pub pushes_it : is_waiting grid state next (opposite dir) ≡ false → has_room grid state next ≡ true → pushes dir ∷ [] ≡ ways dir
          pushes_it takes room =
              sym (dropped (meets dir) (pushes dir ∷ pops dir ∷ []) (meeting (Some next) false is takes)
              ∙ kept (pushes dir) (pops dir ∷ []) (pushing (Some next) true is room) ∙ ap (λ (xs : List Event). pushes dir ∷ xs) last)

          pub keeps_it : is_waiting grid state next (opposite dir) ≡ false → has_room grid state next ≡ false → [] ≡ ways dir
          keeps_it takes room =
              sym (dropped (meets dir) (pushes dir ∷ pops dir ∷ []) (meeting (Some next) false is takes) ∙ dropped (pushes dir) (pops dir ∷ []) (pushing (Some next) false is room) ∙ last)

    -- ---- all directions

    abbrev all_ways : List Event → List Event → List Event → List Event → List Event
    all_ways left right up down = left ++ (right ++ (up ++ down))

    in_order : those_enabled grid state (events_at tile) ≡ those_enabled grid state (here ∷ []) ++ all_ways (ways Left) (ways Right) (ways Up) (ways Down)
    in_order =
        those-append grid state (here ∷ []) (flat_map (events_towards tile) (Left ∷ Right ∷ Up ∷ Down ∷ []))
        ∙ ap (λ (xs : List Event). those_enabled grid state (here ∷ []) ++ xs) (those-append grid state (events_towards tile Left) (flat_map (events_towards tile) (Right ∷ Up ∷ Down ∷ []))
        ∙ ap (λ (xs : List Event). ways Left ++ xs) (those-append grid state (events_towards tile Right) (flat_map (events_towards tile) (Up ∷ Down ∷ []))
        ∙ ap (λ (xs : List Event). ways Right ++ xs) (those-append grid state (events_towards tile Up) (events_towards tile Down))))

    pub steps_alone : is_enabled grid state here ≡ true → ((dir : Dir) → is_waiting grid state tile dir ≡ false) → ((dir : Dir) → is_giving grid state tile dir ≡ false) → here ∷ [] ≡ those_enabled grid state (events_at tile)
    steps_alone local waits gives =
        let none : (dir : Dir) → ways dir ≡ [] = λ dir. silent dir (waits dir) (gives dir) in
        sym (in_order
        ∙ ap (λ (xs : List Event). xs ++ all_ways (ways Left) (ways Right) (ways Up) (ways Down)) (kept here [] local ∙ ap (λ (xs : List Event). here ∷ xs) (those-empty grid state))
        ∙ ap (λ (xs : List Event). here ∷ all_ways xs (ways Right) (ways Up) (ways Down)) (none Left) ∙ ap (λ (xs : List Event). here ∷ all_ways [] xs (ways Up) (ways Down)) (none Right)
        ∙ ap (λ (xs : List Event). here ∷ all_ways [] [] xs (ways Down)) (none Up) ∙ ap (λ (xs : List Event). here ∷ xs) (none Down))

    module _ (local : is_enabled grid state here ≡ false) where
      no_step : those_enabled grid state (events_at tile) ≡ all_ways (ways Left) (ways Right) (ways Up) (ways Down)
      no_step = in_order ∙ ap (λ (xs : List Event). xs ++ all_ways (ways Left) (ways Right) (ways Up) (ways Down)) (dropped here [] local ∙ those-empty grid state)

      pub does_nothing : ((dir : Dir) → is_waiting grid state tile dir ≡ false) → ((dir : Dir) → is_giving grid state tile dir ≡ false) → [] ≡ those_enabled grid state (events_at tile)
      does_nothing waits gives =
          let none : (dir : Dir) → ways dir ≡ [] = λ dir. silent dir (waits dir) (gives dir) in
          sym (no_step ∙ ap (λ (xs : List Event). all_ways xs (ways Right) (ways Up) (ways Down)) (none Left) ∙ ap (λ (xs : List Event). all_ways [] xs (ways Up) (ways Down)) (none Right)
          ∙ ap (λ (xs : List Event). all_ways [] [] xs (ways Down)) (none Up) ∙ none Down)

      -- the list of four directions, one behind the other
      pub in_all : (a b c d items : List Event) → a ≡ ways Left → b ≡ ways Right → c ≡ ways Up → d ≡ ways Down → items ≡ (([] ++ a ++ b) ++ c) ++ d → items ≡ those_enabled grid state (events_at tile)
      in_all a b c d items left right up down is =
          is ∙ append_assoc (a ++ b) c d ∙ append_assoc a b (c ++ d)
          ∙ ap (λ (xs : List Event). all_ways xs b c d) left ∙ ap (λ (xs : List Event). all_ways (ways Left) xs c d) right
          ∙ ap (λ (xs : List Event). all_ways (ways Left) (ways Right) xs d) up ∙ ap (λ (xs : List Event). all_ways (ways Left) (ways Right) (ways Up) xs) down
          ∙ sym no_step

      -- one direction alone
      pub in_one : (dir : Dir) → ((other : Dir) → is_same_dir dir other ≡ false → ways other ≡ []) → ways dir ≡ those_enabled grid state (events_at tile)
      in_one Left none =
          sym (no_step ∙ ap (λ (xs : List Event). all_ways (ways Left) xs (ways Up) (ways Down)) (none Right refl) ∙ ap (λ (xs : List Event). all_ways (ways Left) [] xs (ways Down)) (none Up refl)
          ∙ ap (λ (xs : List Event). all_ways (ways Left) [] [] xs) (none Down refl) ∙ append-nil (ways Left))
      in_one Right none =
          sym (no_step ∙ ap (λ (xs : List Event). all_ways xs (ways Right) (ways Up) (ways Down)) (none Left refl) ∙ ap (λ (xs : List Event). all_ways [] (ways Right) xs (ways Down)) (none Up refl)
          ∙ ap (λ (xs : List Event). all_ways [] (ways Right) [] xs) (none Down refl) ∙ append-nil (ways Right))
      in_one Up none =
          sym (no_step ∙ ap (λ (xs : List Event). all_ways xs (ways Right) (ways Up) (ways Down)) (none Left refl) ∙ ap (λ (xs : List Event). all_ways [] xs (ways Up) (ways Down)) (none Right refl)
          ∙ ap (λ (xs : List Event). all_ways [] [] (ways Up) xs) (none Down refl) ∙ append-nil (ways Up))
      in_one Down none =
          sym (no_step ∙ ap (λ (xs : List Event). all_ways xs (ways Right) (ways Up) (ways Down)) (none Left refl) ∙ ap (λ (xs : List Event). all_ways [] xs (ways Up) (ways Down)) (none Right refl)
          ∙ ap (λ (xs : List Event). all_ways [] [] xs (ways Down)) (none Up refl))

      -- it waits there alone, and gives nothing
      pub takes_one : (dir : Dir) → ((other : Dir) → is_waiting grid state tile other ≡ is_same_dir dir other) → ((other : Dir) → is_giving grid state tile other ≡ false) → ways dir ≡ those_enabled grid state (events_at tile)
      takes_one dir waits gives = in_one dir (λ other apart. silent other (waits other ∙ apart) (gives other))

      -- it gives there alone, and waits for nothing
      pub gives_one : (dir : Dir) → ((other : Dir) → is_waiting grid state tile other ≡ false) → ((other : Dir) → is_giving grid state tile other ≡ is_same_dir dir other) → ways dir ≡ those_enabled grid state (events_at tile)
      gives_one dir waits gives = in_one dir (λ other apart. silent other (waits other) (gives other ∙ apart))
