-- The events that are listed are those that are enabled.
use Rattle.std.proofs.Common.{◌≡◌, ℕ, zero, suc, ◌+◌, ◌<◌, ◌≤◌, true, false, cond, List, [], ◌∷◌, ◌++◌, length, map, inl, inr, refl, sym, ap, subst, ◌∙◌, arith}
use Rattle.std.specs.Prelude.{Bool, ◌⊎◌, Contains, flat_map, filter, slice_index_or}
use Rattle.std.specs.List.{range_with_len}
use Rattle.std.proofs.Math.Nat.{eq-or-lt_of_le}
use Rattle.std.proofs.lemmas.Option.{slice_get_within}
use Rattle.tis_base.specs.Tiles.{IsCompute}
use Rattle.tis_base.specs.declared.tiles.Dir.{Dir}
use Rattle.tis_base.specs.declared.tiles.Dir.TheVariants.{Left, Right, Up, Down}
use Rattle.tis_base.specs.declared.tiles.TileKind.TheVariants.{Compute}
use Rattle.tis_grid.specs.declared.event.Event.{Event}
use Rattle.tis_grid.specs.declared.event.Event.TheVariants.{Local, Meet, In, Out, Push, Pop}
use Rattle.tis_grid.specs.State.{Grid, State}
use Rattle.tis_grid.specs.Events.{is_enabled, IsEnabled}
use Rattle.tis_grid.specs.Choices.{events_at, all_events, enabled_events}
use Rattle.tis_grid.specs.Laws.{EnabledAreListed, RestListsNone}
use Rattle.tis_grid.proofs.Enabled.{Enables, enabled_parts}

-- ---- what stands in a list

-- an element stands first or behind the first
abbrev pub IsIn : {X : Type 0} → X → List X → Type 0
IsIn x [] = ⊥
IsIn x (first ∷ rest) = (first ≡ x) ⊎ IsIn x rest

contains : {X : Type 0} (x : X) (xs : List X) → IsIn x xs → Contains xs x
contains x [] is = absurd is
contains x (first ∷ rest) (inl same) = (0, omega arith, same)
contains x (first ∷ rest) (inr later) = let found = contains x rest later in (suc found.0, omega (arith, found.1), found.2)

stands_at : {X : Type 0} (x : X) (xs : List X) (place : ℕ) → place < length xs → slice_index_or xs place x ≡ x → IsIn x xs
stands_at x [] place within is = absurd (omega arith)
stands_at x (first ∷ rest) zero within is = inl is
stands_at x (first ∷ rest) (suc place) within is = inr (stands_at x rest place (omega arith) is)

stands : {X : Type 0} (x : X) (xs : List X) → Contains xs x → IsIn x xs
stands x xs is = stands_at x xs is.0 is.1 is.2

pub in_left : {X : Type 0} (x : X) (xs ys : List X) → IsIn x xs → IsIn x (xs ++ ys)
in_left x [] ys is = absurd is
in_left x (first ∷ xs) ys (inl same) = inl same
in_left x (first ∷ xs) ys (inr later) = inr (in_left x xs ys later)

pub in_right : {X : Type 0} (x : X) (xs ys : List X) → IsIn x ys → IsIn x (xs ++ ys)
in_right x [] ys is = is
in_right x (first ∷ xs) ys is = inr (in_right x xs ys is)

pub in_map : {X Y : Type 0} (f : X → Y) (x : X) (xs : List X) → IsIn x xs → IsIn (f x) (map f xs)
in_map f x [] is = absurd is
in_map f x (first ∷ xs) (inl same) = inl (ap f same)
in_map f x (first ∷ xs) (inr later) = inr (in_map f x xs later)

pub in_flat_map : {X Y : Type 0} (f : X → List Y) (x : X) (y : Y) (xs : List X) → IsIn x xs → IsIn y (f x) → IsIn y (flat_map f xs)
in_flat_map f x y [] is among = absurd is
in_flat_map f x y (first ∷ xs) (inl same) among = in_left y (f first) (flat_map f xs) (subst (λ (z : _). IsIn y (f z)) (sym same) among)
in_flat_map f x y (first ∷ xs) (inr later) among = in_right y (f first) (flat_map f xs) (in_flat_map f x y xs later among)

pub in_range : (start count number : ℕ) → start ≤ number → number < start + count → IsIn number (range_with_len start count)
in_range start zero number from below = absurd (omega arith)
in_range start (suc count) number from below =
    elim (eq-or-lt_of_le from) [
      | inl same ↦ inl same
      | inr later ↦ inr (in_range (start + 1) count number (omega arith) (omega arith))
    ]

pub in_filter : {X : Type 0} (test : X → Bool) (x : X) (xs : List X) → IsIn x xs → test x ≡ true → IsIn x (filter test xs)
in_filter test x [] is passes = absurd is
in_filter test x (first ∷ xs) (inl same) passes =
    let first_passes : test first ≡ true = ap test same ∙ passes in
    subst (λ (b : Bool). IsIn x (cond b (first ∷ filter test xs) (filter test xs))) (sym first_passes) (inl same)
in_filter test x (first ∷ xs) (inr later) passes =
    elim (test first) as (λ b. IsIn x (cond b (first ∷ filter test xs) (filter test xs))) [
      | true ↦ inr (in_filter test x xs later passes)
      | false ↦ in_filter test x xs later passes
    ]

pub passes_filter : {X : Type 0} (test : X → Bool) (x : X) (xs : List X) → IsIn x (filter test xs) → test x ≡ true
passes_filter test x [] is = absurd is
passes_filter test x (first ∷ xs) is =
    elim (test first) as (λ b. test first ≡ b → IsIn x (cond b (first ∷ filter test xs) (filter test xs)) → test x ≡ true) [
      | true ↦ λ first_passes among. elim among [ inl same ↦ ap test (sym same) ∙ first_passes | inr later ↦ passes_filter test x xs later ]
      | false ↦ λ fails among. passes_filter test x xs among
    ] refl is

-- ---- all events

-- a meeting, a push and a pop of a tile in each direction
meets_in : (tile : ℕ) (dir : Dir) → IsIn (Meet (record { number = tile }) dir) (events_at tile)
meets_in tile Left = inr (inl refl)
meets_in tile Right = inr (inr (inr (inr (inl refl))))
meets_in tile Up = inr (inr (inr (inr (inr (inr (inr (inl refl)))))))
meets_in tile Down = inr (inr (inr (inr (inr (inr (inr (inr (inr (inr (inl refl))))))))))

pushes_in : (tile : ℕ) (dir : Dir) → IsIn (Push (record { number = tile }) dir) (events_at tile)
pushes_in tile Left = inr (inr (inl refl))
pushes_in tile Right = inr (inr (inr (inr (inr (inl refl)))))
pushes_in tile Up = inr (inr (inr (inr (inr (inr (inr (inr (inl refl))))))))
pushes_in tile Down = inr (inr (inr (inr (inr (inr (inr (inr (inr (inr (inr (inl refl)))))))))))

pops_in : (tile : ℕ) (dir : Dir) → IsIn (Pop (record { number = tile }) dir) (events_at tile)
pops_in tile Left = inr (inr (inr (inl refl)))
pops_in tile Right = inr (inr (inr (inr (inr (inr (inl refl))))))
pops_in tile Up = inr (inr (inr (inr (inr (inr (inr (inr (inr (inl refl)))))))))
pops_in tile Down = inr (inr (inr (inr (inr (inr (inr (inr (inr (inr (inr (inr (inl refl))))))))))))

module _ (grid : Grid) where
  tile_events : List Event
  tile_events = flat_map events_at (range_with_len 0 (length grid.puzzle.tiles.kinds))

  -- the events of a compute tile are listed
  of_tile : (tile : ℕ) (event : Event) → IsCompute grid.puzzle.tiles tile → IsIn event (events_at tile) → IsIn event (all_events grid)
  of_tile tile event compute among =
      in_left event _ _ (in_left event _ _ (in_flat_map events_at tile event (range_with_len 0 (length grid.puzzle.tiles.kinds)) (in_range 0 (length grid.puzzle.tiles.kinds) tile (omega arith) (omega (arith, slice_get_within grid.puzzle.tiles.kinds tile Compute compute))) among))

  -- so is each event that is enabled
  all_listed : (state : State) (event : Event) → Enables grid state event → IsIn event (all_events grid)
  all_listed state (Local tile) is = of_tile tile.number (Local tile) is.0 (inl refl)
  all_listed state (Meet tile dir) is = of_tile tile.number (Meet tile dir) is.2.compute (meets_in tile.number dir)
  all_listed state (In position) is =
      in_left (In position) _ _ (in_right (In position) (flat_map events_at (range_with_len 0 (length grid.puzzle.tiles.kinds))) _ (in_map (λ p. In p) position (range_with_len 0 grid.puzzle.tiles.shape.columns) (in_range 0 grid.puzzle.tiles.shape.columns position (omega arith) (omega (arith, is.0)))))
  all_listed state (Out position) is =
      in_right (Out position) (flat_map events_at (range_with_len 0 (length grid.puzzle.tiles.kinds)) ++ map (λ p. In p) (range_with_len 0 grid.puzzle.tiles.shape.columns)) _ (in_map (λ p. Out p) position (range_with_len 0 grid.puzzle.tiles.shape.columns) (in_range 0 grid.puzzle.tiles.shape.columns position (omega arith) (omega (arith, is.0))))
  all_listed state (Push tile dir) is = of_tile tile.number (Push tile dir) is.2.compute (pushes_in tile.number dir)
  all_listed state (Pop tile dir) is = of_tile tile.number (Pop tile dir) is.2.compute (pops_in tile.number dir)

  enabled_in : (state : State) (event : Event) → IsEnabled grid state event → IsIn event (enabled_events grid state)
  enabled_in state event is = in_filter (is_enabled grid state) event (all_events grid) (all_listed state event (enabled_parts grid state event is)) is

pub enabled_are_listed : EnabledAreListed
enabled_are_listed grid state event is_grid = (
  λ is. contains event (enabled_events grid state) (enabled_in grid state event is),
  λ listed. passes_filter (is_enabled grid state) event (all_events grid) (stands event (enabled_events grid state) listed),
)

-- a list without an element is empty
none_in : (events : List Event) → ((event : Event) → IsIn event events → ⊥) → events ≡ []
none_in [] none = refl
none_in (event ∷ events) none = absurd (none event (inl refl))

pub rest_lists_none : RestListsNone
rest_lists_none grid state is_grid = (
  λ rest. none_in (enabled_events grid state) (λ event among. rest event (passes_filter (is_enabled grid state) event (all_events grid) among)),
  λ none event is. subst (λ (events : List Event). IsIn event events) none (enabled_in grid state event is),
)
