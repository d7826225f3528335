-- The output whose column ends in a tile.
use Rattle.std.proofs.Common.{◌≡◌, ℕ, zero, suc, ◌+◌, ◌-◌, ◌*◌, ◌<◌, ◌≤◌, true, false, cond, List, [], ◌∷◌, Option, Some, None, inl, inr, refl, sym, ap, ◌∙◌, arith, eq-eqb}
use Rattle.std.specs.Prelude.{Bool, ◌&&◌, map, filter, ◌==◌, nat_lt}
use Rattle.std.proofs.lemmas.Bool.{eqb-true, cases_eq}
use Rattle.std.specs.List.{find, range_with_len}
use Rattle.tis_grid.specs.declared.event.Event.{Event}
use Rattle.tis_grid.specs.declared.event.Event.TheVariants.{Out}
use Rattle.tis_grid.specs.State.{Grid, State}
use Rattle.tis_base.specs.declared.tiles.Dir.TheVariants.{Down}
use Rattle.tis_grid.specs.Puzzle.{has_output}
use Rattle.tis_grid.specs.Events.{is_enabled, is_giving, bottom_of}

-- the first output of these columns that ends in the tile and takes its value
abbrev pub found_in : Grid → State → ℕ → List ℕ → Option Event
found_in grid state tile columns = find (is_enabled grid state) (map (λ position. Out position) (filter (λ position. bottom_of grid position == tile) columns))

-- the columns from a position on
abbrev pub columns_from : ℕ → ℕ → List ℕ
columns_from columns position = range_with_len position (columns - position)

pub next_column : (columns position : ℕ) → position < columns → columns_from columns position ≡ position ∷ columns_from columns (position + 1)
next_column columns position within = ap (range_with_len position) (let one : columns - position ≡ suc (columns - (position + 1)) = omega (arith, within) in one)

pub no_column : (columns position : ℕ) → columns ≤ position → columns_from columns position ≡ []
no_column columns position past = ap (range_with_len position) (let none : columns - position ≡ 0 = omega (arith, past) in none)

module _ (grid : Grid) (state : State) (tile : ℕ) where
  -- the column ends elsewhere
  pub elsewhere : (position : ℕ) (rest : List ℕ) → (bottom_of grid position == tile) ≡ false → found_in grid state tile (position ∷ rest) ≡ found_in grid state tile rest
  elsewhere position rest is = ap (λ b. find (is_enabled grid state) (map (λ p. Out p) (cond b (position ∷ filter (λ p. bottom_of grid p == tile) rest) (filter (λ p. bottom_of grid p == tile) rest)))) is

  -- it ends here
  pub here : (position : ℕ) (rest : List ℕ) → (bottom_of grid position == tile) ≡ true → found_in grid state tile (position ∷ rest) ≡ cond (is_enabled grid state (Out position)) (Some (Out position)) (found_in grid state tile rest)
  here position rest is = ap (λ b. find (is_enabled grid state) (map (λ p. Out p) (cond b (position ∷ filter (λ p. bottom_of grid p == tile) rest) (filter (λ p. bottom_of grid p == tile) rest)))) is

not_equal : (a b : ℕ) → (a ≡ b → ⊥) → (a == b) ≡ false
not_equal a b other = elim (a == b) as (λ v. (a == b) ≡ v → v ≡ false) [ true ↦ λ is. absurd (other (eqb-true a b is)) | false ↦ λ is. refl ] refl

and_false : (a : Bool) → (a && false) ≡ false
and_false true = refl
and_false false = refl

-- a tile that gives nothing downwards gives to no output
pub nothing_below : (grid : Grid) (state : State) (tile : ℕ) → is_giving grid state tile Down ≡ false → (columns : List ℕ) → found_in grid state tile columns ≡ None
nothing_below grid state tile gives [] = refl
nothing_below grid state tile gives (position ∷ rest) =
    elim (bottom_of grid position == tile) as (λ b. (bottom_of grid position == tile) ≡ b → found_in grid state tile (position ∷ rest) ≡ None) [
      | true ↦ λ is.
          let stands : Bool = has_output grid.puzzle.outputs position in
          let inside : Bool = nat_lt position grid.puzzle.tiles.shape.columns in
          let disabled : is_enabled grid state (Out position) ≡ false =
          ap (λ t. inside && (stands && is_giving grid state t Down)) (eqb-true (bottom_of grid position) tile is)
          ∙ ap (λ b. inside && (stands && b)) gives ∙ ap (λ b. inside && b) (and_false stands) ∙ and_false inside in
          here grid state tile position rest is ∙ ap (λ b. cond b (Some (Out position)) (found_in grid state tile rest)) disabled ∙ nothing_below grid state tile gives rest
      | false ↦ λ is. elsewhere grid state tile position rest is ∙ nothing_below grid state tile gives rest
    ] refl

module _ (grid : Grid) (state : State) (tile : ℕ) (columns : grid.puzzle.tiles.shape.columns ≡ 4) (rows : grid.puzzle.tiles.shape.rows ≡ 3) where
  bottom : (position : ℕ) → bottom_of grid position ≡ position + 8
  bottom position = ap (λ n. position + n * (grid.puzzle.tiles.shape.rows - 1)) columns ∙ ap (λ n. position + 4 * (n - 1)) rows

  skipped : (position : ℕ) (rest : List ℕ) → (position + 8 ≡ tile → ⊥) → found_in grid state tile (position ∷ rest) ≡ found_in grid state tile rest
  skipped position rest other = elsewhere grid state tile position rest (not_equal (bottom_of grid position) tile (λ same. other (sym (bottom position) ∙ same)))

  -- all columns from here on end behind the tile
  none_from : (count position : ℕ) → tile < position + 8 → found_in grid state tile (range_with_len position count) ≡ None
  none_from zero position before = refl
  none_from (suc count) position before = skipped position (range_with_len (position + 1) count) (λ same. omega (arith, same, before)) ∙ none_from count (position + 1) (omega (arith, before))

  -- one of them ends in it
  one_from : (count position at : ℕ) → at + 8 ≡ tile → position ≤ at → at < position + count → found_in grid state tile (range_with_len position count) ≡ cond (is_enabled grid state (Out at)) (Some (Out at)) None
  one_from zero position at is from below = absurd (omega (arith, from, below))
  one_from (suc count) position at is from below =
      elim (cases_eq position at) [
        | inl same ↦
            here grid state tile position (range_with_len (position + 1) count) (eq-eqb (bottom_of grid position) tile (bottom position ∙ ap (λ n. n + 8) same ∙ is))
            ∙ ap (λ found. cond (is_enabled grid state (Out position)) (Some (Out position)) found) (none_from count (position + 1) (omega (arith, is, same)))
            ∙ ap (λ p. cond (is_enabled grid state (Out p)) (Some (Out p)) None) same
        | inr other ↦ skipped position (range_with_len (position + 1) count) (λ same. other (omega (arith, same, is))) ∙ one_from count (position + 1) at is (omega (arith, from, other)) (omega (arith, below))
      ]

  -- above the bottom row no column ends
  pub not_bottom : tile < 8 → None ≡ found_in grid state tile (range_with_len 0 grid.puzzle.tiles.shape.columns)
  not_bottom above = sym (none_from grid.puzzle.tiles.shape.columns 0 (omega (arith, above)))

  -- in it the column does that the tile stands in
  pub at_bottom : (at : ℕ) → at + 8 ≡ tile → at < 4 → cond (is_enabled grid state (Out at)) (Some (Out at)) None ≡ found_in grid state tile (range_with_len 0 grid.puzzle.tiles.shape.columns)
  at_bottom at is few = sym (one_from grid.puzzle.tiles.shape.columns 0 at is (omega arith) (omega (arith, few, columns)))
