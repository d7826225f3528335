-- Where tiles are next to each other.
use Rattle.std.proofs.Common.{◌≡◌, ◌≢◌, ℕ, zero, suc, ◌+◌, ◌-◌, ◌*◌, ◌/◌, ◌%◌, ◌<◌, ◌≤◌, nat_lt, nat_le, Some, sym, ap, ◌∙◌, arith, mul-suc, div-add-mod', ltb-true, leb-true, lt-ltb, le-leb}
use Rattle.std.proofs.lemmas.Nat.{mod-mul-add, mod_below}
use Rattle.std.proofs.lemmas.Bool.{cond-true}
use Rattle.std.proofs.lemmas.Option.{cond_some, slice_get_within}
use Rattle.tis_base.specs.Tiles.{Tiles, AreTiles, IsCompute, neighbour_of, opposite}
use Rattle.tis_base.specs.declared.tiles.Dir.{Dir}
use Rattle.tis_base.specs.declared.tiles.Dir.TheVariants.{Left, Right, Up, Down}
use Rattle.tis_base.specs.declared.tiles.Shape.{Shape}
use Rattle.tis_base.specs.declared.tiles.TileKind.TheVariants.{Compute}

-- ---- columns

-- the column of the number before
column_before : (width number : ℕ) → 0 < width → 0 < number % width → (number - 1) % width ≡ number % width - 1
column_before width number some inside =
    let whole = div-add-mod' number width in
    let below = mod_below number width some in
    let split : number - 1 ≡ number / width * width + (number % width - 1) = omega arith in
    ap (λ n. n % width) split ∙ mod-mul-add (number / width) width (number % width - 1) (omega arith)

-- the column of the number after
column_after : (width number : ℕ) → number % width + 1 < width → (number + 1) % width ≡ number % width + 1
column_after width number inside =
    let whole = div-add-mod' number width in
    let split : number + 1 ≡ number / width * width + (number % width + 1) = omega arith in
    ap (λ n. n % width) split ∙ mod-mul-add (number / width) width (number % width + 1) inside

-- a number isn't below its column
column_within : (width number : ℕ) → number % width ≤ number
column_within width number = omega (arith, div-add-mod' number width)

-- ---- neighbours by numbers

-- the tile to the left
pub next_left : (shape : Shape) (tile next : ℕ) → neighbour_of shape tile Left ≡ Some next → (0 < tile % shape.columns) × (tile - 1 ≡ next)
next_left shape tile next is =
    let parts = cond_some (nat_lt 0 (tile % shape.columns)) (tile - 1) next is in
    (ltb-true _ _ parts.0, parts.1)

-- the tile to the right
pub next_right : (shape : Shape) (tile next : ℕ) → neighbour_of shape tile Right ≡ Some next → (tile % shape.columns + 1 < shape.columns) × (tile + 1 ≡ next)
next_right shape tile next is =
    let parts = cond_some (nat_lt (tile % shape.columns + 1) shape.columns) (tile + 1) next is in
    (ltb-true _ _ parts.0, parts.1)

-- the tile above
pub next_up : (shape : Shape) (tile next : ℕ) → neighbour_of shape tile Up ≡ Some next → (shape.columns ≤ tile) × (tile - shape.columns ≡ next)
next_up shape tile next is =
    let parts = cond_some (nat_le shape.columns tile) (tile - shape.columns) next is in
    (leb-true _ _ parts.0, parts.1)

-- the tile below
pub next_down : (shape : Shape) (tile next : ℕ) → neighbour_of shape tile Down ≡ Some next → (tile + shape.columns < shape.columns * shape.rows) × (tile + shape.columns ≡ next)
next_down shape tile next is =
    let parts = cond_some (nat_lt (tile + shape.columns) (shape.columns * shape.rows)) (tile + shape.columns) next is in
    (ltb-true _ _ parts.0, parts.1)

-- ---- neighbours and directions

-- a neighbour is another tile
pub next_differs : (shape : Shape) (tile : ℕ) (dir : Dir) (next : ℕ) → 0 < shape.columns → neighbour_of shape tile dir ≡ Some next → tile ≢ next
next_differs shape tile Left next some is = let parts = next_left shape tile next is in omega (arith, column_within shape.columns tile)
next_differs shape tile Right next some is = let parts = next_right shape tile next is in omega arith
next_differs shape tile Up next some is = let parts = next_up shape tile next is in omega arith
next_differs shape tile Down next some is = let parts = next_down shape tile next is in omega arith

-- back from a neighbour
pub next_back : (shape : Shape) (tile : ℕ) (dir : Dir) (next : ℕ) → 0 < shape.columns → tile < shape.columns * shape.rows → neighbour_of shape tile dir ≡ Some next → neighbour_of shape next (opposite dir) ≡ Some tile
next_back shape tile Left next some within is =
    let parts = next_left shape tile next is in
    let column : next % shape.columns ≡ tile % shape.columns - 1 = ap (λ n. n % shape.columns) (sym parts.1) ∙ column_before shape.columns tile some parts.0 in
    let below = mod_below tile shape.columns some in
    let back : next + 1 ≡ tile = omega (arith, column_within shape.columns tile) in
    cond-true (nat_lt (next % shape.columns + 1) shape.columns) _ _ (lt-ltb _ _ (omega arith)) ∙ ap Some back
next_back shape tile Right next some within is =
    let parts = next_right shape tile next is in
    let column : next % shape.columns ≡ tile % shape.columns + 1 = ap (λ n. n % shape.columns) (sym parts.1) ∙ column_after shape.columns tile parts.0 in
    let back : next - 1 ≡ tile = omega arith in
    cond-true (nat_lt 0 (next % shape.columns)) _ _ (lt-ltb _ _ (omega arith)) ∙ ap Some back
next_back shape tile Up next some within is =
    let parts = next_up shape tile next is in
    let back : next + shape.columns ≡ tile = omega arith in
    cond-true (nat_lt (next + shape.columns) (shape.columns * shape.rows)) _ _ (lt-ltb _ _ (omega arith)) ∙ ap Some back
next_back shape tile Down next some within is =
    let parts = next_down shape tile next is in
    let back : next - shape.columns ≡ tile = omega arith in
    cond-true (nat_le shape.columns next) _ _ (le-leb _ _ (omega arith)) ∙ ap Some back

-- two tiles with one neighbour in one direction are one tile
pub next_one : (shape : Shape) (tile other : ℕ) (dir : Dir) (next : ℕ) → neighbour_of shape tile dir ≡ Some next → neighbour_of shape other dir ≡ Some next → tile ≡ other
next_one shape tile other Left next first second =
    let a = next_left shape tile next first in
    let b = next_left shape other next second in
    omega (arith, column_within shape.columns tile, column_within shape.columns other)
next_one shape tile other Right next first second =
    let a = next_right shape tile next first in
    let b = next_right shape other next second in
    omega arith
next_one shape tile other Up next first second =
    let a = next_up shape tile next first in
    let b = next_up shape other next second in
    omega arith
next_one shape tile other Down next first second =
    let a = next_down shape tile next first in
    let b = next_down shape other next second in
    omega arith

-- no tile is above the top row
pub none_above : (shape : Shape) (position next : ℕ) → position < shape.columns → neighbour_of shape position Up ≡ Some next → ⊥
none_above shape position next within is = let parts = next_up shape position next is in omega arith

-- a tile with one above it isn't in the top row
pub not_top : (shape : Shape) (tile next : ℕ) → next < shape.columns → neighbour_of shape tile Down ≡ Some next → ⊥
not_top shape tile next within is = let parts = next_down shape tile next is in omega arith

-- all rows but one, and one more
all_rows : (width rows : ℕ) → 0 < rows → width * (rows - 1) + width ≡ width * rows
all_rows width zero some = omega arith
all_rows width (suc rows) some =
    let fewer : suc rows - 1 ≡ rows = omega arith in
    rw fewer (omega (arith, mul-suc width rows))

-- no tile is below the bottom row
pub none_below : (shape : Shape) (position next : ℕ) → 0 < shape.rows → neighbour_of shape (position + shape.columns * (shape.rows - 1)) Down ≡ Some next → ⊥
none_below shape position next some is =
    let parts = next_down shape (position + shape.columns * (shape.rows - 1)) next is in
    omega (arith, all_rows shape.columns shape.rows some)

-- ---- tiles

-- tiles have a column
pub some_columns : (tiles : Tiles) → AreTiles tiles.shape tiles.kinds → 0 < tiles.shape.columns
some_columns tiles is = omega (arith, is.allowed.0)

-- tiles have a row
pub some_rows : (tiles : Tiles) → AreTiles tiles.shape tiles.kinds → 0 < tiles.shape.rows
some_rows tiles is = omega (arith, is.allowed.1)

-- a compute tile is on the grid
pub compute_within : (tiles : Tiles) (tile : ℕ) → AreTiles tiles.shape tiles.kinds → IsCompute tiles tile → tile < tiles.shape.columns * tiles.shape.rows
compute_within tiles tile is compute = omega (arith, is.filled, slice_get_within tiles.kinds tile Compute compute)
