-- The grid of tiles, numbered from 0 in reading order.
use Rattle.std.specs.Prelude.{◌≡◌, ℕ, ◌+◌, ◌-◌, ◌*◌, ◌%◌, ◌<◌, Bool, true, false, List, length, Option, Some, None, count_by, slice_get, take, nat_lt, nat_le, if◌then◌else◌}
use Rattle.tis_base.specs.declared.tiles.Dir.{Dir}
use Rattle.tis_base.specs.declared.tiles.Dir.TheVariants.{Left, Right, Up, Down}
use Rattle.tis_base.specs.declared.tiles.Shape.{Shape}
use Rattle.tis_base.specs.declared.tiles.TileKind.{TileKind}
use Rattle.tis_base.specs.declared.tiles.TileKind.TheVariants.{Compute, Memory, Damaged}

-- the tiles as contracts see them: a shape, and one kind for each tile in reading order
pub record Tiles : Type 0 where
  pub shape : Shape
  pub kinds : List TileKind

-- four columns and three rows
abbrev pub IsAllowed : Shape → Type 0
IsAllowed shape = (shape.columns ≡ 4) × (shape.rows ≡ 3)

-- the shape is allowed, and each of its tiles has one kind
pub record AreTiles (shape : Shape) (kinds : List TileKind) : Type 0 where
  pub allowed : IsAllowed shape
  pub filled : length kinds ≡ shape.columns * shape.rows

-- the tile with this number is there
abbrev pub IsOnGrid : Tiles → ℕ → Type 0
IsOnGrid board tile = tile < length board.kinds

abbrev pub is_compute : TileKind → Bool
is_compute Compute = true
is_compute Memory = false
is_compute Damaged = false

abbrev pub is_memory : TileKind → Bool
is_memory Compute = false
is_memory Memory = true
is_memory Damaged = false

-- the tile with this number is there and is a compute tile
abbrev pub IsCompute : Tiles → ℕ → Type 0
IsCompute board tile = slice_get board.kinds tile ≡ Some Compute

-- how many compute tiles stand before this one: the number of its block in a save
abbrev pub block_of : Tiles → ℕ → ℕ
block_of board tile = count_by is_compute (take tile board.kinds)

-- the direction from the other side
abbrev pub opposite : Dir → Dir
opposite Left = Right
opposite Right = Left
opposite Up = Down
opposite Down = Up

-- the number of the tile that is next in this direction, where one is there: Left and Right stay in the row, Up and Down in the column
abbrev pub neighbour_of : Shape → ℕ → Dir → Option ℕ
neighbour_of shape tile Left = if nat_lt 0 (tile % shape.columns) then Some (tile - 1) else None
neighbour_of shape tile Right = if nat_lt (tile % shape.columns + 1) shape.columns then Some (tile + 1) else None
neighbour_of shape tile Up = if nat_le shape.columns tile then Some (tile - shape.columns) else None
neighbour_of shape tile Down = if nat_lt (tile + shape.columns) (shape.columns * shape.rows) then Some (tile + shape.columns) else None
