-- What can happen next, as the program holds it.
use Rattle.std.specs.Prelude.{◌≡◌, ◌⊎◌, ℕ, ◌+◌, ◌-◌, ◌*◌, ◌^◌, ◌<◌, ◌≤◌, true, false, List, [], ◌∷◌, length, flat_map, get_or, Option, Some, None, nat_lt, if◌then◌else◌}
use Rattle.std.specs.Int.{bit_at}
use Rattle.tis_base.specs.Tiles.{opposite}
use Rattle.tis_grid.specs.declared.event.Event.{Event}
use Rattle.tis_base.specs.declared.tiles.Dir.{Dir}
use Rattle.tis_base.specs.declared.tiles.Dir.TheVariants.{Left, Right, Up, Down}
use Rattle.tis_node.specs.declared.node.Intent.{Intent}
use Rattle.tis_node.specs.declared.node.Intent.TheVariants.{Nothing, Local as LocalStep, Takes, TakesAny, Gives, GivesAny}
use Rattle.arrayvec.specs.ArrayVec.{ArrayVec}
use Rattle.tis_grid.specs.declared.event.Event.TheVariants.{Local, Meet, In, Out, Push, Pop}
use Rattle.tis_grid.specs.Events.{reached, bottom_of, next_tile, is_giving, is_memory_at}
use Rattle.tis_grid.specs.declared.choices.Choices.{Choices}
use Rattle.tis_grid.specs.declared.givers.Givers.{Givers}
use Rattle.tis_grid.specs.State.{Grid, State}
use Rattle.tis_grid.specs.Choices.{events_at, those_enabled}

-- all of them, one list after the other
abbrev pub listed : Choices → List Event
listed choices = flat_map (λ events. events.items) choices.lists

-- an event, where there is one, as a list
abbrev pub event_of : Option Event → List Event
event_of None = []
event_of (Some event) = event ∷ []

-- the events of a list: of a tile, then of an input, then of an output
abbrev pub events_in : ℕ → List Event
events_in list = if nat_lt list 12 then events_at list else (if nat_lt list 16 then In (list - 12) ∷ [] else Out (list - 16) ∷ [])

-- a list has those of its events that are enabled
abbrev pub IsRight : Grid → State → List (ArrayVec Event) → ℕ → Type 0
IsRight grid state lists list = (get_or lists list (record { items = [] })).items ≡ those_enabled grid state (events_in list)

-- so has each
pub record AreChoices (grid : Grid) (state : State) (choices : Choices) : Type 0 where
  pub len : length choices.lists ≡ 20
  pub right : (list : ℕ) → list < 20 → IsRight grid state choices.lists list

-- the tiles that an event changes: the second one is the same as the first, where there is no other
abbrev pub touched : Grid → Event → ℕ × ℕ
touched grid (Local tile) = (tile.number, tile.number)
touched grid (Meet tile dir) = (tile.number, reached grid tile.number dir)
touched grid (In position) = (position, position)
touched grid (Out position) = (bottom_of grid position, bottom_of grid position)
touched grid (Push tile dir) = (tile.number, reached grid tile.number dir)
touched grid (Pop tile dir) = (tile.number, reached grid tile.number dir)

-- the tile or the position of an event is on the grid
abbrev pub IsPlaced : Grid → Event → Type 0
IsPlaced grid (Local tile) = tile.number < length grid.puzzle.tiles.kinds
IsPlaced grid (Meet tile dir) = tile.number < length grid.puzzle.tiles.kinds
IsPlaced grid (In position) = position < grid.puzzle.tiles.shape.columns
IsPlaced grid (Out position) = position < grid.puzzle.tiles.shape.columns
IsPlaced grid (Push tile dir) = tile.number < length grid.puzzle.tiles.kinds
IsPlaced grid (Pop tile dir) = tile.number < length grid.puzzle.tiles.kinds

-- what a tile can do towards the one that it is next to is as it was, whatever happened to that one's node: it gives nothing there, and there is no stack
abbrev pub IsApart : Grid → State → ℕ → ℕ → Dir → Type 0
IsApart grid state tile next dir = (is_giving grid state next (opposite dir) ≡ false) × (is_memory_at grid tile ≡ false)

-- the tile at which the event of a port happens
abbrev pub tile_at : ℕ → ℕ
tile_at list = if nat_lt list 16 then list - 12 else list - 8

-- the list of a tile was made anew, and so were those of its ports and those of the tiles next to it that can do something with it; no list that was right is wrong now
pub record AreRenewed (grid : Grid) (state : State) (tile : ℕ) (old new : Choices) : Type 0 where
  pub len : length new.lists ≡ 20
  pub here : IsRight grid state new.lists tile
  pub ports : (list : ℕ) → 12 ≤ list → list < 20 → tile_at list ≡ tile → IsRight grid state new.lists list
  pub around : (dir : Dir) (next : ℕ) → next_tile grid tile dir ≡ Some next → IsRight grid state new.lists next ⊎ IsApart grid state tile next dir
  pub others : (list : ℕ) → IsRight grid state old.lists list → IsRight grid state new.lists list

-- ---- which tiles give, and to where

-- the place of a direction among the four, and of a tile and a direction among all
abbrev pub number_of : Dir → ℕ
number_of Left = 0
number_of Right = 1
number_of Up = 2
number_of Down = 3

abbrev pub spot_of : ℕ → Dir → ℕ
spot_of tile dir = 4 * tile + number_of dir

-- a bit for each direction that an intent gives to
abbrev pub bits_of : Intent → ℕ
bits_of Nothing = 0
bits_of LocalStep = 0
bits_of (Takes port) = 0
bits_of TakesAny = 0
bits_of (Gives Left) = 1
bits_of (Gives Right) = 2
bits_of (Gives Up) = 4
bits_of (Gives Down) = 8
bits_of GivesAny = 15

-- where no bit is set, a tile gives nothing
abbrev pub IsMarked : Grid → State → ℕ → ℕ → Type 0
IsMarked grid state marks tile = (dir : Dir) → bit_at marks (spot_of tile dir) ≡ 0 → is_giving grid state tile dir ≡ false

-- these bits have that of each tile next to one, towards it, and no others than those of tiles
pub record PointAt (grid : Grid) (tile : ℕ) (around : ℕ) : Type 0 where
  pub points : (dir : Dir) (next : ℕ) → next_tile grid tile dir ≡ Some next → bit_at around (spot_of next (opposite dir)) ≡ 1
  pub within : (place : ℕ) → bit_at around place ≡ 1 → place < 48

-- by tile there stand the bits of those next to it, towards it, and for a stack all bits
pub record AreAround (grid : Grid) (givers : Givers) : Type 0 where
  pub around_len : length givers.around ≡ 12
  pub always_len : length givers.always ≡ 12
  pub around : (tile : ℕ) → tile < 12 → PointAt grid tile (get_or givers.around tile 0)
  pub always : (tile : ℕ) → tile < 12 → is_memory_at grid tile ≡ true → get_or givers.always tile 0 ≡ 2 ^ 64 - 1

-- each tile's bits are right, and so are those around it
pub record AreGivers (grid : Grid) (state : State) (givers : Givers) : Type 0 where
  pub around : AreAround grid givers
  pub marked : (tile : ℕ) → tile < 12 → IsMarked grid state givers.marks tile
