-- Puzzles as contracts see them: records, lists and numbers.
use Rattle.std.specs.Prelude.{◌≢◌, ℕ, ◌<◌, ℤ, pos, negsuc, Bool, false, ◌&&◌, List, [], ◌∷◌, ◌++◌, length, Option, option_map, option_and_then, map, All, AllPairs, IsTrue, ◌==◌, nat_le, if◌then◌else◌}
use Rattle.std.specs.List.{list_all, list_any}
use Rattle.tis_base.specs.Saturation.{IsValue}
use Rattle.tis_base.specs.Tiles.{Tiles, AreTiles}
use Rattle.tis_base.specs.declared.tiles.TileKind.{TileKind}
use Rattle.tis_grid.specs.declared.puzzle.OutKind.{OutKind}
use Rattle.tis_grid.specs.declared.puzzle.InputAt.{InputAt}
use Rattle.tis_grid.specs.declared.puzzle.OutputAt.{OutputAt}
use Rattle.tis_grid.specs.declared.puzzle.Puzzle as declared

-- the values that come in above a column
pub record Input : Type 0 where
  pub position : ℕ
  pub values : List ℤ

-- what is wanted below a column
pub record Output : Type 0 where
  pub position : ℕ
  pub kind : OutKind
  pub expected : List ℤ

-- the tiles of a grid, and what comes in at its top and is wanted at its bottom
pub record Puzzle : Type 0 where
  pub tiles : Tiles
  pub inputs : List Input
  pub outputs : List Output

-- an input and an output as they are held
abbrev pub input_of : InputAt → Input
input_of i = record { position = i.position; values = i.values.items }

abbrev pub output_of : OutputAt → Output
output_of o = record { position = o.position; kind = o.kind; expected = o.expected.items }

-- what contracts see of a puzzle
abbrev pub puzzle_of : declared.Puzzle → Puzzle
puzzle_of p = record { tiles = p.tiles; inputs = map input_of p.inputs.items; outputs = map output_of p.outputs.items }

-- each port stands at a column, no two inputs and no two outputs at the same one, and what comes in are values of the machine; what is wanted may be anything
pub record IsPuzzle (puzzle : Puzzle) : Type 0 where
  pub tiles : AreTiles puzzle.tiles.shape puzzle.tiles.kinds
  pub inputs_below : All (λ input. input.position < puzzle.tiles.shape.columns) puzzle.inputs
  pub outputs_below : All (λ output. output.position < puzzle.tiles.shape.columns) puzzle.outputs
  pub inputs_distinct : AllPairs (λ a b. a.position ≢ b.position) puzzle.inputs
  pub outputs_distinct : AllPairs (λ a b. a.position ≢ b.position) puzzle.outputs
  pub values : All (λ input. All IsValue input.values) puzzle.inputs

-- the values of the input at a position, none where no input stands there
abbrev pub values_at : List Input → ℕ → List ℤ
values_at [] position = []
values_at (input ∷ inputs) position = if input.position == position then input.values else values_at inputs position

-- whether an input stands at this position
abbrev pub has_input : List Input → ℕ → Bool
has_input inputs position = list_any (λ input. input.position == position) inputs

-- whether an output stands at this position
abbrev pub has_output : List Output → ℕ → Bool
has_output outputs position = list_any (λ output. output.position == position) outputs

-- an output stands at this position
abbrev pub HasOutput : List Output → ℕ → Type 0
HasOutput outputs position = IsTrue (has_output outputs position)

-- ---- port by port

-- an input above a column, or an output below one
pub data Port : Type 0 where
  Above : (input : Input) → Port
  Below : (output : Output) → Port

-- a port at this position, with these values, where both are there
abbrev pub input_at : Option ℕ → Option (List ℤ) → Option Port
input_at position values = option_and_then (λ p. option_map (λ v. Above (record { position = p; values = v })) values) position

abbrev pub output_at : OutKind → Option ℕ → Option (List ℤ) → Option Port
output_at kind position values = option_and_then (λ p. option_map (λ v. Below (record { position = p; kind = kind; expected = v })) values) position

-- a port at one of these columns; what comes in are values of the machine
abbrev pub IsPort : ℕ → Port → Type 0
IsPort columns (Above input) = (input.position < columns) × All IsValue input.values
IsPort columns (Below output) = output.position < columns

-- whether a port stands at this position on its side
abbrev pub is_taken : Puzzle → Port → Bool
is_taken puzzle (Above input) = has_input puzzle.inputs input.position
is_taken puzzle (Below output) = has_output puzzle.outputs output.position

-- the puzzle with one more port
abbrev pub with_port : Puzzle → Port → Puzzle
with_port puzzle (Above input) = record puzzle { inputs = puzzle.inputs ++ input ∷ [] }
with_port puzzle (Below output) = record puzzle { outputs = puzzle.outputs ++ output ∷ [] }

-- four columns and three rows of tiles without a port
abbrev pub bare : List TileKind → Puzzle
bare kinds = record { tiles = record { shape = record { columns = 4; rows = 3 }; kinds = kinds }; inputs = []; outputs = [] }

-- ---- what an image wants

-- whether a value is a colour, from 0 to 4
abbrev pub is_colour : ℤ → Bool
is_colour (pos number) = nat_le number 4
is_colour (negsuc number) = false

-- whether these are the colours of all 540 points of the console, row by row
unfoldable pub is_picture : List ℤ → Bool
is_picture values = length values == 540 && list_all is_colour values
