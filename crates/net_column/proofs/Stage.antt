-- Programs that work as one stage of a column: they read from above, and give what a function makes of it downwards.
use Rattle.std.specs.Prelude.{◌≡◌, ◌≢◌, ℕ, ◌+◌, ◌*◌, ◌<◌, ◌≤◌, ℤ, List, [], ◌∷◌, length, Some, IsTrue, ◌⊎◌}
use Rattle.tis_base.specs.Prefix.{IsPrefixOf}
use Rattle.tis_base.specs.Tiles.{IsCompute}
use Rattle.tis_base.specs.declared.tiles.Dir.{Dir}
use Rattle.tis_base.specs.declared.tiles.Dir.TheVariants.{Up, Down}
use Rattle.tis_asm.specs.declared.program.MarkedInstr.{MarkedInstr}
use Rattle.tis_asm.specs.Node.{Node, fresh, can_local, wants, offers}
use Rattle.tis_asm.specs.PortRuns.{Step, IsPortRun, after_steps, taken_from, given_to, local_count}
use Rattle.tis_grid.specs.declared.event.Event.{Event}
use Rattle.tis_grid.specs.Puzzle.{HasOutput, values_at}
use Rattle.tis_grid.specs.State.{Grid, State, outs}
use Rattle.tis_grid.specs.Events.{program_of, next_tile, bottom_of}
use Rattle.tis_grid.specs.Orders.{IsAtRest}

-- what a stage can do next: a local step, or take a value from above, or give one downwards
pub data Next (program : List MarkedInstr) (node : Node) : Type 0 where
  GoesOn : IsTrue (can_local program node) → Next program node
  WaitsAbove : IsTrue (wants program node Up) → Next program node
  GivesBelow : (value : ℤ) → offers node Down ≡ Some value → Next program node

-- after these steps: values were taken from above alone and given downwards alone, those that were given are the first ones of what the function makes of those that were taken, and all of them where the node waits for more; it is never stuck, and its local steps are bounded
pub record WorksAs (program : List MarkedInstr) (makes : List ℤ → List ℤ) (most_local : ℕ → ℕ) (steps : List Step) (node : Node) : Type 0 where
  pub takes_above : (dir : Dir) → dir ≢ Up → taken_from dir steps ≡ []
  pub gives_below : (dir : Dir) → dir ≢ Down → given_to dir steps ≡ []
  pub prefix : IsPrefixOf (given_to Down steps) (makes (taken_from Up steps))
  pub whole : IsTrue (wants program node Up) → given_to Down steps ≡ makes (taken_from Up steps)
  pub next : Next program node
  pub local : local_count steps ≤ most_local (length (taken_from Up steps))

-- whatever its neighbours do, the program works as the function says; more values from above change nothing of what was made before, and no more values are made than came
pub record IsStage (program : List MarkedInstr) (makes : List ℤ → List ℤ) (most_local : ℕ → ℕ) : Type 0 where
  pub works : (steps : List Step) → IsPortRun program fresh steps → WorksAs program makes most_local steps (after_steps program fresh steps)
  pub keeps_prefixes : (prefix whole : List ℤ) → IsPrefixOf prefix whole → IsPrefixOf (makes prefix) (makes whole)
  pub no_longer : (values : List ℤ) → length (makes values) ≤ length values
  pub grows : (few many : ℕ) → few ≤ many → most_local few ≤ most_local many

-- a program with the function that it works as, and the most local steps that it takes for so many values
pub record Stage : Type 0 where
  pub program : List MarkedInstr
  pub makes : List ℤ → List ℤ
  pub most_local : ℕ → ℕ
  pub is_stage : IsStage program makes most_local

-- what all stages, one behind the other, make of these values
abbrev pub made_by : List Stage → List ℤ → List ℤ
made_by [] values = values
made_by (stage ∷ stages) values = made_by stages (stage.makes values)

-- the most steps of all stages, where so many values come in
abbrev pub most_steps : List Stage → ℕ → ℕ
most_steps [] count = 0
most_steps (stage ∷ stages) count = stage.most_local count + count + count + most_steps stages count

-- a compute tile has the program of a stage
pub record StandsOn (grid : Grid) (tile : ℕ) (stage : Stage) : Type 0 where
  pub compute : IsCompute grid.puzzle.tiles tile
  pub program : program_of grid tile ≡ stage.program

-- the tile that is one row further down
abbrev pub below : Grid → ℕ → ℕ
below grid tile = tile + grid.puzzle.tiles.shape.columns

-- a stage on this tile, and the others on the tiles below it, down to the bottom of the column
abbrev pub StandDown : Grid → ℕ → ℕ → Stage → List Stage → Type 0
StandDown grid position tile stage [] = StandsOn grid tile stage × (tile ≡ bottom_of grid position)
StandDown grid position tile stage (next ∷ stages) = StandsOn grid tile stage × (next_tile grid tile Down ≡ Some (below grid tile)) × StandDown grid position (below grid tile) next stages

-- this tile is one of those on which the stages stand, of which the first stands on the other tile
abbrev pub IsAmong : Grid → ℕ → ℕ → List Stage → Type 0
IsAmong grid tile first [] = ⊥
IsAmong grid tile first (stage ∷ stages) = (tile ≡ first) ⊎ IsAmong grid tile (below grid first) stages

-- the stages stand down one column, from the top row to the bottom row, and no other tile has instructions
pub record IsPipeline (grid : Grid) (position : ℕ) (stage : Stage) (stages : List Stage) : Type 0 where
  pub inside : position < grid.puzzle.tiles.shape.columns
  pub stand : StandDown grid position position stage stages
  pub elsewhere : (tile : ℕ) → IsAmong grid tile position (stage ∷ stages) ⊎ (program_of grid tile ≡ [])
  pub other_bottoms : (other : ℕ) → other < grid.puzzle.tiles.shape.columns → other ≢ position → program_of grid (bottom_of grid other) ≡ []

-- an order from the start, and the state that it leads to: the output of the column is a prefix of what the stages make of its input, no other output has a value, the number of events is bounded, and where no event can happen the output is all that the stages make
pub record FollowsPipeline (grid : Grid) (position : ℕ) (stages : List Stage) (events : List Event) (end : State) : Type 0 where
  pub prefix : IsPrefixOf (outs end position) (made_by stages (values_at grid.puzzle.inputs position))
  pub others : (other : ℕ) → other ≢ position → outs end other ≡ []
  pub bounded : length events ≤ length grid.puzzle.tiles.kinds * most_steps stages (length (values_at grid.puzzle.inputs position))
  pub whole : HasOutput grid.puzzle.outputs position → IsAtRest grid end → outs end position ≡ made_by stages (values_at grid.puzzle.inputs position)
