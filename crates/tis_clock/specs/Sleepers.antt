-- Tiles that do nothing until another one writes.
use Rattle.std.specs.Prelude.{◌≡◌, ℕ, Bool, true, false, List, length, Option, None}
use Rattle.tis_asm.specs.Node.{Node}
use Rattle.tis_grid.specs.State.{Grid, State, node_at}
use Rattle.tis_grid.specs.TileSets.{has}
use Rattle.tis_clock.specs.Cycle.{writers, reads_or_steps}

-- as long as its node is this one, a tile does nothing in a cycle at whose beginning the other tile wasn't writing
abbrev pub WaitsFor : Grid → Node → ℕ → ℕ → Type 0
WaitsFor grid node tile other = (was : ℕ → Bool) (now : State) → node_at now tile ≡ node → was other ≡ false → reads_or_steps grid was now tile ≡ None

-- a tile sleeps: it wasn't writing when the cycle began and isn't now, and it waits for one that wasn't writing either
pub record Sleeps (grid : Grid) (was : ℕ → Bool) (now : State) (tile : ℕ) : Type 0 where
  pub rested : was tile ≡ false
  pub ready : writers now tile ≡ false
  pub other : ℕ
  pub quiet : was other ≡ false
  pub waits : WaitsFor grid (node_at now tile) tile other

-- all tiles of a set sleep, which has a flag for each of the twelve
pub record AreAsleep (grid : Grid) (was : ℕ → Bool) (now : State) (set : List Bool) : Type 0 where
  pub full : length set ≡ 12
  pub each : (tile : ℕ) → has set tile ≡ true → Sleeps grid was now tile
