use Rattle.std.proofs.Common.{◌≡◌, ℕ, ◌<◌, length}
use Rattle.tis_grid.specs.TileSets.{has}
use Rattle.tis_grid.specs.Events.{works_on}
use Rattle.tis_grid.proofs.grid.working_tiles.Given as goal

abbrev pub invariant-loop-number : goal.invariant-loop-number
invariant-loop-number l = (length l.working ≡ 12) × ((tile : ℕ) → tile < l.number → has l.working tile ≡ works_on l.tiles.kinds l.programs.programs tile)
