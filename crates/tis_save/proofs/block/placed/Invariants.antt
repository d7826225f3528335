-- The tiles so far have the programs of their blocks, and the others none.
use Rattle.std.proofs.Common.{◌≡◌, ◌≤◌, length}
use Rattle.tis_base.specs.Tiles.{block_of}
use Rattle.tis_save.specs.Blocks.{blocks_view}
use Rattle.tis_save.proofs.Placed.{ArePlaced}
use Rattle.tis_save.proofs.block.placed.Given as goal

abbrev pub invariant-loop-number : goal.invariant-loop-number
invariant-loop-number l =
    record {
      tiles : l.programs.tiles ≡ l.tiles;
      one_each : length l.programs.programs ≡ length l.tiles.kinds;
      placed : ArePlaced l.tiles (blocks_view l.blocks) l.number l.programs.programs;
      block : l.block ≡ block_of l.tiles l.number;
      small : l.block ≤ l.number;
    }
