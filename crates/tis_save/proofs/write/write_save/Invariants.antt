use Rattle.std.proofs.Common.{◌≡◌, ◌≤◌}
use Rattle.std.specs.Prelude.{flat_map}
use Rattle.std.specs.List.{range_with_len}
use Rattle.tis_base.specs.Tiles.{block_of}
use Rattle.tis_save.specs.Writing.{tile_text}
use Rattle.tis_save.proofs.write.write_save.Given as goal

abbrev pub invariant-loop-number : goal.invariant-loop-number
invariant-loop-number l =
    record {
      written : l.out.items ≡ flat_map (tile_text l.programs) (range_with_len 0 l.number);
      block : l.block ≡ block_of l.programs.tiles l.number;
      small : l.block ≤ l.number;
    }
