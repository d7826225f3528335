-- The tiles so far are written.
use Rattle.std.proofs.Common.{◌≡◌, ◌++◌}
use Rattle.std.specs.Prelude.{flat_map}
use Rattle.std.specs.List.{range_with_len}
use Rattle.tis_debug.specs.Shown.{tile_text}
use Rattle.tis_debug.proofs.show.push_tiles.Given as goal

abbrev pub invariant-loop-number : goal.invariant-loop-number
invariant-loop-number l = l.out.items ≡ l.fn.out.items ++ flat_map (tile_text l.grid l.state.state) (range_with_len 0 l.number)
