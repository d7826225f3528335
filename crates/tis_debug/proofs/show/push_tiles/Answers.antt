use Rattle.tis_debug.specs.Shown.{tile_text}
use Rattle.tis_report.proofs.Growing.{number_more}
use Rattle.tis_debug.proofs.show.push_tiles.Goals as goal

pub loop-number-preserved : goal.loop-number-preserved
loop-number-preserved c = number_more (tile_text c.args.grid.now c.args.state.now.state) c.args.out.now.items c.loop-number.out.items c.push_tile.new.out.items c.loop-number.number c.in_ok-push_tile.ensures c.loop-number.invariant
