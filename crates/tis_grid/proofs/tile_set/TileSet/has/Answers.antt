use Rattle.tis_grid.proofs.TileSets.{tested}
use Rattle.tis_grid.proofs.tile_set.TileSet.has.Goals as goal

pub returns : goal.returns
returns c = tested c.self.inside.bits c.args.tile.number c.args.self.now c.self.invariant c.self.view_is
