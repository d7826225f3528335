use Rattle.tis_grid.proofs.TileSets.{both_have}
use Rattle.tis_grid.proofs.tile_set.TileSet.both.Goals as goal

pub returns : goal.returns
returns c = both_have c.self.inside.bits c.other.inside.bits c.args.self.now c.args.other.now c.self.invariant c.other.invariant c.self.view_is c.other.view_is
