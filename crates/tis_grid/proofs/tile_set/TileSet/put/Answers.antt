use Rattle.std.proofs.Common.{Bool, List, ap, ◌∙◌, arith, slice_set}
use Rattle.tis_grid.proofs.TileSets.{changed, twelve}
use Rattle.tis_grid.proofs.tile_set.TileSet.put.Goals as goal

pub returns : goal.returns
returns c =
    let all = twelve c.self.inside.bits c.args.self.now c.self.view_is in
    changed c.self.inside.bits c.with_bit-self-inside.result c.args.tile.number c.args.is_in (omega (arith, all, c.requires)) c.with_bit-self-inside.ensures.here c.with_bit-self-inside.ensures.others
    ∙ ap (λ (l : List Bool). slice_set l c.args.tile.number c.args.is_in) c.self.view_is
