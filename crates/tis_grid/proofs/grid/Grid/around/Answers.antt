use Rattle.tis_grid.proofs.Marked.{all_around}
use Rattle.tis_grid.proofs.grid.Grid.around.Goals as goal

pub returns : goal.returns
returns c =
    all_around c.args.self.now c.args.tile.number c.point_at-left.result c.point_at-right.result c.point_at-up.result c.point_at-down.result
    c.point_at-left.ensures.points c.point_at-left.ensures.within c.point_at-right.ensures.points c.point_at-right.ensures.within
    c.point_at-up.ensures.points c.point_at-up.ensures.within c.point_at-down.ensures.points c.point_at-down.ensures.within
