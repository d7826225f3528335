use Rattle.std.proofs.Common.{refl}
use Rattle.tis_grid_text.proofs.Readings.{four, three_rows}
use Rattle.tis_grid_text.proofs.grid.tiles_with.Goals as goal

pub returns : goal.returns
returns c =
    three_rows c.new.result c.args.a c.args.b c.args.c _ _ _ _ _ _ _ _ _ _ _ _ (four c.args.a _ _ _ _ c.requires.first) (four c.args.b _ _ _ _ c.requires.second) (four c.args.c _ _ _ _ c.requires.third)
    (c.new.ensures.made.1 (record { allowed = (refl, refl); filled = refl })) c.new.ensures.tiles
