use Rattle.tis_grid_text.proofs.Heads.{grids_have_heads}
use Rattle.tis_grid_text.proofs.laws.grids_have_heads.Goals as goal

pub returns : goal.returns
returns c = grids_have_heads
