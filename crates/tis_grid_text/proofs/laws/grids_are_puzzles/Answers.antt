use Rattle.tis_grid_text.proofs.Puzzles as law
use Rattle.tis_grid_text.proofs.laws.grids_are_puzzles.Goals as goal

pub returns : goal.returns
returns c = law.grids_are_puzzles
