-- The lemma that ports make puzzles.
use Rattle.tis_grid.proofs.PuzzlePorts as PuzzlePorts
use Rattle.tis_grid.proofs.laws.ports_make_puzzles.Goals as goal

pub returns : goal.returns
returns c = record { bare = PuzzlePorts.bare_are_puzzles; port = PuzzlePorts.ports_make_puzzles }
