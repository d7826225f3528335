-- The lemma that orders are runs.
use Rattle.tis_grid.proofs.Grids as Grids
use Rattle.tis_grid.proofs.laws.orders_are_runs.Goals as goal

pub returns : goal.returns
returns c = record { runs = Grids.orders_are_runs }
