-- The lemmas that the start fits and that orders keep fitting.
use Rattle.tis_grid.proofs.Grids as Grids
use Rattle.tis_grid.proofs.laws.states_fit.Goals as goal

pub returns : goal.returns
returns c = record { start = Grids.start_fits; orders = Grids.orders_keep_fitting }
