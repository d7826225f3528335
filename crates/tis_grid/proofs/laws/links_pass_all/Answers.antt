-- The lemmas that links, inputs and outputs pass all.
use Rattle.tis_grid.proofs.Grids as Grids
use Rattle.tis_grid.proofs.laws.links_pass_all.Goals as goal

pub returns : goal.returns
returns c = record { links = Grids.links_pass_all; inputs = Grids.inputs_pass_all; outputs = Grids.outputs_pass_all }
