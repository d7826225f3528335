use Rattle.tis_asm.proofs.Progress.{fresh_fits, steps_keep_fitting}
use Rattle.tis_asm.proofs.laws.nodes_fit.Goals as goal

pub returns : goal.returns
returns c = record { fresh = fresh_fits; steps = steps_keep_fitting }
