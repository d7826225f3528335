use Rattle.tis_asm.proofs.Progress.{nodes_go_on}
use Rattle.tis_asm.proofs.laws.nodes_go_on.Goals as goal

pub returns : goal.returns
returns c = nodes_go_on
