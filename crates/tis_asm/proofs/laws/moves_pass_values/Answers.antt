use Rattle.tis_asm.proofs.Passing.{moves_pass_values}
use Rattle.tis_asm.proofs.laws.moves_pass_values.Goals as goal

pub returns : goal.returns
returns c = moves_pass_values
