use Rattle.tis_asm.proofs.Passing.{empty_programs_rest}
use Rattle.tis_asm.proofs.laws.empty_programs_rest.Goals as goal

pub returns : goal.returns
returns c = empty_programs_rest
