use Rattle.tis_asm.specs.Gathering.{assembled_with}
use Rattle.tis_asm.proofs.Sources.{start_is}
use Rattle.tis_asm.proofs.assembler.Assembler.new.Goals as goal

pub returns-clause-all : goal.returns-clause-all
unfolding assembled_with
returns-clause-all c = rw c.new.ensures.items start_is
