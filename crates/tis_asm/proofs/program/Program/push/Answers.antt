use Rattle.tis_asm.proofs.Values.{has_values_push}
use Rattle.tis_asm.proofs.program.Program.push.Goals as goal

pub invariant_of-self : goal.invariant_of-self
invariant_of-self c = rw c.push.ensures.items (has_values_push _ _ c.self.invariant c.held.ensures)
