use Rattle.std.proofs.Common.{◌≡◌, take}
use Rattle.tis_asm.proofs.program.Program.copy.Given as goal

abbrev pub invariant-loop-index : goal.invariant-loop-index
invariant-loop-index l = l.copy ≡ take l.index l.self
