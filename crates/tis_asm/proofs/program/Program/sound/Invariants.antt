use Rattle.std.proofs.Common.{take, length}
use Rattle.tis_asm.specs.Programs.{JumpWithin}
use Rattle.tis_asm.proofs.program.Program.sound.Given as goal

abbrev pub invariant-loop-index : goal.invariant-loop-index
invariant-loop-index l = JumpWithin (length l.self) (take l.index l.self)
