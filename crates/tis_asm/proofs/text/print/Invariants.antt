use Rattle.std.proofs.Common.{◌≡◌, take}
use Rattle.tis_base.specs.Lines.{text_of_lines}
use Rattle.tis_asm.specs.Code.{lines_from}
use Rattle.tis_asm.proofs.text.print.Given as goal

abbrev pub invariant-loop-index : goal.invariant-loop-index
invariant-loop-index l = l.out.items ≡ text_of_lines (lines_from l.program 0 (take l.index l.program))
