use Rattle.std.proofs.Common.{◌≡◌, ◌++◌, take}
use Rattle.net_select.specs.Selection.{as_program}
use Rattle.net_select.proofs.selector.emit.Given as goal

abbrev pub invariant-code : goal.invariant-code
invariant-code l = l.program ≡ l.initial.program ++ as_program (take l.instr-index l.code)
