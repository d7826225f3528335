-- Laws of selection.
use Rattle.std.specs.Prelude.{◌≡◌, ℕ, length, Contains}
use Rattle.tis_asm.specs.Programs.{IsSound}
use Rattle.net_tree.specs.Tree.{Block, Net}
use Rattle.net_rules.specs.Numbers.{numbered}
use Rattle.net_rules.specs.Rules.{IsAccepted}
use Rattle.net_rules.specs.Laws.{NetHasValues}
use Rattle.net_select.specs.Selection.{Ports, code_of, program_of, block_lines}
use Rattle.net_select.specs.Behaves.{AreDistinct, Behaves}

-- the code of a process has as many instructions as its lines tell, whatever its ports are
abbrev pub LinesAreTold : Type 0
LinesAreTold = (ports : Ports) (body : Block ℕ) → length (code_of ports body) ≡ block_lines body

-- the code of each process of an accepted network, whose numbers are values of the machine, behaves as the process, for any ports that are distinct on each side
abbrev pub CodeBehaves : Type 0
CodeBehaves = (net : Net) (body : Block ℕ) (ports : Ports) → IsAccepted net → NetHasValues net → Contains (numbered net).processes body → AreDistinct ports body → Behaves (program_of ports body) body ports

-- each jump of the code of a process goes to one of its instructions, whatever its ports are
abbrev pub CodeIsSound : Type 0
CodeIsSound = (ports : Ports) (body : Block ℕ) → IsSound (program_of ports body)
