-- What the selection of a process answers.
use Rattle.std.specs.Prelude.{◌≡◌, ◌<◌, ℕ, List, length, get_or, Result, Ok, Err}
use Rattle.tis_asm.specs.declared.program.MarkedInstr.{MarkedInstr}
use Rattle.net_tree.specs.Tree.{Block, Empty}
use Rattle.net_rules.specs.declared.accepted.Checked.{Checked}
use Rattle.net_rules.specs.CheckedNet.{net_of}
use Rattle.net_rules.specs.Numbers.{numbered}
use Rattle.net_select.specs.declared.selection.SelectError.{SelectError}
use Rattle.net_select.specs.declared.selection.SelectError.TheVariants.{TooLong}
use Rattle.net_select.specs.Selection.{Ports, code_of, program_of}

-- the body of a process of a network that was checked
abbrev pub body_of : Checked → ℕ → Block ℕ
body_of checked process = get_or (numbered (net_of checked)).processes process Empty

-- the code as a program, or, exactly where it has more than fifteen instructions, how many it has
abbrev pub Selects : Result (List MarkedInstr) SelectError → Ports → Block ℕ → Type 0
Selects (Ok program) ports body = (program ≡ program_of ports body) × (length (code_of ports body) < 16)
Selects (Err (TooLong lines)) ports body = (lines ≡ length (code_of ports body)) × (15 < lines)
