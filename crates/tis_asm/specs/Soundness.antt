-- What every program is that lines spell.
use Rattle.std.specs.Prelude.{◌≡◌, ◌≤◌, ℕ, List, length, Ok}
use Rattle.tis_asm.specs.declared.program.MarkedInstr.{MarkedInstr}
use Rattle.tis_asm.specs.Programs.{HasValues, IsSound}
use Rattle.tis_asm.specs.Assembling.{assembled_lines}

-- it has at most fifteen instructions, its numbers are values, and its jumps stay inside
pub record IsWhole (program : List MarkedInstr) : Type 0 where
  pub short : length program ≤ 15
  pub values : HasValues program
  pub sound : IsSound program

-- all lines that spell a program spell such a one, and so does every text
abbrev pub AssembledAreWhole : Type 0
AssembledAreWhole = (lines : List (List ℕ)) (program : List MarkedInstr) → assembled_lines lines ≡ Ok program → IsWhole program
