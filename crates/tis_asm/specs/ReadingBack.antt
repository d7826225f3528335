-- The canonical text of a program is read as the program.
use Rattle.std.specs.Prelude.{◌≡◌, ◌≤◌, ℕ, List, ◌++◌, length, Ok, IsTrue}
use Rattle.std.specs.List.{list_all}
use Rattle.tis_asm.specs.declared.program.MarkedInstr.{MarkedInstr}
use Rattle.tis_asm.specs.Programs.{HasValues, IsSound}
use Rattle.tis_asm.specs.Code.{code_lines, code_text}
use Rattle.tis_asm.specs.Assembling.{is_blank, assembled_lines, assembled}

-- what is written of a program of at most fifteen instructions, whose numbers are values and whose jumps stay inside, is read as that program
abbrev pub ProgramsReadBack : Type 0
ProgramsReadBack = (program : List MarkedInstr) → length program ≤ 15 → HasValues program → IsSound program → assembled (code_text program) ≡ Ok program

-- so are the lines of a program, whatever blank lines follow
abbrev pub LinesReadBack : Type 0
LinesReadBack = (program : List MarkedInstr) (blanks : List (List ℕ)) → length program ≤ 15 → HasValues program → IsSound program → IsTrue (list_all is_blank blanks) → assembled_lines (code_lines program ++ blanks) ≡ Ok program
