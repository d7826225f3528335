-- The canonical text of a program: a line for each instruction, ended by LF.
use Rattle.std.specs.Prelude.{ℕ, ◌+◌, Bool, false, List, [], ◌∷◌, ◌++◌, codes, ◌==◌, if◌then◌else◌, decimal}
use Rattle.std.specs.List.{list_any}
use Rattle.std.specs.Fmt.{signed_decimal}
use Rattle.tis_base.specs.declared.tiles.Dir.{Dir}
use Rattle.tis_base.specs.declared.tiles.Dir.TheVariants.{Left, Right, Up, Down}
use Rattle.tis_base.specs.Lines.{text_of_lines}
use Rattle.tis_asm.specs.declared.instr.Source.{Source}
use Rattle.tis_asm.specs.declared.instr.Source.TheVariants as from
use Rattle.tis_asm.specs.declared.instr.Dest.{Dest}
use Rattle.tis_asm.specs.declared.instr.Dest.TheVariants as to
use Rattle.tis_asm.specs.declared.instr.Jump.{Jump as JumpKind}
use Rattle.tis_asm.specs.declared.instr.Jump.TheVariants as jump
use Rattle.tis_asm.specs.declared.instr.Instr.{Instr}
use Rattle.tis_asm.specs.declared.instr.Instr.TheVariants.{Nop, Mov, Swp, Sav, Add, Sub, Neg, Jump, Jro}
use Rattle.tis_asm.specs.declared.program.MarkedInstr.{MarkedInstr}

abbrev pub dir_word : Dir → List ℕ
dir_word Left = codes "LEFT"
dir_word Right = codes "RIGHT"
dir_word Up = codes "UP"
dir_word Down = codes "DOWN"

abbrev pub source_word : Source → List ℕ
source_word (from.Number number) = signed_decimal number
source_word from.Acc = codes "ACC"
source_word from.Nil = codes "NIL"
source_word (from.Port dir) = dir_word dir
source_word from.Any = codes "ANY"
source_word from.Last = codes "LAST"

abbrev pub dest_word : Dest → List ℕ
dest_word to.Acc = codes "ACC"
dest_word to.Nil = codes "NIL"
dest_word (to.Port dir) = dir_word dir
dest_word to.Any = codes "ANY"
dest_word to.Last = codes "LAST"

abbrev pub jump_word : JumpKind → List ℕ
jump_word jump.Always = codes "JMP"
jump_word jump.IfZero = codes "JEZ"
jump_word jump.IfNotZero = codes "JNZ"
jump_word jump.IfPositive = codes "JGZ"
jump_word jump.IfNegative = codes "JLZ"

-- the label of the instruction with this number
abbrev pub label_word : ℕ → List ℕ
label_word number = 76 ∷ decimal number

-- the instruction in capitals, MOV with a comma and a blank between its operands
abbrev pub instr_text : Instr → List ℕ
instr_text Nop = codes "NOP"
instr_text (Mov source dest) = codes "MOV " ++ source_word source ++ codes ", " ++ dest_word dest
instr_text Swp = codes "SWP"
instr_text Sav = codes "SAV"
instr_text (Add source) = codes "ADD " ++ source_word source
instr_text (Sub source) = codes "SUB " ++ source_word source
instr_text Neg = codes "NEG"
instr_text (Jump jump number) = jump_word jump ++ codes " " ++ label_word number
instr_text (Jro source) = codes "JRO " ++ source_word source

-- whether the instruction is a jump to this one
abbrev pub jumps_to : ℕ → Instr → Bool
jumps_to number Nop = false
jumps_to number (Mov source dest) = false
jumps_to number Swp = false
jumps_to number Sav = false
jumps_to number (Add source) = false
jumps_to number (Sub source) = false
jumps_to number Neg = false
jumps_to number (Jump jump target) = target == number
jumps_to number (Jro source) = false

-- whether some jump of the program goes to this instruction
abbrev pub is_target : List MarkedInstr → ℕ → Bool
is_target program number = list_any (λ marked. jumps_to number marked.instr) program

-- the label in front of an instruction, where a jump goes to it
abbrev pub label_text : Bool → ℕ → List ℕ
label_text labelled number = if labelled then label_word number ++ codes ": " else []

-- a marked instruction has `!` in front
abbrev pub mark_text : Bool → List ℕ
mark_text mark = if mark then codes "!" else []

-- the line of the instruction with this number: its label, its mark, and the instruction
abbrev pub line_text : List MarkedInstr → ℕ → MarkedInstr → List ℕ
line_text program number marked = label_text (is_target program number) number ++ mark_text marked.mark ++ instr_text marked.instr

-- the lines of these instructions of a program, the first of which has this number
abbrev pub lines_from : List MarkedInstr → ℕ → List MarkedInstr → List (List ℕ)
lines_from program number [] = []
lines_from program number (marked ∷ rest) = line_text program number marked ∷ lines_from program (number + 1) rest

-- the lines of a program
abbrev pub code_lines : List MarkedInstr → List (List ℕ)
code_lines program = lines_from program 0 program

abbrev pub code_text : List MarkedInstr → List ℕ
code_text program = text_of_lines (code_lines program)
