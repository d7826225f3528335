-- The program that a text spells, over all its lines: each line is read below the labels of those above it, and then the labels are looked up over all lines.
use Rattle.std.specs.Prelude.{ℕ, ◌+◌, ◌-◌, ◌*◌, ℤ, pos, neg_ℤ, Bool, true, false, ◌||◌, ◌&&◌, not, List, [], ◌∷◌, ◌++◌, length, map, drop, filter, Option, Some, None, option_map, option_and_then, Result, Ok, Err, codes, ◌==◌, nat_lt, nat_le, if◌then◌else◌}
use Rattle.std.specs.Char.{is_ascii_digit}
use Rattle.std.specs.List.{list_all, list_any}
use Rattle.tis_base.specs.Saturation.{sat}
use Rattle.std.specs.Str.{bytes_eq}
use Rattle.tis_base.specs.declared.tiles.Dir.{Dir}
use Rattle.tis_base.specs.declared.tiles.Dir.TheVariants.{Left, Right, Up, Down}
use Rattle.tis_base.specs.Lines.{text_lines, pieces_where}
use Rattle.tis_asm.specs.declared.instr.Source.{Source}
use Rattle.tis_asm.specs.declared.instr.Source.TheVariants as from
use Rattle.tis_asm.specs.declared.instr.Dest.{Dest}
use Rattle.tis_asm.specs.declared.instr.Dest.TheVariants as to
use Rattle.tis_asm.specs.declared.instr.Jump.{Jump as JumpKind}
use Rattle.tis_asm.specs.declared.instr.Jump.TheVariants as jump
use Rattle.tis_asm.specs.declared.instr.Instr.{Instr}
use Rattle.tis_asm.specs.declared.instr.Instr.TheVariants.{Nop, Mov, Swp, Sav, Add, Sub, Neg, Jump, Jro}
use Rattle.tis_asm.specs.declared.program.MarkedInstr.{MarkedInstr}

-- why a text is no program
pub data AsmRefusal : Type 0 where
  TooManyLines : AsmRefusal
  LongLine : (line : ℕ) → AsmRefusal
  BadLine : (line : ℕ) → AsmRefusal
  RepeatedLabel : (line : ℕ) → AsmRefusal
  UnknownLabel : (line : ℕ) → AsmRefusal

-- ---- words

-- a blank, or a comma, which counts as one
abbrev pub is_gap : ℕ → Bool
is_gap byte = byte == 32 || byte == 9 || byte == 44

abbrev pub is_filled : List ℕ → Bool
is_filled [] = false
is_filled (byte ∷ bytes) = true

-- the words of a line: what stands between the gaps
abbrev pub words_of : List ℕ → List (List ℕ)
words_of line = filter is_filled (pieces_where is_gap line)

-- a small letter as its capital: the two aren't told apart
abbrev pub capital : ℕ → ℕ
capital byte = if nat_le 97 byte && nat_le byte 122 then byte - 32 else byte

abbrev pub dir_of_word : List ℕ → Option Dir
dir_of_word word =
    if bytes_eq word (codes "LEFT") then Some Left else
    (if bytes_eq word (codes "RIGHT") then Some Right else
    (if bytes_eq word (codes "UP") then Some Up else
    (if bytes_eq word (codes "DOWN") then Some Down else None)))

abbrev pub is_digit : ℕ → Bool
is_digit byte = is_ascii_digit byte

-- the number that digits write whose first ones wrote this number; none, where one of them is no digit
abbrev pub digits_number : ℕ → List ℕ → Option ℕ
digits_number number [] = Some number
digits_number number (byte ∷ digits) = if is_digit byte then digits_number (10 * number + (byte - 48)) digits else None

-- the number that one or more digits write
abbrev pub number_of_digits : List ℕ → Option ℕ
number_of_digits [] = None
number_of_digits (byte ∷ digits) = digits_number 0 (byte ∷ digits)

-- a number with a `-`, a `+` or no sign in front, held within -999 and 999
abbrev pub number_of_word : List ℕ → Option ℤ
number_of_word [] = None
number_of_word (byte ∷ digits) =
    if byte == 45 then option_map (λ n. sat (neg_ℤ (pos n))) (number_of_digits digits) else
    (if byte == 43 then option_map (λ n. sat (pos n)) (number_of_digits digits) else option_map (λ n. sat (pos n)) (number_of_digits (byte ∷ digits)))

-- the first that is there
abbrev pub or_else : {A : Type 0} → Option A → Option A → Option A
or_else None other = other
or_else (Some x) other = Some x

-- what may be a source and a destination
abbrev pub dest_of_word : List ℕ → Option Dest
dest_of_word word =
    if bytes_eq word (codes "ACC") then Some to.Acc else
    (if bytes_eq word (codes "NIL") then Some to.Nil else
    (if bytes_eq word (codes "ANY") then Some to.Any else
    (if bytes_eq word (codes "LAST") then Some to.Last else option_map (λ dir. to.Port dir) (dir_of_word word))))

abbrev pub source_of_dest : Dest → Source
source_of_dest to.Acc = from.Acc
source_of_dest to.Nil = from.Nil
source_of_dest (to.Port dir) = from.Port dir
source_of_dest to.Any = from.Any
source_of_dest to.Last = from.Last

-- a source may be a number too
abbrev pub source_of_word : List ℕ → Option Source
source_of_word word = or_else (option_map source_of_dest (dest_of_word word)) (option_map (λ number. from.Number number) (number_of_word word))

abbrev pub jump_of_word : List ℕ → Option JumpKind
jump_of_word word =
    if bytes_eq word (codes "JMP") then Some jump.Always else
    (if bytes_eq word (codes "JEZ") then Some jump.IfZero else
    (if bytes_eq word (codes "JNZ") then Some jump.IfNotZero else
    (if bytes_eq word (codes "JGZ") then Some jump.IfPositive else
    (if bytes_eq word (codes "JLZ") then Some jump.IfNegative else None))))

-- a visible sign of ASCII other than `,`, `:`, `#` and `!`
abbrev pub is_label_byte : ℕ → Bool
is_label_byte byte = nat_le 33 byte && nat_le byte 126 && not (byte == 44 || byte == 58 || byte == 35 || byte == 33)

-- one or more of them
abbrev pub is_label : List ℕ → Bool
is_label word = is_filled word && list_all is_label_byte word

-- ---- one line

-- an instruction, whose jump goes to a label
pub data NamedInstr : Type 0 where
  Plain : (instr : Instr) → NamedInstr
  JumpTo : (jump : JumpKind) → (label : List ℕ) → NamedInstr

-- what a line says: a label or none, whether it is marked, and an instruction or none
pub record CodeLine : Type 0 where
  pub label : Option (List ℕ)
  pub mark : Bool
  pub instr : Option NamedInstr

abbrev pub plain_of_word : List ℕ → Option NamedInstr
plain_of_word name =
    if bytes_eq name (codes "NOP") then Some (Plain Nop) else
    (if bytes_eq name (codes "SWP") then Some (Plain Swp) else
    (if bytes_eq name (codes "SAV") then Some (Plain Sav) else
    (if bytes_eq name (codes "NEG") then Some (Plain Neg) else None)))

-- a jump and its label
abbrev pub jump_of_words : List ℕ → List ℕ → Option NamedInstr
jump_of_words name label = if is_label label then option_map (λ jump. JumpTo jump label) (jump_of_word name) else None

abbrev pub with_operand : List ℕ → List ℕ → Option NamedInstr
with_operand name operand =
    if bytes_eq name (codes "ADD") then option_map (λ source. Plain (Add source)) (source_of_word operand) else
    (if bytes_eq name (codes "SUB") then option_map (λ source. Plain (Sub source)) (source_of_word operand) else
    (if bytes_eq name (codes "JRO") then option_map (λ source. Plain (Jro source)) (source_of_word operand) else jump_of_words name operand))

abbrev pub mov_of_words : List ℕ → List ℕ → Option NamedInstr
mov_of_words source dest = option_and_then (λ s. option_map (λ d. Plain (Mov s d)) (dest_of_word dest)) (source_of_word source)

-- the instruction that these words are
abbrev pub instr_of_words : List (List ℕ) → Option NamedInstr
instr_of_words [] = None
instr_of_words (name ∷ []) = plain_of_word name
instr_of_words (name ∷ operand ∷ []) = with_operand name operand
instr_of_words (name ∷ source ∷ dest ∷ []) = if bytes_eq name (codes "MOV") then mov_of_words source dest else None
instr_of_words (name ∷ source ∷ dest ∷ other ∷ words) = None

-- what stands before the first `#`
abbrev pub without_comment : List ℕ → List ℕ
without_comment [] = []
without_comment (byte ∷ bytes) = if byte == 35 then [] else byte ∷ without_comment bytes

-- without the gaps in front
abbrev pub without_gaps : List ℕ → List ℕ
without_gaps [] = []
without_gaps (byte ∷ bytes) = if is_gap byte then without_gaps bytes else byte ∷ bytes

-- whether `!` stands in front, and what stands behind it
abbrev pub is_marked : List ℕ → Bool
is_marked [] = false
is_marked (byte ∷ bytes) = byte == 33

abbrev pub without_mark : List ℕ → List ℕ
without_mark line = if is_marked line then drop 1 line else line

-- no words are no instruction
abbrev pub instr_or_none : List (List ℕ) → Option (Option NamedInstr)
instr_or_none [] = Some None
instr_or_none (word ∷ words) = option_map (λ instr. Some instr) (instr_of_words (word ∷ words))

-- a line of this label, marked already or not, with what stands behind it: `!` or none, and an instruction or none
abbrev pub marked_part : Bool → Option (List ℕ) → List ℕ → Option CodeLine
marked_part mark label rest = option_map (λ instr. record { label = label; mark = mark || is_marked rest; instr = instr }) (instr_or_none (words_of (without_mark rest)))

-- one word that is a label, and what stands behind its `:`
abbrev pub labelled_part : Bool → List (List ℕ) → List ℕ → Option CodeLine
labelled_part mark (word ∷ []) rest = if is_label word then marked_part mark (Some word) (without_gaps rest) else None
labelled_part mark [] rest = None
labelled_part mark (word ∷ other ∷ words) rest = None

-- what stands before the `:`, where there is one, and behind it
abbrev pub parts_of : Bool → List (List ℕ) → Option CodeLine
parts_of mark (rest ∷ []) = marked_part mark None (without_gaps rest)
parts_of mark (label ∷ rest ∷ []) = labelled_part mark (words_of label) rest
parts_of mark [] = None
parts_of mark (label ∷ rest ∷ other ∷ pieces) = None

-- a line without its comment, in capitals: `!`, a label and `:`, `!`, and an instruction, each of which may be missing
abbrev pub line_of : List ℕ → Option CodeLine
line_of line = let rest = without_gaps line in parts_of (is_marked rest) (pieces_where (λ byte. byte == 58) (without_mark rest))

-- ---- all lines

-- blanks and tabs alone; a comma or a comment is more than that
abbrev pub is_blank : List ℕ → Bool
is_blank line = list_all (λ byte. byte == 32 || byte == 9) line

-- one more line in front, unless it is blank and no line follows
abbrev pub onto_code : List ℕ → List (List ℕ) → List (List ℕ)
onto_code line [] = if is_blank line then [] else line ∷ []
onto_code line (next ∷ lines) = line ∷ next ∷ lines

-- without the blank lines at the end
abbrev pub without_blank_end : List (List ℕ) → List (List ℕ)
without_blank_end [] = []
without_blank_end (line ∷ lines) = onto_code line (without_blank_end lines)

abbrev pub or_bad : ℕ → Option CodeLine → Result CodeLine AsmRefusal
or_bad number None = Err (BadLine number)
or_bad number (Some line) = Ok line

-- a line with this number: at most 80 bytes, and the four parts
abbrev pub line_read : ℕ → List ℕ → Result CodeLine AsmRefusal
line_read number line = if nat_lt 80 (length line) then Err (LongLine number) else or_bad number (line_of (map capital (without_comment line)))

-- whether the label stands above
abbrev pub repeats : List (List ℕ) → Option (List ℕ) → Bool
repeats above None = false
repeats above (Some label) = list_any (bytes_eq label) above

abbrev pub with_label : List (List ℕ) → Option (List ℕ) → List (List ℕ)
with_label above None = above
with_label above (Some label) = above ++ label ∷ []

abbrev pub with_rest : CodeLine → Result (List CodeLine) AsmRefusal → Result (List CodeLine) AsmRefusal
with_rest line (Err refusal) = Err refusal
with_rest line (Ok lines) = Ok (line ∷ lines)

-- a line whose label stands above is refused, and else those behind it are read
abbrev pub with_line : ℕ → List (List ℕ) → Result CodeLine AsmRefusal → (List (List ℕ) → Result (List CodeLine) AsmRefusal) → Result (List CodeLine) AsmRefusal
with_line number above (Err refusal) behind = Err refusal
with_line number above (Ok line) behind = if repeats above line.label then Err (RepeatedLabel number) else with_rest line (behind (with_label above line.label))

-- the lines, the first of which has this number, below lines with these labels
abbrev pub lines_read : ℕ → List (List ℕ) → List (List ℕ) → Result (List CodeLine) AsmRefusal
lines_read number above [] = Ok []
lines_read number above (line ∷ lines) = with_line number above (line_read number line) (λ labels. lines_read (number + 1) labels lines)

-- ---- labels

-- how many instructions a line has
abbrev pub count_of : Option NamedInstr → ℕ
count_of None = 0
count_of (Some instr) = 1

abbrev pub instr_count : List CodeLine → ℕ
instr_count [] = 0
instr_count (line ∷ lines) = count_of line.instr + instr_count lines

abbrev pub is_named : List ℕ → Option (List ℕ) → Bool
is_named label None = false
is_named label (Some other) = bytes_eq label other

-- how many instructions stand above the line of this label, behind so many
abbrev pub label_at : ℕ → List CodeLine → List ℕ → Option ℕ
label_at count [] label = None
label_at count (line ∷ lines) label = if is_named label line.label then Some count else label_at (count + count_of line.instr) lines label

-- the instruction behind the last one is the first
abbrev pub wrapped : ℕ → ℕ → ℕ
wrapped count number = if number == count then 0 else number

-- the instruction that a label names in these lines, by how many stand before it; a label at the end is the first instruction's
abbrev pub label_number : List CodeLine → List ℕ → Option ℕ
label_number lines label = option_map (wrapped (instr_count lines)) (label_at 0 lines label)

abbrev pub resolved : List CodeLine → NamedInstr → Option Instr
resolved lines (Plain instr) = Some instr
resolved lines (JumpTo jump label) = option_map (λ number. Jump jump number) (label_number lines label)

abbrev pub with_instr : ℕ → Bool → Option Instr → Result (List MarkedInstr) AsmRefusal → Result (List MarkedInstr) AsmRefusal
with_instr number mark None rest = Err (UnknownLabel number)
with_instr number mark (Some instr) (Err refusal) = Err refusal
with_instr number mark (Some instr) (Ok program) = Ok (record { instr = instr; mark = mark } ∷ program)

abbrev pub onto_program : List CodeLine → ℕ → Bool → Option NamedInstr → Result (List MarkedInstr) AsmRefusal → Result (List MarkedInstr) AsmRefusal
onto_program all number mark None rest = rest
onto_program all number mark (Some instr) rest = with_instr number mark (resolved all instr) rest

-- the instructions of these lines, where the first of these has this number and labels are looked up in all lines
abbrev pub program_of : List CodeLine → ℕ → List CodeLine → Result (List MarkedInstr) AsmRefusal
program_of all number [] = Ok []
program_of all number (line ∷ lines) = onto_program all number line.mark line.instr (program_of all (number + 1) lines)

abbrev pub program_where : Result (List CodeLine) AsmRefusal → Result (List MarkedInstr) AsmRefusal
program_where (Err refusal) = Err refusal
program_where (Ok lines) = program_of lines 1 lines

-- the program of these lines, or the first refusal: without the blank lines at the end there are at most fifteen, each is a line of a program, and each jump goes to a label
abbrev pub assembled_lines : List (List ℕ) → Result (List MarkedInstr) AsmRefusal
assembled_lines lines = if nat_lt 15 (length (without_blank_end lines)) then Err TooManyLines else program_where (lines_read 1 [] (without_blank_end lines))

-- the program of a text
abbrev pub assembled : List ℕ → Result (List MarkedInstr) AsmRefusal
assembled text = assembled_lines (text_lines text)
