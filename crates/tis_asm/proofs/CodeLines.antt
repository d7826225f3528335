-- One line of the canonical text: it is clean and short, and is read as what it was written from.
use Rattle.std.proofs.Common.{◌≡◌, ℕ, ◌^◌, ◌<◌, ◌≤◌, Bool, true, false, cond, List, [], ◌∷◌, ◌++◌, length, map, Option, Some, None, refl, ap, ◌∙◌, append_assoc, arith, length-append, nat_le}
use Rattle.std.specs.Prelude.{not, ◌&&◌, ◌==◌, codes, filter, option_map, option_and_then, decimal}
use Rattle.std.specs.List.{list_all}
use Rattle.std.proofs.lemmas.Bool.{and_parts, and_from}
use Rattle.std.proofs.lemmas.Fmt.{length-decimal-le}
use Rattle.tis_base.specs.declared.tiles.Dir.{Dir}
use Rattle.tis_base.specs.declared.tiles.Dir.TheVariants.{Left, Right, Up, Down}
use Rattle.tis_base.proofs.WrittenLines.{is_plain_byte, is_plain_line, not_is, list_all-join, pieces-first, pieces-last}
use Rattle.tis_asm.specs.declared.instr.Source.{Source}
use Rattle.tis_asm.specs.declared.instr.Source.TheVariants as from
use Rattle.tis_asm.specs.declared.instr.Dest.{Dest}
use Rattle.tis_asm.specs.declared.instr.Dest.TheVariants as to
use Rattle.tis_asm.specs.declared.instr.Jump.{Jump as JumpKind}
use Rattle.tis_asm.specs.declared.instr.Jump.TheVariants as jump
use Rattle.tis_asm.specs.declared.instr.Instr.{Instr}
use Rattle.tis_asm.specs.declared.instr.Instr.TheVariants.{Nop, Mov, Swp, Sav, Add, Sub, Neg, Jump, Jro}
use Rattle.tis_asm.specs.Programs.{SourceHasValue, InstrHasValue, JumpsWithin}
use Rattle.tis_asm.specs.Code.{dir_word, source_word, dest_word, jump_word, label_word, instr_text}
use Rattle.tis_asm.specs.Assembling.{is_gap, is_filled, words_of, capital, source_of_word, dest_of_word, is_label, is_label_byte, NamedInstr, Plain, JumpTo, instr_or_none, without_comment, without_gaps, is_marked}
use Rattle.tis_asm.proofs.Numbers.{is_clean, is_code, is_word_byte, source_of_word-value, value_is_filled, value_is_word, value_is_short, decimal_is_word, decimal_is_label}

-- ---- tests of bytes

-- what passes a test passes a weaker one
pub weaker : (test other : ℕ → Bool) → ((byte : ℕ) → test byte ≡ true → other byte ≡ true) → (bytes : List ℕ) → list_all test bytes ≡ true → list_all other bytes ≡ true
weaker test other each [] all = refl
weaker test other each (byte ∷ bytes) all =
    let parts = and_parts (test byte) (list_all test bytes) all in
    and_from (other byte) (list_all other bytes) (each byte parts.0) (weaker test other each bytes parts.1)

-- the bytes of a word are code
pub word_is_code : (word : List ℕ) → list_all is_word_byte word ≡ true → list_all is_code word ≡ true
word_is_code = weaker is_word_byte is_code (λ byte is. (and_parts (is_code byte) (not (is_gap byte)) is).0)

-- and no gaps
word_has_no_gap : (word : List ℕ) → list_all is_word_byte word ≡ true → list_all (λ b. not (is_gap b)) word ≡ true
word_has_no_gap = weaker is_word_byte (λ b. not (is_gap b)) (λ byte is. (and_parts (is_code byte) (not (is_gap byte)) is).1)

-- code is clean
pub code_is_clean : (bytes : List ℕ) → list_all is_code bytes ≡ true → list_all is_clean bytes ≡ true
code_is_clean = weaker is_code is_clean (λ byte is. (and_parts (is_clean byte) (not (byte == 58)) is).0)

-- and has no `:`
pub code_has_no_colon : (bytes : List ℕ) → list_all is_code bytes ≡ true → list_all (λ b. not (b == 58)) bytes ≡ true
code_has_no_colon = weaker is_code (λ b. not (b == 58)) (λ byte is. (and_parts (is_clean byte) (not (byte == 58)) is).1)

-- what is clean has neither LF nor CR
pub clean_is_plain : (bytes : List ℕ) → list_all is_clean bytes ≡ true → is_plain_line bytes ≡ true
clean_is_plain = weaker is_clean is_plain_byte (λ byte is. (and_parts (is_plain_byte byte) _ is).0)

-- no comment
pub without_comment-clean : (bytes : List ℕ) → list_all is_clean bytes ≡ true → without_comment bytes ≡ bytes
without_comment-clean [] all = refl
without_comment-clean (byte ∷ bytes) all =
    let parts = and_parts (is_clean byte) (list_all is_clean bytes) all in
    let rest = and_parts (not (byte == 35)) (not (nat_le 97 byte && nat_le byte 122)) (and_parts (is_plain_byte byte) _ parts.0).1 in
    ap (λ (b : Bool). cond b [] (byte ∷ without_comment bytes)) (not_is (byte == 35) rest.0) ∙ ap (λ (more : List ℕ). byte ∷ more) (without_comment-clean bytes parts.1)

-- and no small letter
pub capital-clean : (bytes : List ℕ) → list_all is_clean bytes ≡ true → map capital bytes ≡ bytes
capital-clean [] all = refl
capital-clean (byte ∷ bytes) all =
    let parts = and_parts (is_clean byte) (list_all is_clean bytes) all in
    let rest = and_parts (not (byte == 35)) (not (nat_le 97 byte && nat_le byte 122)) (and_parts (is_plain_byte byte) _ parts.0).1 in
    let same : capital byte ≡ byte = rw (not_is (nat_le 97 byte && nat_le byte 122) rest.1) refl in
    ap (λ (first : ℕ). first ∷ map capital bytes) same ∙ ap (λ (more : List ℕ). byte ∷ more) (capital-clean bytes parts.1)

-- ---- words

-- bytes that are a word: there are some, and each is one of a word
pub record IsWord (word : List ℕ) : Type 0 where
  pub filled : is_filled word ≡ true
  pub bytes : list_all is_word_byte word ≡ true

-- the first word ends at the first gap
words-first : (word rest : List ℕ) (gap : ℕ) → IsWord word → is_gap gap ≡ true → words_of (word ++ gap ∷ rest) ≡ word ∷ words_of rest
words-first word rest gap is ends =
    ap (filter is_filled) (pieces-first is_gap word rest gap (word_has_no_gap word is.bytes) ends) ∙ ap (λ (b : Bool). cond b (word ∷ words_of rest) (words_of rest)) is.filled

-- the last word
pub words-last : (word : List ℕ) → IsWord word → words_of word ≡ word ∷ []
words-last word is = ap (filter is_filled) (pieces-last is_gap word (word_has_no_gap word is.bytes)) ∙ ap (λ (b : Bool). cond b (word ∷ []) []) is.filled

-- the name of a direction is a word
dir_is_word : (dir : Dir) → IsWord (dir_word dir)
dir_is_word Left = record { filled = refl; bytes = refl }
dir_is_word Right = record { filled = refl; bytes = refl }
dir_is_word Up = record { filled = refl; bytes = refl }
dir_is_word Down = record { filled = refl; bytes = refl }

-- so is what names a source
source_is_word : (source : Source) → SourceHasValue source → IsWord (source_word source)
source_is_word (from.Number number) is = record { filled = value_is_filled number is; bytes = value_is_word number is }
source_is_word from.Acc is = record { filled = refl; bytes = refl }
source_is_word from.Nil is = record { filled = refl; bytes = refl }
source_is_word (from.Port dir) is = dir_is_word dir
source_is_word from.Any is = record { filled = refl; bytes = refl }
source_is_word from.Last is = record { filled = refl; bytes = refl }

-- and what names a destination
dest_is_word : (dest : Dest) → IsWord (dest_word dest)
dest_is_word to.Acc = record { filled = refl; bytes = refl }
dest_is_word to.Nil = record { filled = refl; bytes = refl }
dest_is_word (to.Port dir) = dir_is_word dir
dest_is_word to.Any = record { filled = refl; bytes = refl }
dest_is_word to.Last = record { filled = refl; bytes = refl }

-- a number of an instruction is small
small_number : (number : ℕ) → number < 15 → number < 2 ^ 64
small_number number small = omega arith

-- a label is a word
pub label_is_word : (number : ℕ) → number < 15 → IsWord (label_word number)
label_is_word number small = record { filled = refl; bytes = and_from (is_word_byte 76) (list_all is_word_byte (decimal number)) refl (decimal_is_word number (small_number number small)) }

-- and a label
pub label_is_label : (number : ℕ) → number < 15 → is_label (label_word number) ≡ true
label_is_label number small = and_from (is_label_byte 76) (list_all is_label_byte (decimal number)) refl (decimal_is_label number (small_number number small))

-- the destination that a word names
pub dest-read : (dest : Dest) → dest_of_word (dest_word dest) ≡ Some dest
dest-read to.Acc = refl
dest-read to.Nil = refl
dest-read (to.Port Left) = refl
dest-read (to.Port Right) = refl
dest-read (to.Port Up) = refl
dest-read (to.Port Down) = refl
dest-read to.Any = refl
dest-read to.Last = refl

-- the source that a word names
pub source-read : (source : Source) → SourceHasValue source → source_of_word (source_word source) ≡ Some source
source-read (from.Number number) is = source_of_word-value number is
source-read from.Acc is = refl
source-read from.Nil is = refl
source-read (from.Port Left) is = refl
source-read (from.Port Right) is = refl
source-read (from.Port Up) is = refl
source-read (from.Port Down) is = refl
source-read from.Any is = refl
source-read from.Last is = refl

-- ---- instructions

-- an instruction as a line names it
abbrev pub named : Instr → NamedInstr
named Nop = Plain Nop
named (Mov source dest) = Plain (Mov source dest)
named Swp = Plain Swp
named Sav = Plain Sav
named (Add source) = Plain (Add source)
named (Sub source) = Plain (Sub source)
named Neg = Plain Neg
named (Jump jump number) = JumpTo jump (label_word number)
named (Jro source) = Plain (Jro source)

-- the words of a MOV
words-mov : (source : Source) (dest : Dest) → SourceHasValue source → words_of (instr_text (Mov source dest)) ≡ codes "MOV" ∷ source_word source ∷ dest_word dest ∷ []
words-mov source dest is =
    ap words_of (append_assoc (codes "MOV " ++ source_word source) (codes ", ") (dest_word dest) ∙ append_assoc (codes "MOV ") (source_word source) (codes ", " ++ dest_word dest))
    ∙ words-first (codes "MOV") (source_word source ++ (codes ", " ++ dest_word dest)) 32 (record { filled = refl; bytes = refl }) refl
    ∙ ap (λ (rest : List (List ℕ)). codes "MOV" ∷ rest) (words-first (source_word source) (32 ∷ dest_word dest) 44 (source_is_word source is) refl)
    ∙ ap (λ (rest : List (List ℕ)). codes "MOV" ∷ source_word source ∷ rest) (words-last (dest_word dest) (dest_is_word dest))

-- the words of a name and an operand
words-with : (name operand : List ℕ) → IsWord name → IsWord operand → words_of (name ++ 32 ∷ operand) ≡ name ∷ operand ∷ []
words-with name operand is_name is = words-first name operand 32 is_name refl ∙ ap (λ (rest : List (List ℕ)). name ∷ rest) (words-last operand is)

-- an instruction that was read
abbrev some_instr : Option NamedInstr → Option (Option NamedInstr)
some_instr read = option_map (λ (instr : NamedInstr). Some instr) read

-- a jump and its label
jump-read : (jump : JumpKind) (number : ℕ) → number < 15 → instr_or_none (words_of (instr_text (Jump jump number))) ≡ Some (Some (JumpTo jump (label_word number)))
jump-read jump.Always number small = ap instr_or_none (words-with (codes "JMP") (label_word number) (record { filled = refl; bytes = refl }) (label_is_word number small)) ∙ ap (λ (b : Bool). some_instr (cond b (Some (JumpTo jump.Always (label_word number))) None)) (label_is_label number small)
jump-read jump.IfZero number small = ap instr_or_none (words-with (codes "JEZ") (label_word number) (record { filled = refl; bytes = refl }) (label_is_word number small)) ∙ ap (λ (b : Bool). some_instr (cond b (Some (JumpTo jump.IfZero (label_word number))) None)) (label_is_label number small)
jump-read jump.IfNotZero number small = ap instr_or_none (words-with (codes "JNZ") (label_word number) (record { filled = refl; bytes = refl }) (label_is_word number small)) ∙ ap (λ (b : Bool). some_instr (cond b (Some (JumpTo jump.IfNotZero (label_word number))) None)) (label_is_label number small)
jump-read jump.IfPositive number small = ap instr_or_none (words-with (codes "JGZ") (label_word number) (record { filled = refl; bytes = refl }) (label_is_word number small)) ∙ ap (λ (b : Bool). some_instr (cond b (Some (JumpTo jump.IfPositive (label_word number))) None)) (label_is_label number small)
jump-read jump.IfNegative number small = ap instr_or_none (words-with (codes "JLZ") (label_word number) (record { filled = refl; bytes = refl }) (label_is_word number small)) ∙ ap (λ (b : Bool). some_instr (cond b (Some (JumpTo jump.IfNegative (label_word number))) None)) (label_is_label number small)

-- the words of an instruction are read as that instruction
pub instr-read : (instr : Instr) → InstrHasValue instr → JumpsWithin 15 instr → instr_or_none (words_of (instr_text instr)) ≡ Some (Some (named instr))
instr-read Nop is within = refl
instr-read (Mov source dest) is within =
    ap instr_or_none (words-mov source dest is)
    ∙ ap (λ (read : Option Source). some_instr (option_and_then (λ s. option_map (λ d. Plain (Mov s d)) (dest_of_word (dest_word dest))) read)) (source-read source is)
    ∙ ap (λ (read : Option Dest). some_instr (option_map (λ d. Plain (Mov source d)) read)) (dest-read dest)
instr-read Swp is within = refl
instr-read Sav is within = refl
instr-read (Add source) is within =
    ap instr_or_none (words-with (codes "ADD") (source_word source) (record { filled = refl; bytes = refl }) (source_is_word source is)) ∙ ap (λ (read : Option Source). some_instr (option_map (λ s. Plain (Add s)) read)) (source-read source is)
instr-read (Sub source) is within =
    ap instr_or_none (words-with (codes "SUB") (source_word source) (record { filled = refl; bytes = refl }) (source_is_word source is)) ∙ ap (λ (read : Option Source). some_instr (option_map (λ s. Plain (Sub s)) read)) (source-read source is)
instr-read Neg is within = refl
instr-read (Jump jump number) is within = jump-read jump number within
instr-read (Jro source) is within =
    ap instr_or_none (words-with (codes "JRO") (source_word source) (record { filled = refl; bytes = refl }) (source_is_word source is)) ∙ ap (λ (read : Option Source). some_instr (option_map (λ s. Plain (Jro s)) read)) (source-read source is)

-- the text of an instruction begins with a letter
pub record Begins (text : List ℕ) : Type 0 where
  pub no_gap : without_gaps text ≡ text
  pub no_mark : is_marked text ≡ false

-- each does
pub instr_begins : (instr : Instr) → Begins (instr_text instr)
instr_begins Nop = record { no_gap = refl; no_mark = refl }
instr_begins (Mov source dest) = record { no_gap = refl; no_mark = refl }
instr_begins Swp = record { no_gap = refl; no_mark = refl }
instr_begins Sav = record { no_gap = refl; no_mark = refl }
instr_begins (Add source) = record { no_gap = refl; no_mark = refl }
instr_begins (Sub source) = record { no_gap = refl; no_mark = refl }
instr_begins Neg = record { no_gap = refl; no_mark = refl }
instr_begins (Jump jump.Always number) = record { no_gap = refl; no_mark = refl }
instr_begins (Jump jump.IfZero number) = record { no_gap = refl; no_mark = refl }
instr_begins (Jump jump.IfNotZero number) = record { no_gap = refl; no_mark = refl }
instr_begins (Jump jump.IfPositive number) = record { no_gap = refl; no_mark = refl }
instr_begins (Jump jump.IfNegative number) = record { no_gap = refl; no_mark = refl }
instr_begins (Jro source) = record { no_gap = refl; no_mark = refl }

-- the name of a jump is code
jump_is_code : (jump : JumpKind) → list_all is_code (jump_word jump) ≡ true
jump_is_code jump.Always = refl
jump_is_code jump.IfZero = refl
jump_is_code jump.IfNotZero = refl
jump_is_code jump.IfPositive = refl
jump_is_code jump.IfNegative = refl

-- and short
jump_is_short : (jump : JumpKind) → length (jump_word jump) ≤ 3
jump_is_short jump.Always = omega arith
jump_is_short jump.IfZero = omega arith
jump_is_short jump.IfNotZero = omega arith
jump_is_short jump.IfPositive = omega arith
jump_is_short jump.IfNegative = omega arith

-- each instruction is code
pub instr_is_code : (instr : Instr) → InstrHasValue instr → JumpsWithin 15 instr → list_all is_code (instr_text instr) ≡ true
instr_is_code Nop is within = refl
instr_is_code (Mov source dest) is within =
    list_all-join is_code (codes "MOV " ++ source_word source ++ codes ", ") (dest_word dest)
    (list_all-join is_code (codes "MOV " ++ source_word source) (codes ", ") (list_all-join is_code (codes "MOV ") (source_word source) refl (word_is_code (source_word source) (source_is_word source is).bytes)) refl)
    (word_is_code (dest_word dest) (dest_is_word dest).bytes)
instr_is_code Swp is within = refl
instr_is_code Sav is within = refl
instr_is_code (Add source) is within = list_all-join is_code (codes "ADD ") (source_word source) refl (word_is_code (source_word source) (source_is_word source is).bytes)
instr_is_code (Sub source) is within = list_all-join is_code (codes "SUB ") (source_word source) refl (word_is_code (source_word source) (source_is_word source is).bytes)
instr_is_code Neg is within = refl
instr_is_code (Jump jump number) is within =
    list_all-join is_code (jump_word jump ++ codes " ") (label_word number) (list_all-join is_code (jump_word jump) (codes " ") (jump_is_code jump) refl) (word_is_code (label_word number) (label_is_word number within).bytes)
instr_is_code (Jro source) is within = list_all-join is_code (codes "JRO ") (source_word source) refl (word_is_code (source_word source) (source_is_word source is).bytes)

-- the words of an instruction are short
dir_is_short : (dir : Dir) → length (dir_word dir) ≤ 5
dir_is_short Left = omega arith
dir_is_short Right = omega arith
dir_is_short Up = omega arith
dir_is_short Down = omega arith

source_is_short : (source : Source) → SourceHasValue source → length (source_word source) ≤ 5
source_is_short (from.Number number) is = omega (arith, value_is_short number is)
source_is_short from.Acc is = omega arith
source_is_short from.Nil is = omega arith
source_is_short (from.Port dir) is = dir_is_short dir
source_is_short from.Any is = omega arith
source_is_short from.Last is = omega arith

dest_is_short : (dest : Dest) → length (dest_word dest) ≤ 5
dest_is_short to.Acc = omega arith
dest_is_short to.Nil = omega arith
dest_is_short (to.Port dir) = dir_is_short dir
dest_is_short to.Any = omega arith
dest_is_short to.Last = omega arith

pub label_is_short : (number : ℕ) → number < 15 → length (label_word number) ≤ 3
label_is_short number small = omega (arith, length-decimal-le 2 number (omega arith) (omega arith) (small_number number small))

-- so is an instruction
pub instr_is_short : (instr : Instr) → InstrHasValue instr → JumpsWithin 15 instr → length (instr_text instr) ≤ 20
instr_is_short Nop is within = omega arith
instr_is_short (Mov source dest) is within =
    omega (arith, length-append (codes "MOV " ++ source_word source ++ codes ", ") (dest_word dest), length-append (codes "MOV " ++ source_word source) (codes ", "), length-append (codes "MOV ") (source_word source), source_is_short source is, dest_is_short dest)
instr_is_short Swp is within = omega arith
instr_is_short Sav is within = omega arith
instr_is_short (Add source) is within = omega (arith, length-append (codes "ADD ") (source_word source), source_is_short source is)
instr_is_short (Sub source) is within = omega (arith, length-append (codes "SUB ") (source_word source), source_is_short source is)
instr_is_short Neg is within = omega arith
instr_is_short (Jump jump number) is within = omega (arith, length-append (jump_word jump ++ codes " ") (label_word number), length-append (jump_word jump) (codes " "), jump_is_short jump, label_is_short number within)
instr_is_short (Jro source) is within = omega (arith, length-append (codes "JRO ") (source_word source), source_is_short source is)
