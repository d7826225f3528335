-- Every text that spells a program spells one whose numbers are values and whose jumps stay inside.
use Rattle.std.proofs.Common.{◌≡◌, ℕ, ◌+◌, ◌<◌, ◌≤◌, pos, Bool, false, cond, List, [], ◌∷◌, length, map, Option, Some, None, nat_lt, inl, inr, refl, sym, ap, subst, arith, ltb-false, ◌≢◌, eq-eqb}
use Rattle.std.specs.Prelude.{option_map, option_and_then, neg_ℤ, codes, Result, Ok, Err, ◌==◌}
use Rattle.std.specs.Str.{bytes_eq}
use Rattle.std.proofs.lemmas.Bool.{cond_both, cases_Bool}
use Rattle.tis_base.specs.Saturation.{sat, IsValue}
use Rattle.tis_base.proofs.Saturating.{sat_is_value}
use Rattle.tis_base.specs.Lines.{pieces_where}
use Rattle.tis_asm.specs.declared.instr.Source.{Source}
use Rattle.tis_asm.specs.declared.instr.Source.TheVariants as from
use Rattle.tis_asm.specs.declared.instr.Dest.{Dest}
use Rattle.tis_asm.specs.declared.instr.Dest.TheVariants as to
use Rattle.tis_asm.specs.declared.instr.Instr.{Instr}
use Rattle.tis_asm.specs.declared.instr.Instr.TheVariants.{Nop, Mov, Swp, Sav, Add, Sub, Neg, Jump, Jro}
use Rattle.tis_asm.specs.declared.program.MarkedInstr.{MarkedInstr}
use Rattle.tis_asm.specs.Programs.{SourceHasValue, InstrHasValue, HasValues, JumpsWithin, JumpWithin}
use Rattle.tis_asm.specs.Assembling.{AsmRefusal, TooManyLines, LongLine, RepeatedLabel, words_of, capital, number_of_digits, number_of_word, dest_of_word, source_of_dest, source_of_word, jump_of_word, is_label, or_else, NamedInstr, Plain, JumpTo, CodeLine, plain_of_word, with_operand, mov_of_words, instr_of_words, without_comment, without_gaps, is_marked, without_mark, instr_or_none, marked_part, labelled_part, parts_of, line_of, without_blank_end, or_bad, line_read, repeats, with_label, with_rest, with_line, lines_read, count_of, instr_count, is_named, label_at, wrapped, label_number, resolved, with_instr, onto_program, program_of, program_where, assembled_lines}
use Rattle.tis_asm.specs.Soundness.{IsWhole, AssembledAreWhole}

-- ---- what an option holds, where it holds something

abbrev Holds : {X : Type 0} → (X → Type 0) → Option X → Type 0
Holds P None = Unit {0}
Holds P (Some x) = P x

-- of a choice
holds_cond : {X : Type 0} (P : X → Type 0) (b : Bool) (x y : Option X) → Holds P x → Holds P y → Holds P (cond b x y)
holds_cond P b x y first second = cond_both b x y (λ o. Holds P o) (λ is. first) (λ is. second)

-- of what a function makes of it
holds_map : {X Y : Type 0} (P : X → Type 0) (Q : Y → Type 0) (f : X → Y) → ((x : X) → P x → Q (f x)) → (o : Option X) → Holds P o → Holds Q (option_map f o)
holds_map P Q f each None holds = tt
holds_map P Q f each (Some x) holds = each x holds

-- of anything
holds_any : {X Y : Type 0} (Q : Y → Type 0) (f : X → Y) → ((x : X) → Q (f x)) → (o : Option X) → Holds Q (option_map f o)
holds_any Q f each None = tt
holds_any Q f each (Some x) = each x

-- ---- one line

-- a number of a text is a value
number_held : (word : List ℕ) → Holds IsValue (number_of_word word)
number_held [] = tt
number_held (byte ∷ digits) =
    holds_cond IsValue (byte == 45) (option_map (λ n. sat (neg_ℤ (pos n))) (number_of_digits digits)) (cond (byte == 43) (option_map (λ n. sat (pos n)) (number_of_digits digits)) (option_map (λ n. sat (pos n)) (number_of_digits (byte ∷ digits))))
    (holds_any IsValue (λ n. sat (neg_ℤ (pos n))) (λ n. sat_is_value (neg_ℤ (pos n))) (number_of_digits digits))
    (holds_cond IsValue (byte == 43) (option_map (λ n. sat (pos n)) (number_of_digits digits)) (option_map (λ n. sat (pos n)) (number_of_digits (byte ∷ digits)))
    (holds_any IsValue (λ n. sat (pos n)) (λ n. sat_is_value (pos n)) (number_of_digits digits)) (holds_any IsValue (λ n. sat (pos n)) (λ n. sat_is_value (pos n)) (number_of_digits (byte ∷ digits))))

-- no destination has a number
dest_held : (dest : Dest) → SourceHasValue (source_of_dest dest)
dest_held to.Acc = tt
dest_held to.Nil = tt
dest_held (to.Port dir) = tt
dest_held to.Any = tt
dest_held to.Last = tt

-- a source of a text
source_held : (word : List ℕ) → Holds SourceHasValue (source_of_word word)
source_held word = either (option_map source_of_dest (dest_of_word word)) (option_map (λ number. from.Number number) (number_of_word word)) (holds_any SourceHasValue source_of_dest dest_held (dest_of_word word)) (holds_map IsValue SourceHasValue (λ number. from.Number number) (λ number is. is) (number_of_word word) (number_held word))
  where
    -- the first that is there
    either : (x y : Option Source) → Holds SourceHasValue x → Holds SourceHasValue y → Holds SourceHasValue (or_else x y)
    either None y first second = second
    either (Some x) y first second = first

-- an instruction of a line: its number is a value, and if it is a jump it has a label
abbrev IsRead : NamedInstr → Type 0
IsRead (Plain instr) = InstrHasValue instr × JumpsWithin 0 instr
IsRead (JumpTo jump label) = Unit {0}

-- one word
plain_held : (name : List ℕ) → Holds IsRead (plain_of_word name)
plain_held name =
    holds_cond IsRead (bytes_eq name (codes "NOP")) _ _ (tt, tt)
    (holds_cond IsRead (bytes_eq name (codes "SWP")) _ _ (tt, tt) (holds_cond IsRead (bytes_eq name (codes "SAV")) _ _ (tt, tt) (holds_cond IsRead (bytes_eq name (codes "NEG")) _ None (tt, tt) tt)))

-- a word and an operand
operand_held : (name operand : List ℕ) → Holds IsRead (with_operand name operand)
operand_held name operand =
    holds_cond IsRead (bytes_eq name (codes "ADD")) _ _ (holds_map SourceHasValue IsRead (λ source. Plain (Add source)) (λ source is. (is, tt)) (source_of_word operand) (source_held operand))
    (holds_cond IsRead (bytes_eq name (codes "SUB")) _ _ (holds_map SourceHasValue IsRead (λ source. Plain (Sub source)) (λ source is. (is, tt)) (source_of_word operand) (source_held operand))
    (holds_cond IsRead (bytes_eq name (codes "JRO")) _ _ (holds_map SourceHasValue IsRead (λ source. Plain (Jro source)) (λ source is. (is, tt)) (source_of_word operand) (source_held operand))
    (holds_cond IsRead (is_label operand) (option_map (λ jump. JumpTo jump operand) (jump_of_word name)) None (holds_any IsRead (λ jump. JumpTo jump operand) (λ jump. tt) (jump_of_word name)) tt)))

-- a MOV
mov_held : (source : Option Source) (dest : Option Dest) → Holds SourceHasValue source → Holds IsRead (option_and_then (λ s. option_map (λ d. Plain (Mov s d)) dest) source)
mov_held None dest is = tt
mov_held (Some source) dest is = holds_any IsRead (λ d. Plain (Mov source d)) (λ d. (is, tt)) dest

-- the words of an instruction
words_held : (words : List (List ℕ)) → Holds IsRead (instr_of_words words)
words_held [] = tt
words_held (name ∷ []) = plain_held name
words_held (name ∷ operand ∷ []) = operand_held name operand
words_held (name ∷ source ∷ dest ∷ []) = holds_cond IsRead (bytes_eq name (codes "MOV")) (mov_of_words source dest) None (mov_held (source_of_word source) (dest_of_word dest) (source_held source)) tt
words_held (name ∷ source ∷ dest ∷ other ∷ words) = tt

-- a line of a program
abbrev IsLine : CodeLine → Type 0
IsLine line = Holds IsRead line.instr

-- no words, or those of an instruction
none_held : (words : List (List ℕ)) → Holds (Holds IsRead) (instr_or_none words)
none_held [] = tt
none_held (word ∷ words) = holds_map IsRead (Holds IsRead) (λ instr. Some instr) (λ instr is. is) (instr_of_words (word ∷ words)) (words_held (word ∷ words))

marked_held : (mark : Bool) (label : Option (List ℕ)) (rest : List ℕ) → Holds IsLine (marked_part mark label rest)
marked_held mark label rest = holds_map (Holds IsRead) IsLine _ (λ instr is. is) (instr_or_none (words_of (without_mark rest))) (none_held (words_of (without_mark rest)))

labelled_held : (mark : Bool) (words : List (List ℕ)) (rest : List ℕ) → Holds IsLine (labelled_part mark words rest)
labelled_held mark [] rest = tt
labelled_held mark (word ∷ []) rest = holds_cond IsLine (is_label word) (marked_part mark (Some word) (without_gaps rest)) None (marked_held mark (Some word) (without_gaps rest)) tt
labelled_held mark (word ∷ other ∷ words) rest = tt

parts_held : (mark : Bool) (pieces : List (List ℕ)) → Holds IsLine (parts_of mark pieces)
parts_held mark [] = tt
parts_held mark (rest ∷ []) = marked_held mark None (without_gaps rest)
parts_held mark (label ∷ rest ∷ []) = labelled_held mark (words_of label) rest
parts_held mark (label ∷ rest ∷ other ∷ pieces) = tt

-- ---- all lines

-- what a result holds, where it is one
abbrev Gets : {X : Type 0} → (X → Type 0) → Result X AsmRefusal → Type 0
Gets P (Err refusal) = Unit {0}
Gets P (Ok x) = P x

bad_held : (number : ℕ) (line : Option CodeLine) → Holds IsLine line → Gets IsLine (or_bad number line)
bad_held number None is = tt
bad_held number (Some line) is = is

line_held : (number : ℕ) (line : List ℕ) → Gets IsLine (line_read number line)
line_held number line =
    let code = map capital (without_comment line) in
    cond_both (nat_lt 80 (length line)) (Err (LongLine number)) (or_bad number (line_of code)) (λ read. Gets IsLine read) (λ long. tt)
    (λ short. bad_held number (line_of code) (parts_held (is_marked (without_gaps code)) (pieces_where (λ byte. byte == 58) (without_mark (without_gaps code)))))

-- so many lines of a program
abbrev AreLines : List CodeLine → Type 0
AreLines [] = Unit {0}
AreLines (line ∷ lines) = IsLine line × AreLines lines

abbrev AreSome : ℕ → List CodeLine → Type 0
AreSome count lines = AreLines lines × (length lines ≡ count)

rest_held : (line : CodeLine) (count : ℕ) (rest : Result (List CodeLine) AsmRefusal) → IsLine line → Gets (AreSome count) rest → Gets (AreSome (count + 1)) (with_rest line rest)
rest_held line count (Err refusal) is are = tt
rest_held line count (Ok lines) is are = ((is, are.0), omega (arith, are.1))

with_held : (number : ℕ) (above : List (List ℕ)) (count : ℕ) (read : Result CodeLine AsmRefusal) (behind : List (List ℕ) → Result (List CodeLine) AsmRefusal) → Gets IsLine read → ((labels : List (List ℕ)) → Gets (AreSome count) (behind labels)) → Gets (AreSome (count + 1)) (with_line number above read behind)
with_held number above count (Err refusal) behind is are = tt
with_held number above count (Ok line) behind is are =
    cond_both (repeats above line.label) (Err (RepeatedLabel number)) (with_rest line (behind (with_label above line.label))) (λ read. Gets (AreSome (count + 1)) read) (λ repeated. tt) (λ fresh. rest_held line count (behind (with_label above line.label)) is (are (with_label above line.label)))

lines_held : (lines : List (List ℕ)) (number : ℕ) (above : List (List ℕ)) → Gets (AreSome (length lines)) (lines_read number above lines)
lines_held [] number above = (tt, refl)
lines_held (line ∷ lines) number above =
    let more : length lines + 1 ≡ length (line ∷ lines) = omega arith in
    subst (λ (count : ℕ). Gets (AreSome count) (lines_read number above (line ∷ lines))) more
    (with_held number above (length lines) (line_read number line) (λ labels. lines_read (number + 1) labels lines) (line_held number line) (λ labels. lines_held lines (number + 1) labels))

-- ---- labels

-- no more instructions than lines
few_instrs : (lines : List CodeLine) → instr_count lines ≤ length lines
few_instrs [] = omega arith
few_instrs (line ∷ lines) = omega (arith, one line.instr, few_instrs lines)
  where
    one : (instr : Option NamedInstr) → count_of instr ≤ 1
    one None = omega arith
    one (Some instr) = omega arith

-- a label stands above no more instructions than there are
label_within : (lines : List CodeLine) (count : ℕ) (label : List ℕ) → Holds (λ number. number ≤ count + instr_count lines) (label_at count lines label)
label_within [] count label = tt
label_within (line ∷ lines) count label =
    let enough : (λ (number : ℕ). number ≤ count + count_of line.instr + instr_count lines) ≡ (λ (number : ℕ). number ≤ count + instr_count (line ∷ lines)) = ap (λ (bound : ℕ). λ (number : ℕ). number ≤ bound) (omega arith) in
    holds_cond (λ number. number ≤ count + instr_count (line ∷ lines)) (is_named label line.label) (Some count) (label_at (count + count_of line.instr) lines label) (omega arith)
    (subst (λ (P : ℕ → Type 0). Holds P (label_at (count + count_of line.instr) lines label)) enough (label_within lines (count + count_of line.instr) label))

-- the instruction that a label names is one of them
wrapped_below : (count number : ℕ) → 0 < count → number ≤ count → wrapped count number < count
wrapped_below count number some within =
    elim (cases_Bool (number == count)) [
      | inl same ↦ rw same some
      | inr other ↦ rw other (omega (arith, ne_from number count other))
    ]
  where
    ne_from : (a b : ℕ) → (a == b) ≡ false → a ≢ b
    ne_from a b other = λ same. absurd (cc (other, eq-eqb a b same))

-- an instruction of a program of so many
record IsGood (count : ℕ) (instr : Instr) : Type 0 where
  has : InstrHasValue instr
  within : JumpsWithin count instr

-- what doesn't jump stays inside any program
more_within : (count : ℕ) (instr : Instr) → JumpsWithin 0 instr → JumpsWithin count instr
more_within count Nop within = tt
more_within count (Mov source dest) within = tt
more_within count Swp within = tt
more_within count Sav within = tt
more_within count (Add source) within = tt
more_within count (Sub source) within = tt
more_within count Neg within = tt
more_within count (Jump jump number) within = absurd (omega arith)
more_within count (Jro source) within = tt

resolved_held : (all : List CodeLine) (instr : NamedInstr) → 0 < instr_count all → IsRead instr → Holds (IsGood (instr_count all)) (resolved all instr)
resolved_held all (Plain instr) some is = record { has = is.0; within = more_within (instr_count all) instr is.1 }
resolved_held all (JumpTo jump label) some is =
    holds_map (λ number. number < instr_count all) (IsGood (instr_count all)) (λ number. Jump jump number) (λ number below. record { has = tt; within = below }) (label_number all label)
    (holds_map (λ number. number ≤ instr_count all) (λ number. number < instr_count all) (wrapped (instr_count all)) (λ number within. wrapped_below (instr_count all) number some within) (label_at 0 all label)
    (subst (λ (P : ℕ → Type 0). Holds P (label_at 0 all label)) (ap (λ (bound : ℕ). λ (number : ℕ). number ≤ bound) (omega arith)) (label_within all 0 label)))

-- what is known of the program of some lines
record IsProgram (count some : ℕ) (program : List MarkedInstr) : Type 0 where
  length_is : length program ≡ some
  values : HasValues program
  within : JumpWithin count program

instr_held : (count some number : ℕ) (mark : Bool) (instr : Option Instr) (rest : Result (List MarkedInstr) AsmRefusal) → Holds (IsGood count) instr → Gets (IsProgram count some) rest → Gets (IsProgram count (1 + some)) (with_instr number mark instr rest)
instr_held count some number mark None rest is are = tt
instr_held count some number mark (Some instr) (Err refusal) is are = tt
instr_held count some number mark (Some instr) (Ok program) is are = record { length_is = omega (arith, are.length_is); values = (is.has, are.values); within = (is.within, are.within) }

onto_held : (all : List CodeLine) (some number : ℕ) (mark : Bool) (instr : Option NamedInstr) (rest : Result (List MarkedInstr) AsmRefusal) → count_of instr + some ≤ instr_count all → Holds IsRead instr → Gets (IsProgram (instr_count all) some) rest → Gets (IsProgram (instr_count all) (count_of instr + some)) (onto_program all number mark instr rest)
onto_held all some number mark None rest few is are = subst (λ (n : ℕ). Gets (IsProgram (instr_count all) n) rest) (omega arith) are
onto_held all some number mark (Some instr) rest few is are = instr_held (instr_count all) some number mark (resolved all instr) rest (resolved_held all instr (omega arith) is) are

program_held : (all lines : List CodeLine) (number : ℕ) → instr_count lines ≤ instr_count all → AreLines lines → Gets (IsProgram (instr_count all) (instr_count lines)) (program_of all number lines)
program_held all [] number few are = record { length_is = refl; values = tt; within = tt }
program_held all (line ∷ lines) number few are = onto_held all (instr_count lines) number line.mark line.instr (program_of all (number + 1) lines) few are.0 (program_held all lines (number + 1) (omega arith) are.1)

-- a program of lines that were read
where_held : (count : ℕ) (lines : Result (List CodeLine) AsmRefusal) → count ≤ 15 → Gets (AreSome count) lines → Gets IsWhole (program_where lines)
where_held count (Err refusal) few are = tt
where_held count (Ok lines) few are = whole (program_of lines 1 lines) (program_held lines lines 1 (omega arith) are.0)
  where
    whole : (program : Result (List MarkedInstr) AsmRefusal) → Gets (IsProgram (instr_count lines) (instr_count lines)) program → Gets IsWhole program
    whole (Err refusal) is = tt
    whole (Ok program) is = record { short = omega (arith, is.length_is, few_instrs lines, are.1); values = is.values; sound = subst (λ (n : ℕ). JumpWithin n program) (sym is.length_is) is.within }

-- lines
assembled_held : (lines : List (List ℕ)) → Gets IsWhole (assembled_lines lines)
assembled_held lines =
    let code = without_blank_end lines in
    cond_both (nat_lt 15 (length code)) (Err TooManyLines) (program_where (lines_read 1 [] code)) (λ program. Gets IsWhole program) (λ many. tt) (λ few. where_held (length code) (lines_read 1 [] code) (omega (arith, ltb-false 15 (length code) few)) (lines_held code 1 []))

-- all lines that spell a program spell such a one
pub assembled_are_whole : AssembledAreWhole
assembled_are_whole lines program is = subst (λ (result : Result (List MarkedInstr) AsmRefusal). Gets IsWhole result) is (assembled_held lines)
