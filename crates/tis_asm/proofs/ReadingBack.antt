-- What is written of a program, whose numbers are values and whose jumps stay inside, is read as that program.
use Rattle.std.proofs.Common.{◌≡◌, ℕ, ◌+◌, ◌<◌, ◌≤◌, Bool, true, false, cond, List, [], ◌∷◌, ◌++◌, length, Option, Some, None, inl, inr, refl, sym, ap, ◌∙◌, subst, append_assoc, arith, length-append, eq-eqb, ne_eqb}
use Rattle.std.specs.Prelude.{codes, map, ◌||◌, if◌then◌else◌, nat_lt, Result, Ok, Err, option_map, ◌==◌, decimal}
use Rattle.std.specs.List.{list_all, list_any}
use Rattle.std.specs.Str.{bytes_eq}
use Rattle.std.proofs.lemmas.Bool.{and_parts, and_from, le-ltb, or_from, or_right, cases_eq, false_from_ne_true}
use Rattle.std.proofs.lemmas.List.{append-nil}
use Rattle.std.proofs.lemmas.List.Folds.{list_any-append}
use Rattle.std.proofs.lemmas.Slice.Eq.{bytes_eq-Decides}
use Rattle.std.proofs.lemmas.Fmt.{decimal_injective}
use Rattle.tis_base.specs.Lines.{pieces_where}
use Rattle.tis_base.proofs.WrittenLines.{is_plain_line, list_all-join, pieces-first, pieces-last, text_lines-text_of_lines}
use Rattle.tis_asm.specs.declared.instr.Instr.{Instr}
use Rattle.tis_asm.specs.declared.instr.Instr.TheVariants.{Nop, Mov, Swp, Sav, Add, Sub, Neg, Jump, Jro}
use Rattle.tis_asm.specs.declared.instr.Jump.{Jump as JumpKind}
use Rattle.tis_asm.specs.declared.instr.Jump.TheVariants as jumps
use Rattle.tis_asm.specs.declared.program.MarkedInstr.{MarkedInstr}
use Rattle.tis_asm.specs.Programs.{InstrHasValue, HasValues, JumpsWithin, JumpWithin, IsSound}
use Rattle.tis_asm.specs.Code.{label_word, label_text, mark_text, instr_text, jumps_to, is_target, line_text, lines_from, code_lines}
use Rattle.tis_asm.specs.Assembling.{AsmRefusal, TooManyLines, LongLine, words_of, capital, NamedInstr, CodeLine, instr_or_none, without_comment, without_gaps, is_marked, marked_part, labelled_part, parts_of, line_of, or_bad, line_read, is_blank, onto_code, without_blank_end, with_label, with_rest, with_line, lines_read, instr_count, label_at, wrapped, label_number, resolved, with_instr, program_of, program_where, assembled_lines}
use Rattle.tis_asm.specs.ReadingBack.{ProgramsReadBack, LinesReadBack}
use Rattle.tis_asm.proofs.Numbers.{is_clean, is_code}
use Rattle.tis_asm.proofs.CodeLines.{code_is_clean, code_has_no_colon, clean_is_plain, word_is_code, words-last, label_is_word, label_is_label, label_is_short, named, without_comment-clean, capital-clean, instr-read, instr_begins, instr_is_code, instr_is_short}

-- ---- one line

-- what is known of an instruction of a program
record IsGood (instr : Instr) : Type 0 where
  has : InstrHasValue instr
  within : JumpsWithin 15 instr

-- what stands behind the label, where no `!` comes
marked_part-none : (mark : Bool) (label : Option (List ℕ)) (rest : List ℕ) (instr : NamedInstr) → is_marked rest ≡ false → instr_or_none (words_of rest) ≡ Some (Some instr) → marked_part mark label rest ≡ Some (record { label = label; mark = mark || false; instr = Some instr })
marked_part-none mark label rest instr unmarked is = rw (unmarked, is) refl

-- or one
marked_part-mark : (mark : Bool) (label : Option (List ℕ)) (rest : List ℕ) (instr : NamedInstr) → instr_or_none (words_of rest) ≡ Some (Some instr) → marked_part mark label (33 ∷ rest) ≡ Some (record { label = label; mark = mark || true; instr = Some instr })
marked_part-mark mark label rest instr is = rw is refl

-- the mark and the instruction behind a label
code-read : (label : Option (List ℕ)) (mark : Bool) (instr : Instr) → IsGood instr → marked_part false label (without_gaps (mark_text mark ++ instr_text instr)) ≡ Some (record { label = label; mark = mark; instr = Some (named instr) })
code-read label true instr is = marked_part-mark false label (instr_text instr) (named instr) (instr-read instr is.has is.within)
code-read label false instr is =
    ap (marked_part false label) (instr_begins instr).no_gap ∙ marked_part-none false label (instr_text instr) (named instr) (instr_begins instr).no_mark (instr-read instr is.has is.within)

-- code without a label and without `!` in front
parts_of-code : (mark : Bool) (instr : Instr) → IsGood instr → parts_of mark (pieces_where (λ byte. byte == 58) (instr_text instr)) ≡ Some (record { label = None; mark = mark || false; instr = Some (named instr) })
parts_of-code mark instr is =
    ap (parts_of mark) (pieces-last (λ byte. byte == 58) (instr_text instr) (code_has_no_colon (instr_text instr) (instr_is_code instr is.has is.within)))
    ∙ ap (marked_part mark None) (instr_begins instr).no_gap ∙ marked_part-none mark None (instr_text instr) (named instr) (instr_begins instr).no_mark (instr-read instr is.has is.within)

-- a line that begins with no gap and no `!`
line_of-plain : (line : List ℕ) → without_gaps line ≡ line → is_marked line ≡ false → line_of line ≡ parts_of false (pieces_where (λ byte. byte == 58) line)
line_of-plain line no_gap no_mark = rw (no_gap, no_mark) refl

-- a line without a label
unlabelled-read : (mark : Bool) (instr : Instr) → IsGood instr → line_of (mark_text mark ++ instr_text instr) ≡ Some (record { label = None; mark = mark; instr = Some (named instr) })
unlabelled-read true instr is = parts_of-code true instr is
unlabelled-read false instr is = line_of-plain (instr_text instr) (instr_begins instr).no_gap (instr_begins instr).no_mark ∙ parts_of-code false instr is

-- a mark is code
mark_is_code : (mark : Bool) → list_all is_code (mark_text mark) ≡ true
mark_is_code true = refl
mark_is_code false = refl

-- a mark and an instruction are code
behind_is_code : (mark : Bool) (instr : Instr) → IsGood instr → list_all is_code (mark_text mark ++ instr_text instr) ≡ true
behind_is_code mark instr is = list_all-join is_code (mark_text mark) (instr_text instr) (mark_is_code mark) (instr_is_code instr is.has is.within)

-- a line with a label
labelled-read : (number : ℕ) (mark : Bool) (instr : Instr) → number < 15 → IsGood instr → line_of (label_word number ++ 58 ∷ 32 ∷ (mark_text mark ++ instr_text instr)) ≡ Some (record { label = Some (label_word number); mark = mark; instr = Some (named instr) })
labelled-read number mark instr small is =
    let label = label_word number in
    let behind = mark_text mark ++ instr_text instr in
    ap (parts_of false)
    (pieces-first (λ byte. byte == 58) label (32 ∷ behind) 58 (code_has_no_colon label (word_is_code label (label_is_word number small).bytes)) refl
    ∙ ap (λ (pieces : List (List ℕ)). label ∷ pieces) (pieces-last (λ byte. byte == 58) (32 ∷ behind) (code_has_no_colon (32 ∷ behind) (behind_is_code mark instr is))))
    ∙ ap (λ (words : List (List ℕ)). labelled_part false words (32 ∷ behind)) (words-last label (label_is_word number small))
    ∙ ap (λ (b : Bool). cond b (marked_part false (Some label) (without_gaps behind)) None) (label_is_label number small)
    ∙ code-read (Some label) mark instr is

-- where the label stands, with a `:` and a blank
label_joined : (label mark code : List ℕ) → label ++ (58 ∷ 32 ∷ []) ++ mark ++ code ≡ label ++ 58 ∷ 32 ∷ (mark ++ code)
label_joined label mark code = append_assoc (label ++ 58 ∷ 32 ∷ []) mark code ∙ append_assoc label (58 ∷ 32 ∷ []) (mark ++ code)

-- the label of a line, or none
abbrev pub label_where : Bool → ℕ → Option (List ℕ)
label_where labelled number = if labelled then Some (label_word number) else None

-- a line that may have a label
line_of-read : (labelled : Bool) (number : ℕ) (mark : Bool) (instr : Instr) → number < 15 → IsGood instr → line_of (label_text labelled number ++ mark_text mark ++ instr_text instr) ≡ Some (record { label = label_where labelled number; mark = mark; instr = Some (named instr) })
line_of-read true number mark instr small is = ap line_of (label_joined (label_word number) (mark_text mark) (instr_text instr)) ∙ labelled-read number mark instr small is
line_of-read false number mark instr small is = unlabelled-read mark instr is

-- a label in front is clean
label_is_clean : (labelled : Bool) (number : ℕ) → number < 15 → list_all is_clean (label_text labelled number) ≡ true
label_is_clean true number small = list_all-join is_clean (label_word number) (codes ": ") (code_is_clean (label_word number) (word_is_code (label_word number) (label_is_word number small).bytes)) refl
label_is_clean false number small = refl

-- so is a line
line_is_clean : (labelled : Bool) (number : ℕ) (mark : Bool) (instr : Instr) → number < 15 → IsGood instr → list_all is_clean (label_text labelled number ++ mark_text mark ++ instr_text instr) ≡ true
line_is_clean labelled number mark instr small is =
    list_all-join is_clean (label_text labelled number ++ mark_text mark) (instr_text instr)
    (list_all-join is_clean (label_text labelled number) (mark_text mark) (label_is_clean labelled number small) (code_is_clean (mark_text mark) (mark_is_code mark)))
    (code_is_clean (instr_text instr) (instr_is_code instr is.has is.within))

-- a label and a mark are short
prefix_is_short : (labelled : Bool) (number : ℕ) (mark : Bool) → number < 15 → length (label_text labelled number ++ mark_text mark) ≤ 6
prefix_is_short true number true small = omega (arith, length-append (label_word number ++ codes ": ") (codes "!"), length-append (label_word number) (codes ": "), label_is_short number small)
prefix_is_short true number false small = omega (arith, length-append (label_word number ++ codes ": ") [], length-append (label_word number) (codes ": "), label_is_short number small)
prefix_is_short false number true small = omega arith
prefix_is_short false number false small = omega arith

-- a clean and short line is read by its four parts
line_read-clean : (at : ℕ) (line : List ℕ) (code : CodeLine) → list_all is_clean line ≡ true → length line ≤ 80 → line_of line ≡ Some code → line_read at line ≡ Ok code
line_read-clean at line code clean short is =
    ap (λ (long : Bool). cond long (Err (LongLine at)) (or_bad at (line_of (map capital (without_comment line))))) (le-ltb 80 (length line) short)
    ∙ ap (λ (bytes : List ℕ). or_bad at (line_of (map capital bytes))) (without_comment-clean line clean)
    ∙ ap (λ (bytes : List ℕ). or_bad at (line_of bytes)) (capital-clean line clean) ∙ ap (or_bad at) is

-- the line of an instruction is read as what it was written from
line_read-text : (at : ℕ) (labelled : Bool) (number : ℕ) (mark : Bool) (instr : Instr) → number < 15 → IsGood instr →
    line_read at (label_text labelled number ++ mark_text mark ++ instr_text instr) ≡ Ok (record { label = label_where labelled number; mark = mark; instr = Some (named instr) })
line_read-text at labelled number mark instr small is =
    line_read-clean at (label_text labelled number ++ mark_text mark ++ instr_text instr) _ (line_is_clean labelled number mark instr small is)
    (omega (arith, length-append (label_text labelled number ++ mark_text mark) (instr_text instr), prefix_is_short labelled number mark small, instr_is_short instr is.has is.within)) (line_of-read labelled number mark instr small is)

-- ---- labels

-- labels of different instructions differ
labels_differ : (first second : ℕ) → first < 15 → second < 15 → (first ≡ second → ⊥) → bytes_eq (label_word first) (label_word second) ≡ false
labels_differ first second first_small second_small apart =
    false_from_ne_true (bytes_eq (label_word first) (label_word second)) (λ same.
    let words : label_word first ≡ label_word second = (bytes_eq-Decides (label_word first) (label_word second)).0 same in
    let digits : decimal first ≡ decimal second = cc in
    apart (decimal_injective first second (omega arith) (omega arith) digits))

-- a label is itself
label_same : (number : ℕ) → bytes_eq (label_word number) (label_word number) ≡ true
label_same number = (bytes_eq-Decides (label_word number) (label_word number)).1 refl

module _ (whole : List MarkedInstr) (few : length whole ≤ 15) where
  -- what a line says that was written of an instruction
  abbrev line_at : ℕ → MarkedInstr → CodeLine
  line_at number marked = record { label = label_where (is_target whole number) number; mark = marked.mark; instr = Some (named marked.instr) }

  -- and those of several
  abbrev lines_at : ℕ → List MarkedInstr → List CodeLine
  lines_at number [] = []
  lines_at number (marked ∷ rest) = line_at number marked ∷ lines_at (number + 1) rest

  -- no label of these instructions stands above
  abbrev AreFresh : ℕ → List (List ℕ) → Type 0
  AreFresh number above = (later : ℕ) → number ≤ later → later < 15 → list_any (bytes_eq (label_word later)) above ≡ false

  -- nor below one more line
  still_fresh : (labelled : Bool) (number : ℕ) (above : List (List ℕ)) → number < 15 → AreFresh number above → AreFresh (number + 1) (with_label above (label_where labelled number))
  still_fresh true number above small fresh later behind inside =
      list_any-append (bytes_eq (label_word later)) above (label_word number ∷ [])
      ∙ or_from (list_any (bytes_eq (label_word later)) above) (list_any (bytes_eq (label_word later)) (label_word number ∷ [])) (fresh later (omega arith) inside)
      (or_from (bytes_eq (label_word later) (label_word number)) false (labels_differ later number inside small (λ e. omega arith)) refl)
  still_fresh false number above small fresh later behind inside = fresh later (omega arith) inside

  -- a label that stands nowhere above is no repeated one
  fresh_line : (labelled : Bool) (number at : ℕ) (above : List (List ℕ)) (mark : Bool) (instr : Option NamedInstr) (behind : List (List ℕ) → Result (List CodeLine) AsmRefusal) (rest : List CodeLine) → number < 15 → AreFresh number above →
      behind (with_label above (label_where labelled number)) ≡ Ok rest → with_line at above (Ok (record { label = label_where labelled number; mark = mark; instr = instr })) behind ≡ Ok (record { label = label_where labelled number; mark = mark; instr = instr } ∷ rest)
  fresh_line true number at above mark instr behind rest small fresh is = rw (fresh number (omega arith) small) (ap (with_rest _) is)
  fresh_line false number at above mark instr behind rest small fresh is = ap (with_rest _) is

  -- what is known of the first of these instructions
  good_first : (marked : MarkedInstr) (rest : List MarkedInstr) → HasValues (marked ∷ rest) → JumpWithin (length whole) (marked ∷ rest) → IsGood marked.instr
  good_first marked rest are sound = record { has = are.0; within = wider marked.instr sound.0 }
    where
      -- so many instructions or more
      wider : (instr : Instr) → JumpsWithin (length whole) instr → JumpsWithin 15 instr
      wider Nop within = tt
      wider (Mov source dest) within = tt
      wider Swp within = tt
      wider Sav within = tt
      wider (Add source) within = tt
      wider (Sub source) within = tt
      wider Neg within = tt
      wider (Jump jump number) within = omega arith
      wider (Jro source) within = tt

  -- the lines of these instructions are read as what they were written from
  lines-read : (rest : List MarkedInstr) (number : ℕ) (above : List (List ℕ)) → number + length rest ≤ 15 → HasValues rest → JumpWithin (length whole) rest → AreFresh number above → lines_read (number + 1) above (lines_from whole number rest) ≡ Ok (lines_at number rest)
  lines-read [] number above inside are sound fresh = refl
  lines-read (marked ∷ rest) number above inside are sound fresh =
      ap (λ (read : Result CodeLine AsmRefusal). with_line (number + 1) above read (λ labels. lines_read (number + 1 + 1) labels (lines_from whole (number + 1) rest)))
      (line_read-text (number + 1) (is_target whole number) number marked.mark marked.instr (omega arith) (good_first marked rest are sound))
      ∙ fresh_line (is_target whole number) number (number + 1) above marked.mark (Some (named marked.instr)) (λ labels. lines_read (number + 1 + 1) labels (lines_from whole (number + 1) rest)) (lines_at (number + 1) rest) (omega arith) fresh
      (lines-read rest (number + 1) (with_label above (label_where (is_target whole number) number)) (omega arith) are.1 sound.1 (still_fresh (is_target whole number) number above (omega arith) fresh))

  -- each line has one instruction
  instr_count-lines : (rest : List MarkedInstr) (number : ℕ) → instr_count (lines_at number rest) ≡ length rest
  instr_count-lines [] number = refl
  instr_count-lines (marked ∷ rest) number = omega (arith, instr_count-lines rest (number + 1))

  -- a line with the label
  label_here : (number : ℕ) (marked : MarkedInstr) (lines : List CodeLine) → is_target whole number ≡ true → label_at number (line_at number marked ∷ lines) (label_word number) ≡ Some number
  label_here number marked lines target = rw (target, label_same number) refl

  -- a line that may have another one
  label_there : (labelled : Bool) (number target : ℕ) (mark : Bool) (instr : NamedInstr) (lines : List CodeLine) → number < 15 → target < 15 → (target ≡ number → ⊥) →
      label_at number (record { label = label_where labelled number; mark = mark; instr = Some instr } ∷ lines) (label_word target) ≡ label_at (number + 1) lines (label_word target)
  label_there true number target mark instr lines small target_small apart = rw (labels_differ target number target_small small apart) refl
  label_there false number target mark instr lines small target_small apart = refl

  -- the label of an instruction to which a jump goes stands at it
  label_at-lines : (rest : List MarkedInstr) (number target : ℕ) → number ≤ target → target < number + length rest → number + length rest ≤ 15 → is_target whole target ≡ true → label_at number (lines_at number rest) (label_word target) ≡ Some target
  label_at-lines [] number target low high inside is = absurd (omega arith)
  label_at-lines (marked ∷ rest) number target low high inside is =
      elim (cases_eq target number) [
        | inl here ↦ subst (λ (n : ℕ). label_at number (lines_at number (marked ∷ rest)) (label_word n) ≡ Some n) (sym here) (label_here number marked (lines_at (number + 1) rest) (subst (λ (n : ℕ). is_target whole n ≡ true) here is))
        | inr later ↦
            label_there (is_target whole number) number target marked.mark (named marked.instr) (lines_at (number + 1) rest) (omega arith) (omega arith) later
            ∙ label_at-lines rest (number + 1) target (omega arith) (omega arith) (omega arith) is
      ]

  -- an instruction to which a jump of the program goes
  target_of : (prefix rest : List MarkedInstr) (marked : MarkedInstr) (number : ℕ) → whole ≡ prefix ++ marked ∷ rest → jumps_to number marked.instr ≡ true → is_target whole number ≡ true
  target_of prefix rest marked number is goes =
      ap (λ (program : List MarkedInstr). is_target program number) is ∙ list_any-append (λ m. jumps_to number m.instr) prefix (marked ∷ rest)
      ∙ or_right (list_any (λ m. jumps_to number m.instr) prefix) (list_any (λ m. jumps_to number m.instr) (marked ∷ rest)) (rw goes refl)

  -- the lines of the whole program
  abbrev all_lines : List CodeLine
  all_lines = lines_at 0 whole

  -- the number of a label
  label_number-lines : (number : ℕ) → number < length whole → is_target whole number ≡ true → label_number all_lines (label_word number) ≡ Some number
  label_number-lines number inside target =
      ap (option_map (wrapped (instr_count all_lines))) (label_at-lines whole 0 number (omega arith) (omega arith) (omega arith) target)
      ∙ ap (λ (b : Bool). Some (cond b 0 number)) (ne_eqb number (instr_count all_lines) (λ e. omega (arith, instr_count-lines whole 0)))

  -- an instruction of the program is found behind its labels
  resolved-named : (prefix rest : List MarkedInstr) (mark : Bool) (instr : Instr) → whole ≡ prefix ++ record { instr = instr; mark = mark } ∷ rest → JumpsWithin (length whole) instr → resolved all_lines (named instr) ≡ Some instr
  resolved-named prefix rest mark Nop is within = refl
  resolved-named prefix rest mark (Mov source dest) is within = refl
  resolved-named prefix rest mark Swp is within = refl
  resolved-named prefix rest mark Sav is within = refl
  resolved-named prefix rest mark (Add source) is within = refl
  resolved-named prefix rest mark (Sub source) is within = refl
  resolved-named prefix rest mark Neg is within = refl
  resolved-named prefix rest mark (Jump jump number) is within =
      ap (option_map (λ n. Jump jump n)) (label_number-lines number within (target_of prefix rest (record { instr = Jump jump number; mark = mark }) number is (eq-eqb number number refl)))
  resolved-named prefix rest mark (Jro source) is within = refl

  -- what the lines say is the program
  program-read : (rest : List MarkedInstr) (number at : ℕ) (prefix : List MarkedInstr) → whole ≡ prefix ++ rest → JumpWithin (length whole) rest → program_of all_lines at (lines_at number rest) ≡ Ok rest
  program-read [] number at prefix is sound = refl
  program-read (marked ∷ rest) number at prefix is sound =
      ap (λ (found : Option Instr). with_instr at marked.mark found (program_of all_lines (at + 1) (lines_at (number + 1) rest))) (resolved-named prefix rest marked.mark marked.instr is sound.0)
      ∙ ap (with_instr at marked.mark (Some marked.instr)) (program-read rest (number + 1) (at + 1) (prefix ++ marked ∷ []) (is ∙ sym (append_assoc prefix (marked ∷ []) rest)) sound.1)

  -- each line is plain
  lines_are_plain : (rest : List MarkedInstr) (number : ℕ) → number + length rest ≤ 15 → HasValues rest → JumpWithin (length whole) rest → list_all is_plain_line (lines_from whole number rest) ≡ true
  lines_are_plain [] number inside are sound = refl
  lines_are_plain (marked ∷ rest) number inside are sound =
      and_from (is_plain_line (line_text whole number marked)) (list_all is_plain_line (lines_from whole (number + 1) rest))
      (clean_is_plain (line_text whole number marked) (line_is_clean (is_target whole number) number marked.mark marked.instr (omega arith) (good_first marked rest are sound)))
      (lines_are_plain rest (number + 1) (omega arith) are.1 sound.1)

-- every line of a program is plain
pub program_is_plain : (program : List MarkedInstr) → length program ≤ 15 → HasValues program → IsSound program → list_all is_plain_line (code_lines program) ≡ true
program_is_plain program few are sound = lines_are_plain program few program 0 (omega arith) are sound

-- ---- all lines

-- blank lines at the end are no code
blanks_gone : (blanks : List (List ℕ)) → list_all is_blank blanks ≡ true → without_blank_end blanks ≡ []
blanks_gone [] blank = refl
blanks_gone (line ∷ lines) blank =
    let parts = and_parts (is_blank line) (list_all is_blank lines) blank in
    ap (onto_code line) (blanks_gone lines parts.1) ∙ ap (λ (b : Bool). cond b [] (line ∷ [])) parts.0

-- a line that isn't blank stays
onto_code-filled : (line : List ℕ) (lines : List (List ℕ)) → is_blank line ≡ false → onto_code line lines ≡ line ∷ lines
onto_code-filled line [] filled = ap (λ (b : Bool). cond b [] (line ∷ [])) filled
onto_code-filled line (next ∷ lines) filled = refl

-- a line isn't blank, with a label or a mark or neither
marked_is_filled : (mark : Bool) (instr : Instr) → is_blank (mark_text mark ++ instr_text instr) ≡ false
marked_is_filled true instr = refl
marked_is_filled false Nop = refl
marked_is_filled false (Mov source dest) = refl
marked_is_filled false Swp = refl
marked_is_filled false Sav = refl
marked_is_filled false (Add source) = refl
marked_is_filled false (Sub source) = refl
marked_is_filled false Neg = refl
marked_is_filled false (Jump jump number) = jump_is_filled jump number
  where
    jump_is_filled : (jump : JumpKind) (number : ℕ) → is_blank (instr_text (Jump jump number)) ≡ false
    jump_is_filled jumps.Always number = refl
    jump_is_filled jumps.IfZero number = refl
    jump_is_filled jumps.IfNotZero number = refl
    jump_is_filled jumps.IfPositive number = refl
    jump_is_filled jumps.IfNegative number = refl
marked_is_filled false (Jro source) = refl

labelled_is_filled : (labelled : Bool) (number : ℕ) (mark : Bool) (instr : Instr) → is_blank (label_text labelled number ++ mark_text mark ++ instr_text instr) ≡ false
labelled_is_filled true number mark instr = refl
labelled_is_filled false number mark instr = marked_is_filled mark instr

-- no line of a program is blank
pub line_is_filled : (whole : List MarkedInstr) (number : ℕ) (marked : MarkedInstr) → is_blank (line_text whole number marked) ≡ false
line_is_filled whole number marked = labelled_is_filled (is_target whole number) number marked.mark marked.instr

-- the code of a program ends with its last instruction
code_stays : (whole rest : List MarkedInstr) (number : ℕ) (blanks : List (List ℕ)) → list_all is_blank blanks ≡ true → without_blank_end (lines_from whole number rest ++ blanks) ≡ lines_from whole number rest
code_stays whole [] number blanks blank = blanks_gone blanks blank
code_stays whole (marked ∷ rest) number blanks blank =
    ap (onto_code (line_text whole number marked)) (code_stays whole rest (number + 1) blanks blank) ∙ onto_code-filled (line_text whole number marked) (lines_from whole (number + 1) rest) (line_is_filled whole number marked)

-- there are as many lines as instructions
length-lines : (whole rest : List MarkedInstr) (number : ℕ) → length (lines_from whole number rest) ≡ length rest
length-lines whole [] number = refl
length-lines whole (marked ∷ rest) number = omega (arith, length-lines whole rest (number + 1))

-- lines that are few enough are read in turn
few_lines : (lines : List (List ℕ)) (code : List (List ℕ)) → without_blank_end lines ≡ code → length code ≤ 15 → assembled_lines lines ≡ program_where (lines_read 1 [] code)
few_lines lines code is few =
    ap (λ (c : List (List ℕ)). cond (nat_lt 15 (length c)) (Err TooManyLines) (program_where (lines_read 1 [] c))) is ∙ ap (λ (many : Bool). cond many (Err TooManyLines) (program_where (lines_read 1 [] code))) (le-ltb 15 (length code) few)

-- what is written line by line is read as the program, whatever blank lines follow
pub lines_read_back : LinesReadBack
lines_read_back program blanks few are sound blank =
    few_lines (code_lines program ++ blanks) (code_lines program) (code_stays program program 0 blanks blank) (omega (arith, length-lines program program 0))
    ∙ ap program_where (lines-read program few program 0 [] (omega arith) are sound (λ later low inside. refl))
    ∙ program-read program few program 0 1 [] refl sound

-- what is written of a program is read as the program
pub programs_read_back : ProgramsReadBack
programs_read_back program few are sound =
    ap assembled_lines (text_lines-text_of_lines (code_lines program) (program_is_plain program few are sound) ∙ sym (append-nil (code_lines program))) ∙ lines_read_back program [] few are sound refl
