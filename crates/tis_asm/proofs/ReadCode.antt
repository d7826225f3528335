-- What is read line by line, with a table of labels, is what all lines spell.
use Rattle.std.proofs.Common.{◌≡◌, ℕ, ◌+◌, Bool, true, false, cond, List, [], ◌∷◌, ◌++◌, map, length, refl, sym, ap, ◌∙◌, arith, append_assoc, append-nil, length-append}
use Rattle.std.specs.Prelude.{Option, Some, None, option_map, Result, Ok, Err, is_some, slice_set, ◌||◌}
use Rattle.std.specs.List.{list_any}
use Rattle.std.specs.Option.{option_or}
use Rattle.std.specs.Str.{bytes_eq}
use Rattle.std.proofs.Math.Seq.{set-append_seam}
use Rattle.tis_asm.specs.declared.instr.Jump.{Jump as JumpKind}
use Rattle.tis_asm.specs.declared.instr.Instr.{Instr}
use Rattle.tis_asm.specs.declared.instr.Instr.TheVariants.{Jump}
use Rattle.tis_asm.specs.declared.program.MarkedInstr.{MarkedInstr}
use Rattle.tis_asm.specs.Assembling.{AsmRefusal, RepeatedLabel, UnknownLabel, NamedInstr, Plain, JumpTo, CodeLine, line_read, repeats, with_label, with_rest, with_line, lines_read, count_of, instr_count, is_named, label_at, wrapped, label_number, with_instr, onto_program, program_of, program_where}
use Rattle.tis_asm.specs.LineView.{source_of}
use Rattle.tis_asm.specs.ReadCode.{Labels, label_in, NamedJump, ReadCode, nothing_read, is_above, label_added, instr_added, line_added, code_read, jump_set, number_in, jumps_set, program_read, program_where_read}
use Rattle.tis_asm.proofs.Steps.{refused_code, refused_jumps}

-- ---- the parts of what was read, by lines

-- the instruction of a line, whose jump goes nowhere yet
abbrev pub waiting_instr : Bool → Option NamedInstr → List MarkedInstr
waiting_instr mark None = []
waiting_instr mark (Some (Plain instr)) = record { instr = instr; mark = mark } ∷ []
waiting_instr mark (Some (JumpTo jump label)) = record { instr = Jump jump 0; mark = mark } ∷ []

abbrev pub waiting : List CodeLine → List MarkedInstr
waiting [] = []
waiting (line ∷ lines) = waiting_instr line.mark line.instr ++ waiting lines

-- the jump of a line with this number, at this place among the instructions
abbrev pub jump_at : ℕ → ℕ → Bool → Option NamedInstr → List NamedJump
jump_at number place mark None = []
jump_at number place mark (Some (Plain instr)) = []
jump_at number place mark (Some (JumpTo jump label)) = record { line = number; place = place; mark = mark; jump = jump; label = label } ∷ []

abbrev pub jumps_at : ℕ → ℕ → List CodeLine → List NamedJump
jumps_at number place [] = []
jumps_at number place (line ∷ lines) = jump_at number place line.mark line.instr ++ jumps_at (number + 1) (place + count_of line.instr) lines

-- what was read are these lines: with any behind them, all that comes of them is what was read, and then what comes of those
pub record AreRead (above : List CodeLine) (code : ReadCode) : Type 0 where
  instrs : (rest : List CodeLine) → waiting (above ++ rest) ≡ code.program ++ waiting rest
  jumps : (rest : List CodeLine) → jumps_at 1 0 (above ++ rest) ≡ code.jumps ++ jumps_at (length above + 1) (length code.program) rest
  labels : (rest : List CodeLine) (label : List ℕ) → label_at 0 (above ++ rest) label ≡ option_or (label_in code.labels label) (label_at (length code.program) rest label)

pub none_read : AreRead [] nothing_read
none_read = record { instrs = λ rest. refl; jumps = λ rest. refl; labels = λ rest label. refl }

-- ---- one line more

-- a label that goes last is found where none above it is
found_last : (labels : Labels) (other label : List ℕ) (count : ℕ) → label_in (labels ++ (other, count) ∷ []) label ≡ option_or (label_in labels label) (cond (bytes_eq label other) (Some count) None)
found_last [] other label count = refl
found_last (first ∷ labels) other label count = by_test (bytes_eq label first.0) (found_last labels other label count)
  where
    by_test : (b : Bool) → label_in (labels ++ (other, count) ∷ []) label ≡ option_or (label_in labels label) (cond (bytes_eq label other) (Some count) None) → cond b (Some first.1) (label_in (labels ++ (other, count) ∷ []) label) ≡ option_or (cond b (Some first.1) (label_in labels label)) (cond (bytes_eq label other) (Some count) None)
    by_test true rest = refl
    by_test false rest = rest

found_or : (found rest : Option ℕ) (b : Bool) (count : ℕ) → option_or found (cond b (Some count) rest) ≡ option_or (option_or found (cond b (Some count) None)) rest
found_or None rest true count = refl
found_or None rest false count = refl
found_or (Some n) rest b count = refl

label_more : (labels : Labels) (other : Option (List ℕ)) (label : List ℕ) (count : ℕ) (rest : Option ℕ) → option_or (label_in labels label) (cond (is_named label other) (Some count) rest) ≡ option_or (label_in (label_added labels other count) label) rest
label_more labels None label count rest = refl
label_more labels (Some other) label count rest = found_or (label_in labels label) rest (bytes_eq label other) count ∙ ap (λ (found : Option ℕ). option_or found rest) (sym (found_last labels other label count))

module _ (number : ℕ) (line : CodeLine) (code : ReadCode) where
  -- what was read with the line
  abbrev more : ReadCode
  more = instr_added number line.mark line.instr (record code { labels = label_added code.labels line.label (length code.program) })

  instrs_more : (rest : List MarkedInstr) → code.program ++ (waiting_instr line.mark line.instr ++ rest) ≡ more.program ++ rest
  instrs_more rest = by line.instr
    where
      by : (instr : Option NamedInstr) → code.program ++ (waiting_instr line.mark instr ++ rest) ≡ (instr_added number line.mark instr (record code { labels = label_added code.labels line.label (length code.program) })).program ++ rest
      by None = refl
      by (Some (Plain instr)) = sym (append_assoc code.program (record { instr = instr; mark = line.mark } ∷ []) rest)
      by (Some (JumpTo jump label)) = sym (append_assoc code.program (record { instr = Jump jump 0; mark = line.mark } ∷ []) rest)

  place_more : length code.program + count_of line.instr ≡ length more.program
  place_more = by line.instr
    where
      by : (instr : Option NamedInstr) → length code.program + count_of instr ≡ length (instr_added number line.mark instr (record code { labels = label_added code.labels line.label (length code.program) })).program
      by None = omega arith
      by (Some (Plain instr)) = sym (length-append code.program (record { instr = instr; mark = line.mark } ∷ []))
      by (Some (JumpTo jump label)) = sym (length-append code.program (record { instr = Jump jump 0; mark = line.mark } ∷ []))

  jumps_more : (rest : List NamedJump) → code.jumps ++ (jump_at number (length code.program) line.mark line.instr ++ rest) ≡ more.jumps ++ rest
  jumps_more rest = by line.instr
    where
      by : (instr : Option NamedInstr) → code.jumps ++ (jump_at number (length code.program) line.mark instr ++ rest) ≡ (instr_added number line.mark instr (record code { labels = label_added code.labels line.label (length code.program) })).jumps ++ rest
      by None = refl
      by (Some (Plain instr)) = refl
      by (Some (JumpTo jump label)) = sym (append_assoc code.jumps (record { line = number; place = length code.program; mark = line.mark; jump = jump; label = label } ∷ []) rest)

  labels_stay : more.labels ≡ label_added code.labels line.label (length code.program)
  labels_stay = by line.instr
    where
      by : (instr : Option NamedInstr) → (instr_added number line.mark instr (record code { labels = label_added code.labels line.label (length code.program) })).labels ≡ label_added code.labels line.label (length code.program)
      by None = refl
      by (Some (Plain instr)) = refl
      by (Some (JumpTo jump label)) = refl

  -- the lines above, and this one, are read
  pub one_more : (above : List CodeLine) → number ≡ length above + 1 → AreRead above code → AreRead (above ++ line ∷ []) more
  one_more above number_is read =
      let longer : number + 1 ≡ length (above ++ line ∷ []) + 1 = omega (arith, number_is, length-append above (line ∷ [])) in
      record {
        instrs = λ rest. ap waiting (append_assoc above (line ∷ []) rest) ∙ read.instrs (line ∷ rest) ∙ instrs_more (waiting rest);
        jumps = λ rest. ap (jumps_at 1 0) (append_assoc above (line ∷ []) rest) ∙ read.jumps (line ∷ rest)
            ∙ ap (λ (n : ℕ). code.jumps ++ (jump_at n (length code.program) line.mark line.instr ++ jumps_at (n + 1) (length code.program + count_of line.instr) rest)) (sym number_is)
            ∙ jumps_more (jumps_at (number + 1) (length code.program + count_of line.instr) rest)
            ∙ ap (λ (p : ℕ). more.jumps ++ jumps_at (number + 1) p rest) place_more
            ∙ ap (λ (n : ℕ). more.jumps ++ jumps_at n (length more.program) rest) longer;
        labels = λ rest label. ap (λ (l : List CodeLine). label_at 0 l label) (append_assoc above (line ∷ []) rest) ∙ read.labels (line ∷ rest) label
            ∙ label_more code.labels line.label label (length code.program) (label_at (length code.program + count_of line.instr) rest label)
            ∙ ap (λ (l : Labels). option_or (label_in l label) (label_at (length code.program + count_of line.instr) rest label)) (sym labels_stay)
            ∙ ap (λ (p : ℕ). option_or (label_in more.labels label) (label_at p rest label)) place_more;
      }

-- ---- the jumps go where their labels stand

-- lines, or instructions, in front of those that follow
abbrev pub in_front : {X : Type 0} → List X → Result (List X) AsmRefusal → Result (List X) AsmRefusal
in_front front (Err refusal) = Err refusal
in_front front (Ok rest) = Ok (front ++ rest)

in_front_instr : (number : ℕ) (mark : Bool) (instr : Instr) (program : List MarkedInstr) (rest : Result (List MarkedInstr) AsmRefusal) → in_front (program ++ record { instr = instr; mark = mark } ∷ []) rest ≡ in_front program (with_instr number mark (Some instr) rest)
in_front_instr number mark instr program (Err refusal) = refl
in_front_instr number mark instr program (Ok rest) = ap (λ (l : List MarkedInstr). Ok l) (append_assoc program (record { instr = instr; mark = mark } ∷ []) rest)

-- where the instructions so far and those of lines are all, and each jump of the lines goes where its label stands, this is their program
abbrev Go : List CodeLine → Labels → List CodeLine → ℕ → List MarkedInstr → Type 0
Go all labels lines number program = length (program ++ waiting lines) ≡ instr_count all → jumps_set labels (Ok (program ++ waiting lines)) (jumps_at number (length program) lines) ≡ in_front program (program_of all number lines)

module _ (all : List CodeLine) (labels : Labels) (same : (label : List ℕ) → label_in labels label ≡ label_at 0 all label) (line : CodeLine) (lines : List CodeLine) (number : ℕ) (program : List MarkedInstr) (go : (program : List MarkedInstr) → Go all labels lines (number + 1) program) where
  -- the instruction stands behind the program, and the lines behind it follow
  with_one : (instr : Instr) → length (program ++ record { instr = instr; mark = line.mark } ∷ waiting lines) ≡ instr_count all → jumps_set labels (Ok (program ++ record { instr = instr; mark = line.mark } ∷ waiting lines)) (jumps_at (number + 1) (length program + 1) lines) ≡ in_front program (with_instr number line.mark (Some instr) (program_of all (number + 1) lines))
  with_one instr count =
      let one = record { instr = instr; mark = line.mark } ∷ [] in
      ap (λ (p : ℕ). jumps_set labels (Ok (program ++ record { instr = instr; mark = line.mark } ∷ waiting lines)) (jumps_at (number + 1) p lines)) (sym (length-append program one))
      ∙ ap (λ (l : List MarkedInstr). jumps_set labels (Ok l) (jumps_at (number + 1) (length (program ++ one)) lines)) (sym (append_assoc program one (waiting lines)))
      ∙ go (program ++ one) (ap (λ (l : List MarkedInstr). length l) (append_assoc program one (waiting lines)) ∙ count)
      ∙ in_front_instr number line.mark instr program (program_of all (number + 1) lines)

  -- the instructions with a jump that goes nowhere yet
  abbrev held : JumpKind → List MarkedInstr
  held jump = program ++ record { instr = Jump jump 0; mark = line.mark } ∷ waiting lines

  abbrev this : JumpKind → List ℕ → NamedJump
  this jump label = record { line = number; place = length program; mark = line.mark; jump = jump; label = label }

  number_is : (jump : JumpKind) (label : List ℕ) → length (held jump) ≡ instr_count all → number_in labels (length (held jump)) label ≡ label_number all label
  number_is jump label count = ap (λ (n : ℕ). option_map (wrapped n) (label_in labels label)) count ∙ ap (option_map (wrapped (instr_count all))) (same label)

  set_is : (jump : JumpKind) (target : ℕ) → slice_set (held jump) (length program) (record { instr = Jump jump target; mark = line.mark }) ≡ program ++ record { instr = Jump jump target; mark = line.mark } ∷ waiting lines
  set_is jump target = set-append_seam program (record { instr = Jump jump 0; mark = line.mark }) (waiting lines) (record { instr = Jump jump target; mark = line.mark })

  as_long : (jump : JumpKind) (target : ℕ) → length (program ++ record { instr = Jump jump target; mark = line.mark } ∷ waiting lines) ≡ length (held jump)
  as_long jump target = length-append program (record { instr = Jump jump target; mark = line.mark } ∷ waiting lines) ∙ sym (length-append program (record { instr = Jump jump 0; mark = line.mark } ∷ waiting lines))

  by_target : (jump : JumpKind) (label : List ℕ) (target : Option ℕ) → length (held jump) ≡ instr_count all → jumps_set labels (jump_set (this jump label) (held jump) target) (jumps_at (number + 1) (length program + 1) lines) ≡ in_front program (with_instr number line.mark (option_map (λ n. Jump jump n) target) (program_of all (number + 1) lines))
  by_target jump label None count = refused_jumps labels (UnknownLabel number) (jumps_at (number + 1) (length program + 1) lines)
  by_target jump label (Some target) count =
      ap (λ (l : List MarkedInstr). jumps_set labels (Ok l) (jumps_at (number + 1) (length program + 1) lines)) (set_is jump target)
      ∙ with_one (Jump jump target) (as_long jump target ∙ count)

  by_instr : (instr : Option NamedInstr) → length (program ++ (waiting_instr line.mark instr ++ waiting lines)) ≡ instr_count all → jumps_set labels (Ok (program ++ (waiting_instr line.mark instr ++ waiting lines))) (jump_at number (length program) line.mark instr ++ jumps_at (number + 1) (length program + count_of instr) lines) ≡ in_front program (onto_program all number line.mark instr (program_of all (number + 1) lines))
  by_instr None count = ap (λ (p : ℕ). jumps_set labels (Ok (program ++ waiting lines)) (jumps_at (number + 1) p lines)) (omega arith) ∙ go program count
  by_instr (Some (Plain instr)) count = with_one instr count
  by_instr (Some (JumpTo jump label)) count =
      ap (λ (target : Option ℕ). jumps_set labels (jump_set (this jump label) (held jump) target) (jumps_at (number + 1) (length program + 1) lines)) (number_is jump label count)
      ∙ by_target jump label (label_number all label) count

jumps_go : (all : List CodeLine) (labels : Labels) → ((label : List ℕ) → label_in labels label ≡ label_at 0 all label) → (lines : List CodeLine) (number : ℕ) (program : List MarkedInstr) → Go all labels lines number program
jumps_go all labels same [] number program count = refl
jumps_go all labels same (line ∷ lines) number program count = by_instr all labels same line lines number program (λ p. jumps_go all labels same lines (number + 1) p) line.instr count

-- as many instructions wait as there are
waiting_count : (lines : List CodeLine) → length (waiting lines) ≡ instr_count lines
waiting_count [] = refl
waiting_count (line ∷ lines) = length-append (waiting_instr line.mark line.instr) (waiting lines) ∙ by line.instr (waiting_count lines)
  where
    by : (instr : Option NamedInstr) → length (waiting lines) ≡ instr_count lines → length (waiting_instr line.mark instr) + length (waiting lines) ≡ count_of instr + instr_count lines
    by None rest = omega arith
    by (Some (Plain instr)) rest = omega arith
    by (Some (JumpTo jump label)) rest = omega arith

in_front_none : {X : Type 0} (rest : Result (List X) AsmRefusal) → in_front [] rest ≡ rest
in_front_none (Err refusal) = refl
in_front_none (Ok rest) = refl

or_none : (found : Option ℕ) → option_or found None ≡ found
or_none None = refl
or_none (Some n) = refl

-- what was read of all lines is their program
whole_read : (all : List CodeLine) (code : ReadCode) → AreRead all code → program_read code ≡ program_of all 1 all
whole_read all code read =
    let instrs : waiting all ≡ code.program = ap waiting (sym (append-nil all)) ∙ read.instrs [] ∙ append-nil code.program in
    let jumps : jumps_at 1 0 all ≡ code.jumps = ap (jumps_at 1 0) (sym (append-nil all)) ∙ read.jumps [] ∙ append-nil code.jumps in
    let same : (label : List ℕ) → label_in code.labels label ≡ label_at 0 all label = λ label. sym (ap (λ (l : List CodeLine). label_at 0 l label) (sym (append-nil all)) ∙ read.labels [] label ∙ or_none (label_in code.labels label)) in
    ap (λ (p : List MarkedInstr). jumps_set code.labels (Ok p) code.jumps) (sym instrs)
    ∙ ap (λ (j : List NamedJump). jumps_set code.labels (Ok (waiting all)) j) (sym jumps)
    ∙ jumps_go all code.labels same all 1 [] (waiting_count all)
    ∙ in_front_none (program_of all 1 all)

-- ---- a label stands above, or doesn't

-- the labels of these lines
abbrev labels_of : List CodeLine → List (List ℕ)
labels_of [] = []
labels_of (line ∷ lines) = with_label [] line.label ++ labels_of lines

labels_more : (lines : List CodeLine) (line : CodeLine) → labels_of (lines ++ line ∷ []) ≡ with_label (labels_of lines) line.label
labels_more [] line = alone line.label
  where
    alone : (label : Option (List ℕ)) → with_label [] label ++ [] ≡ with_label [] label
    alone None = refl
    alone (Some label) = refl
labels_more (first ∷ lines) line = ap (λ (l : List (List ℕ)). with_label [] first.label ++ l) (labels_more lines line) ∙ behind line.label
  where
    behind : (label : Option (List ℕ)) → with_label [] first.label ++ with_label (labels_of lines) label ≡ with_label (with_label [] first.label ++ labels_of lines) label
    behind None = refl
    behind (Some label) = sym (append_assoc (with_label [] first.label) (labels_of lines) (label ∷ []))

found_is : (count : ℕ) (lines : List CodeLine) (label : List ℕ) → is_some (label_at count lines label) ≡ list_any (bytes_eq label) (labels_of lines)
found_is count [] label = refl
found_is count (line ∷ lines) label = by_label line.label (found_is (count + count_of line.instr) lines label)
  where
    by_test : (b : Bool) → is_some (label_at (count + count_of line.instr) lines label) ≡ list_any (bytes_eq label) (labels_of lines) → is_some (cond b (Some count) (label_at (count + count_of line.instr) lines label)) ≡ (b || list_any (bytes_eq label) (labels_of lines))
    by_test true rest = refl
    by_test false rest = rest

    by_label : (other : Option (List ℕ)) → is_some (label_at (count + count_of line.instr) lines label) ≡ list_any (bytes_eq label) (labels_of lines) → is_some (cond (is_named label other) (Some count) (label_at (count + count_of line.instr) lines label)) ≡ list_any (bytes_eq label) (with_label [] other ++ labels_of lines)
    by_label None rest = rest
    by_label (Some other) rest = by_test (bytes_eq label other) rest

above_is : (above : List CodeLine) (code : ReadCode) → AreRead above code → (label : Option (List ℕ)) → is_above code.labels label ≡ repeats (labels_of above) label
above_is above code read None = refl
above_is above code read (Some label) = ap is_some (sym (ap (λ (l : List CodeLine). label_at 0 l label) (sym (append-nil above)) ∙ read.labels [] label ∙ or_none (label_in code.labels label))) ∙ found_is 0 above label

-- ---- all lines

in_front_line : (above : List CodeLine) (line : CodeLine) (rest : Result (List CodeLine) AsmRefusal) → in_front (above ++ line ∷ []) rest ≡ in_front above (with_rest line rest)
in_front_line above line (Err refusal) = refl
in_front_line above line (Ok rest) = ap (λ (l : List CodeLine). Ok l) (append_assoc above (line ∷ []) rest)

-- behind lines that were read, the program is that of all lines
lines_are : (number : ℕ) (above : List CodeLine) (code : ReadCode) (lines : List (List ℕ)) → number ≡ length above + 1 → AreRead above code → program_where_read (code_read number (Ok code) (map source_of lines)) ≡ program_where (in_front above (lines_read number (labels_of above) lines))
lines_are number above code [] number_is read = whole_read above code read ∙ ap (λ (l : List CodeLine). program_of l 1 l) (sym (append-nil above))
lines_are number above code (line ∷ lines) number_is read = by_read (line_read number line) (λ l. lines_are (number + 1) (above ++ l ∷ []) (more number l code) lines (longer l) (one_more number l code above number_is read))
  where
    longer : (l : CodeLine) → number + 1 ≡ length (above ++ l ∷ []) + 1
    longer l = omega (arith, number_is, length-append above (l ∷ []))

    by_test : (b : Bool) (l : CodeLine) → program_where_read (code_read (number + 1) (Ok (more number l code)) (map source_of lines)) ≡ program_where (in_front (above ++ l ∷ []) (lines_read (number + 1) (labels_of (above ++ l ∷ [])) lines)) → program_where_read (code_read (number + 1) (cond b (Err (RepeatedLabel number)) (Ok (more number l code))) (map source_of lines)) ≡ program_where (in_front above (cond b (Err (RepeatedLabel number)) (with_rest l (lines_read (number + 1) (with_label (labels_of above) l.label) lines))))
    by_test true l behind = ap program_where_read (refused_code (number + 1) (RepeatedLabel number) (map source_of lines))
    by_test false l behind = behind ∙ ap (λ (labels : List (List ℕ)). program_where (in_front (above ++ l ∷ []) (lines_read (number + 1) labels lines))) (labels_more above l) ∙ ap program_where (in_front_line above l (lines_read (number + 1) (with_label (labels_of above) l.label) lines))

    by_read : (r : Result CodeLine AsmRefusal) → ((l : CodeLine) → program_where_read (code_read (number + 1) (Ok (more number l code)) (map source_of lines)) ≡ program_where (in_front (above ++ l ∷ []) (lines_read (number + 1) (labels_of (above ++ l ∷ [])) lines))) → program_where_read (code_read (number + 1) (line_added number code r) (map source_of lines)) ≡ program_where (in_front above (with_line number (labels_of above) r (λ labels. lines_read (number + 1) labels lines)))
    by_read (Err refusal) behind = ap program_where_read (refused_code (number + 1) refusal (map source_of lines))
    by_read (Ok l) behind = ap (λ (b : Bool). program_where_read (code_read (number + 1) (cond b (Err (RepeatedLabel number)) (Ok (more number l code))) (map source_of lines))) (above_is above code read l.label) ∙ by_test (repeats (labels_of above) l.label) l (behind l)

-- what is read line by line is the program of all lines
pub read_is_program : (lines : List (List ℕ)) → program_where_read (code_read 1 (Ok nothing_read) (map source_of lines)) ≡ program_where (lines_read 1 [] lines)
read_is_program lines = lines_are 1 [] nothing_read lines refl none_read ∙ ap program_where (in_front_none (lines_read 1 [] lines))
