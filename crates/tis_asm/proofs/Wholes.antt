-- What is read and gathered line after line is the program that all lines spell.
use Rattle.std.proofs.Common.{◌≡◌, ℕ, zero, suc, ◌<◌, ◌≤◌, Bool, true, false, cond, inl, inr, List, [], ◌∷◌, map, length, take, refl, sym, ap, subst, ◌∙◌, arith}
use Rattle.std.specs.Prelude.{Result, Ok, Err, IfOk, min, nat_lt}
use Rattle.std.proofs.lemmas.Bool.{cases_Bool}
use Rattle.std.proofs.lemmas.List.{take-map}
use Rattle.std.proofs.lemmas.Bool.Decides.{nat_tests}
use Rattle.tis_asm.specs.declared.source_line.SourceLine.{SourceLine as HeldSource}
use Rattle.tis_asm.specs.declared.program.MarkedInstr.{MarkedInstr}
use Rattle.tis_asm.specs.declared.error.AsmError.{AsmError}
use Rattle.tis_asm.specs.Assembling.{AsmRefusal, TooManyLines, is_blank, onto_code, without_blank_end, lines_read, program_where, assembled_lines}
use Rattle.tis_asm.specs.Programs.{IsSound}
use Rattle.tis_asm.specs.Held.{Refuses, Answers}
use Rattle.tis_asm.specs.LineView.{Source, source_of, source_view}
use Rattle.tis_asm.specs.ReadCode.{ReadCode, nothing_read, code_read, program_read, program_where_read}
use Rattle.tis_asm.proofs.Steps.{same_refusal}
use Rattle.tis_asm.proofs.ReadCode.{read_is_program}
use Rattle.tis_asm.proofs.Soundness.{assembled_are_whole}

-- ---- all lines

-- the lines without the blank ones at the end are the first ones
front_is : (lines : List (List ℕ)) → take (length (without_blank_end lines)) lines ≡ without_blank_end lines
front_is [] = refl
front_is (line ∷ lines) = by_rest (without_blank_end lines) (front_is lines)
  where
    by_blank : (b : Bool) → take (length (cond b [] (line ∷ []))) (line ∷ lines) ≡ cond b [] (line ∷ [])
    by_blank true = refl
    by_blank false = refl

    by_rest : (rest : List (List ℕ)) → take (length rest) lines ≡ rest → take (length (onto_code line rest)) (line ∷ lines) ≡ onto_code line rest
    by_rest [] is = by_blank (is_blank line)
    by_rest (next ∷ rest) is = ap (λ (l : List (List ℕ)). line ∷ l) is

-- what the first so many lines spell, where that are all lines up to the last one that isn't blank
abbrev pub first_program : ℕ → List Source → Result (List MarkedInstr) AsmRefusal
first_program count sources = cond (nat_lt 15 count) (Err TooManyLines) (program_where_read (code_read 1 (Ok nothing_read) (take count sources)))

-- they spell what all lines do
pub first_are_all : (lines : List (List ℕ)) → first_program (min 16 (length (without_blank_end lines))) (map source_of lines) ≡ assembled_lines lines
first_are_all lines = by_number (length (without_blank_end lines)) (front_is lines)
  where
    by_number : (n : ℕ) → take n lines ≡ without_blank_end lines → first_program (min 16 n) (map source_of lines) ≡ cond (nat_lt 15 n) (Err TooManyLines) (program_where (lines_read 1 [] (without_blank_end lines)))
    by_number n is = elim (cases_Bool (nat_lt 15 n)) [
      | inl many ↦ many_lines n many
      | inr few ↦ few_lines n few is
    ]
      where
        over : (n : ℕ) → nat_lt 15 n ≡ true → nat_lt 15 (min 16 n) ≡ true
        over n many = grind (arith, nat_tests)

        exact : (n : ℕ) → nat_lt 15 n ≡ false → min 16 n ≡ n
        exact n few = grind (arith, nat_tests)

        many_lines : (n : ℕ) → nat_lt 15 n ≡ true → first_program (min 16 n) (map source_of lines) ≡ cond (nat_lt 15 n) (Err TooManyLines) (program_where (lines_read 1 [] (without_blank_end lines)))
        many_lines n many =
            ap (λ (b : Bool). cond b (Err TooManyLines) (program_where_read (code_read 1 (Ok nothing_read) (take (min 16 n) (map source_of lines))))) (over n many)
            ∙ sym (ap (λ (b : Bool). cond b (Err TooManyLines) (program_where (lines_read 1 [] (without_blank_end lines)))) many)

        few_lines : (n : ℕ) → nat_lt 15 n ≡ false → take n lines ≡ without_blank_end lines → first_program (min 16 n) (map source_of lines) ≡ cond (nat_lt 15 n) (Err TooManyLines) (program_where (lines_read 1 [] (without_blank_end lines)))
        few_lines n few is =
            ap (λ (c : ℕ). first_program c (map source_of lines)) (exact n few)
            ∙ ap (λ (l : List Source). cond (nat_lt 15 n) (Err TooManyLines) (program_where_read (code_read 1 (Ok nothing_read) l))) (take-map source_of n lines ∙ ap (map source_of) is)
            ∙ ap (λ (r : Result (List MarkedInstr) AsmRefusal). cond (nat_lt 15 n) (Err TooManyLines) r) (read_is_program (without_blank_end lines))

-- ---- what an assembler answers

min_none : (b : ℕ) → min 0 b ≡ 0
min_none b = omega arith

min_left : (a : ℕ) → min a 0 ≡ 0
min_left a = omega arith

min_both : (a b : ℕ) → min (suc a) (suc b) ≡ suc (min a b)
min_both a b = omega arith

take_min : {X : Type 0} (n : ℕ) (xs : List X) → take (min n (length xs)) xs ≡ take n xs
take_min zero xs = ap (λ (k : ℕ). take k xs) (min_none (length xs))
take_min {X = X} (suc n) [] = ap (λ (k : ℕ). take {A = X} k []) (min_left (suc n))
take_min (suc n) (x ∷ xs) = ap (λ (k : ℕ). take k (x ∷ xs)) (min_both n (length xs)) ∙ ap (λ l. x ∷ l) (take_min n xs)

-- the first so many of the lines that are held
held_first : (count n : ℕ) (items held : List HeldSource) → n ≡ min count (length items) → held ≡ take n items → take count (map source_view items) ≡ map source_view held
held_first count n items held n_is is = take-map source_view count items ∙ ap (map source_view) (sym (take_min count items) ∙ ap (λ (k : ℕ). take k items) (sym n_is) ∙ sym is)

few : (count : ℕ) → count ≤ 15 → nat_lt 15 count ≡ false
few count le = grind (arith, nat_tests)

pub too_many : (count : ℕ) (sources : List Source) → 15 < count → first_program count sources ≡ Err TooManyLines
too_many count sources lt = ap (λ (b : Bool). cond b (Err TooManyLines) (program_where_read (code_read 1 (Ok nothing_read) (take count sources)))) (many count lt)
  where
    many : (count : ℕ) → 15 < count → nat_lt 15 count ≡ true
    many count lt = grind (arith, nat_tests)

first_is : (count n : ℕ) (items held : List HeldSource) → count ≤ 15 → n ≡ min count (length items) → held ≡ take n items → first_program count (map source_view items) ≡ program_where_read (code_read 1 (Ok nothing_read) (map source_view held))
first_is count n items held le n_is is =
    ap (λ (b : Bool). cond b (Err TooManyLines) (program_where_read (code_read 1 (Ok nothing_read) (take count (map source_view items))))) (few count le)
    ∙ ap (λ (l : List Source). program_where_read (code_read 1 (Ok nothing_read) l)) (held_first count n items held n_is is)

-- a refusal of the lines is one of the program
pub lines_refused : (count n : ℕ) (items held : List HeldSource) (error : AsmError) → count ≤ 15 → n ≡ min count (length items) → held ≡ take n items → Refuses error (code_read 1 (Ok nothing_read) (map source_view held)) → Refuses error (first_program count (map source_view items))
lines_refused count n items held error le n_is is refuses =
    same_refusal error (code_read 1 (Ok nothing_read) (map source_view held)) (first_program count (map source_view items)) (λ refusal found. first_is count n items held le n_is is ∙ ap program_where_read found) refuses

-- what was read of the lines is the program
pub lines_assembled : (count n : ℕ) (items held : List HeldSource) (code : ReadCode) (answer : Result (List MarkedInstr) AsmError) → count ≤ 15 → n ≡ min count (length items) → held ≡ take n items → code_read 1 (Ok nothing_read) (map source_view held) ≡ Ok code → Answers (λ p. p) answer (program_read code) → Answers (λ p. p) answer (first_program count (map source_view items))
lines_assembled count n items held code answer le n_is is read =
    subst (λ (r : Result (List MarkedInstr) AsmRefusal). Answers (λ p. p) answer r) (sym (first_is count n items held le n_is is ∙ ap program_where_read read))

-- what a call gives of the lines of a text is sound
pub answer_sound : (lines : List (List ℕ)) (answer : Result (List MarkedInstr) AsmError) → Answers (λ p. p) answer (assembled_lines lines) → IfOk answer (λ p. IsSound p)
answer_sound lines (Ok program) is = (assembled_are_whole lines program is).sound
answer_sound lines (Err error) is = tt
