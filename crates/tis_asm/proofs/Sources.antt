-- The lines of a text are counted and gathered, one after the other.
use Rattle.std.proofs.Common.{◌≡◌, ℕ, ◌+◌, ◌<◌, ◌≤◌, Bool, true, false, cond, inl, inr, List, [], ◌∷◌, ◌++◌, map, length, take, refl, sym, ap, ◌∙◌, arith, append_assoc, append-nil, length-append}
use Rattle.std.specs.Prelude.{min, nat_lt, Result, Ok, Err, OnErr}
use Rattle.std.proofs.lemmas.Bool.{cases_Bool}
use Rattle.std.proofs.lemmas.List.{take-append-le}
use Rattle.std.proofs.lemmas.Bool.Decides.{nat_tests}
use Rattle.tis_asm.specs.LineView.{Source, source_of}
use Rattle.tis_asm.specs.ReadCode.{nothing_read, code_read, program_where_read}
use Rattle.tis_asm.specs.Assembling.{TooManyLines, is_blank, onto_code, without_blank_end, assembled_lines}
use Rattle.tis_asm.specs.Gathering.{Gathered, none_gathered, gathered_with, program_behind}
use Rattle.tis_asm.proofs.Wholes.{first_program, first_are_all}

-- how many lines there are up to the last one that isn't blank, where so many were seen and so many of them count; no more than 16
abbrev pub counted : ℕ → ℕ → List (List ℕ) → ℕ
counted count index [] = count
counted count index (line ∷ lines) = counted (cond (is_blank line) count (min 16 (index + 1))) (min 16 (index + 1)) lines

abbrev pub counted_to : ℕ → ℕ → List (List ℕ) → ℕ
counted_to count index [] = count
counted_to count index (line ∷ lines) = min 16 (index + 1 + length lines)

-- it is their number without the blank lines at the end
pub counted_is : (count index : ℕ) (lines : List (List ℕ)) → counted count index lines ≡ counted_to count index (without_blank_end lines)
counted_is count index [] = refl
counted_is count index (line ∷ lines) = counted_is (cond (is_blank line) count (min 16 (index + 1))) (min 16 (index + 1)) lines ∙ by_rest (without_blank_end lines)
  where
    by_blank : (b : Bool) → cond b count (min 16 (index + 1)) ≡ counted_to count index (cond b [] (line ∷ []))
    by_blank true = refl
    by_blank false = omega arith

    by_rest : (rest : List (List ℕ)) → counted_to (cond (is_blank line) count (min 16 (index + 1))) (min 16 (index + 1)) rest ≡ counted_to count index (onto_code line rest)
    by_rest [] = by_blank (is_blank line)
    by_rest (next ∷ rest) = omega arith

pub counted_all : (lines : List (List ℕ)) → counted 0 0 lines ≡ min 16 (length (without_blank_end lines))
counted_all lines = counted_is 0 0 lines ∙ by_front (without_blank_end lines)
  where
    by_front : (front : List (List ℕ)) → counted_to 0 0 front ≡ min 16 (length front)
    by_front [] = omega arith
    by_front (line ∷ front) = omega arith

-- ---- lines that are gathered

-- nothing behind fifteen lines is looked at
fifteen_only : (c : ℕ) (front rest other : List Source) → length front ≡ 15 → first_program c (front ++ rest) ≡ first_program c (front ++ other)
fifteen_only c front rest other full = elim (cases_Bool (nat_lt 15 c)) [
  | inl many ↦ ap (λ (b : Bool). cond b (Err TooManyLines) (program_where_read (code_read 1 (Ok nothing_read) (take c (front ++ rest))))) many ∙ sym (ap (λ (b : Bool). cond b (Err TooManyLines) (program_where_read (code_read 1 (Ok nothing_read) (take c (front ++ other))))) many)
  | inr few ↦ ap (λ (l : List Source). cond (nat_lt 15 c) (Err TooManyLines) (program_where_read (code_read 1 (Ok nothing_read) l))) (take-append-le c front rest (within c (length front) few full) ∙ sym (take-append-le c front other (within c (length front) few full)))
]
  where
    within : (c n : ℕ) → nat_lt 15 c ≡ false → n ≡ 15 → c ≤ n
    within c n few full = grind (arith, nat_tests)

-- what lines that were gathered, and those behind them, spell
behind_is : (count index : ℕ) (sources : List Source) (lines : List (List ℕ)) → length sources ≡ min 15 index → program_behind (record { count = count; index = index; sources = sources }) lines ≡ first_program (counted count index lines) (sources ++ map source_of lines)
behind_is count index sources [] held = ap (first_program count) (sym (append-nil sources))
behind_is count index sources (line ∷ lines) held = elim (cases_Bool (nat_lt index 15)) [
  | inl more ↦
      ap (λ (b : Bool). program_behind (record { count = cond (is_blank line) count (min 16 (index + 1)); index = min 16 (index + 1); sources = cond b (sources ++ source_of line ∷ []) sources }) lines) more
      ∙ behind_is (cond (is_blank line) count (min 16 (index + 1))) (min 16 (index + 1)) (sources ++ source_of line ∷ []) lines (omega (arith, length-append {A = Source}, held, below index more))
      ∙ ap (first_program (counted count index (line ∷ lines))) (append_assoc sources (source_of line ∷ []) (map source_of lines))
  | inr full ↦
      ap (λ (b : Bool). program_behind (record { count = cond (is_blank line) count (min 16 (index + 1)); index = min 16 (index + 1); sources = cond b (sources ++ source_of line ∷ []) sources }) lines) full
      ∙ behind_is (cond (is_blank line) count (min 16 (index + 1))) (min 16 (index + 1)) sources lines (omega (arith, held, past index full))
      ∙ fifteen_only (counted count index (line ∷ lines)) sources (map source_of lines) (map source_of (line ∷ lines)) (omega (arith, held, past index full))
]
  where
    below : (a : ℕ) → nat_lt a 15 ≡ true → a < 15
    below a is = grind (arith, nat_tests)

    past : (a : ℕ) → nat_lt a 15 ≡ false → 15 ≤ a
    past a is = grind (arith, nat_tests)

-- from the first line on they spell what all lines do
pub start_is : (lines : List (List ℕ)) → program_behind none_gathered lines ≡ assembled_lines lines
start_is lines = behind_is 0 0 [] lines (omega arith) ∙ ap (λ (c : ℕ). first_program c (map source_of lines)) (counted_all lines) ∙ first_are_all lines

-- one line more, that is kept and then counted
pub line_gathered : (old kept : Gathered) (line : List ℕ) (blank : Bool) (n : ℕ) → kept ≡ record old { sources = cond (nat_lt old.index 15) (old.sources ++ source_of line ∷ []) old.sources } → blank ≡ is_blank line → n ≡ min kept.index 15 → record { count = cond blank kept.count (n + 1); index = n + 1; sources = kept.sources } ≡ gathered_with old line
line_gathered old kept line blank n kept_is blank_is n_is =
    let counts : n + 1 ≡ min 16 (old.index + 1) = omega (arith, n_is, ap (λ (g : Gathered). g.index) kept_is) in
    ap (λ (c : ℕ). record { count = cond blank kept.count c; index = c; sources = kept.sources }) counts
    ∙ ap (λ (g : Gathered). record { count = cond blank g.count (min 16 (old.index + 1)); index = min 16 (old.index + 1); sources = g.sources }) kept_is
    ∙ ap (λ (b : Bool). record { count = cond b old.count (min 16 (old.index + 1)); index = min 16 (old.index + 1); sources = cond (nat_lt old.index 15) (old.sources ++ source_of line ∷ []) old.sources }) blank_is

-- after an error all is as it was
pub err_kept : {X E : Type 0} {P : Type 0} (r : Result X E) → P → OnErr r P
err_kept (Ok x) p = tt
err_kept (Err e) p = p
