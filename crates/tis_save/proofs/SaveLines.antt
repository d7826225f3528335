-- The lines of a save: for each tile with a program its head, its code and an empty line.
use Rattle.std.proofs.Common.{◌≡◌, ℕ, ◌+◌, ◌%◌, ◌^◌, ◌<◌, ◌≤◌, Bool, true, false, cond, List, [], ◌∷◌, ◌++◌, length, take, count_by, refl, sym, ap, subst, ◌∙◌, inl, inr, arith}
use Rattle.std.specs.Prelude.{flat_map, decimal}
use Rattle.std.specs.List.{list_all}
use Rattle.std.proofs.lemmas.Bool.{true≢false, cases_Bool, and_from, ne_eqb}
use Rattle.std.proofs.lemmas.Fmt.{decimal_by_steps}
use Rattle.std.proofs.Math.Seq.{take-length}
use Rattle.std.proofs.lemmas.List.{length-take, take-take}
use Rattle.std.proofs.lemmas.List.Sums.{count_by-le-length, count_by_more_yes, sum_by-take-le}
use Rattle.std.proofs.lemmas.Option.{get_or_from_slice_get}
use Rattle.tis_base.specs.Lines.{text_lines, text_of_lines}
use Rattle.tis_base.specs.Tiles.{Tiles, is_compute, block_of}
use Rattle.tis_base.specs.declared.tiles.TileKind.TheVariants.{Compute, Damaged}
use Rattle.tis_base.proofs.WrittenLines.{is_plain_byte, is_plain_line, list_all-join, text_lines-text_of_lines, text_of_lines-append}
use Rattle.tis_asm.specs.declared.instr.Instr.{Instr}
use Rattle.tis_asm.specs.declared.instr.Instr.TheVariants.{Nop, Mov, Swp, Sav, Add, Sub, Neg, Jump, Jro}
use Rattle.tis_asm.specs.declared.instr.Jump.TheVariants as jumps
use Rattle.tis_asm.specs.declared.program.MarkedInstr.{MarkedInstr}
use Rattle.tis_asm.specs.Programs.{Programs, ArePrograms, HasValues, IsSound, program_at}
use Rattle.tis_asm.specs.Code.{label_text, mark_text, instr_text, is_target, line_text, lines_from, code_lines}
use Rattle.tis_asm.proofs.ReadingBack.{program_is_plain}
use Rattle.tis_save.specs.Writing.{head_of, block_text, tile_text}
use Rattle.tis_save.specs.Reading.{is_code, computes, compute_count}

-- ---- the lines of one block

-- the lines below the head: the code and an empty line
abbrev pub body_of : List MarkedInstr → List (List ℕ)
body_of [] = []
body_of (line ∷ program) = code_lines (line ∷ program) ++ [] ∷ []

-- the lines of a block
abbrev pub section_of : List ℕ → List MarkedInstr → List (List ℕ)
section_of head [] = []
section_of head (line ∷ program) = head ∷ (code_lines (line ∷ program) ++ [] ∷ [])

-- the lines of the block of a tile
abbrev pub tile_section : Programs → ℕ → List (List ℕ)
tile_section programs tile = section_of (head_of programs.tiles tile) (program_at programs.programs tile)

-- the text of a block is that of its lines
section-text : (head : List ℕ) (program : List MarkedInstr) → block_text head program ≡ text_of_lines (section_of head program)
section-text head [] = refl
section-text head (line ∷ program) = ap (λ (text : List ℕ). head ++ 10 ∷ text) (sym (text_of_lines-append (code_lines (line ∷ program)) ([] ∷ [])))

-- the text of the blocks is that of their lines
pub sections-text : (programs : Programs) (tiles : List ℕ) → flat_map (tile_text programs) tiles ≡ text_of_lines (flat_map (tile_section programs) tiles)
sections-text programs [] = refl
sections-text programs (tile ∷ tiles) =
    ap (λ (prefix : List ℕ). prefix ++ flat_map (tile_text programs) tiles) (section-text (head_of programs.tiles tile) (program_at programs.programs tile))
    ∙ ap (λ (back : List ℕ). text_of_lines (tile_section programs tile) ++ back) (sections-text programs tiles)
    ∙ sym (text_of_lines-append (tile_section programs tile) (flat_map (tile_section programs) tiles))

-- ---- heads and code

-- a line of a program isn't a head, with a label or a mark or neither
marked_is_code : (mark : Bool) (instr : Instr) → is_code (mark_text mark ++ instr_text instr) ≡ true
marked_is_code true instr = refl
marked_is_code false Nop = refl
marked_is_code false (Mov source dest) = refl
marked_is_code false Swp = refl
marked_is_code false Sav = refl
marked_is_code false (Add source) = refl
marked_is_code false (Sub source) = refl
marked_is_code false Neg = refl
marked_is_code false (Jump jumps.Always number) = refl
marked_is_code false (Jump jumps.IfZero number) = refl
marked_is_code false (Jump jumps.IfNotZero number) = refl
marked_is_code false (Jump jumps.IfPositive number) = refl
marked_is_code false (Jump jumps.IfNegative number) = refl
marked_is_code false (Jro source) = refl

labelled_is_code : (labelled : Bool) (number : ℕ) (mark : Bool) (instr : Instr) → is_code (label_text labelled number ++ mark_text mark ++ instr_text instr) ≡ true
labelled_is_code true number mark instr = refl
labelled_is_code false number mark instr = marked_is_code mark instr

-- no line of a program is
program_is_code : (whole rest : List MarkedInstr) (number : ℕ) → list_all is_code (lines_from whole number rest) ≡ true
program_is_code whole [] number = refl
program_is_code whole (marked ∷ rest) number =
    and_from (is_code (line_text whole number marked)) (list_all is_code (lines_from whole (number + 1) rest)) (labelled_is_code (is_target whole number) number marked.mark marked.instr) (program_is_code whole rest (number + 1))

-- no line of a block is a head but the first
pub body_is_code : (line : MarkedInstr) (program : List MarkedInstr) → list_all is_code (code_lines (line ∷ program) ++ [] ∷ []) ≡ true
body_is_code line program = list_all-join is_code (code_lines (line ∷ program)) ([] ∷ []) (program_is_code (line ∷ program) (line ∷ program) 0) refl

-- ---- the numbers of the blocks

-- a longer list has no fewer of them
taken_more : {X : Type 0} (test : X → Bool) (xs : List X) (few many : ℕ) → few ≤ many → count_by test (take few xs) ≤ count_by test (take many xs)
taken_more test xs few many le = subst (λ prefix. count_by test prefix ≤ count_by test (take many xs)) (take-take few many xs le) (sum_by-take-le (λ x. cond (test x) 1 0) (take many xs) few)

-- the block of a compute tile has a smaller number than those of the tiles behind it
pub blocks_grow : (tiles : Tiles) (first second : ℕ) → first < length tiles.kinds → computes tiles first ≡ true → first < second → block_of tiles first < block_of tiles second
blocks_grow tiles first second inside computing before =
    omega (arith, count_by_more_yes is_compute tiles.kinds first Damaged inside computing, taken_more is_compute tiles.kinds (first + 1) second (omega arith))

-- there are no more blocks than tiles
pub block_few : (tiles : Tiles) (tile : ℕ) → block_of tiles tile ≤ length tiles.kinds
block_few tiles tile = omega (arith, count_by-le-length is_compute (take tile tiles.kinds), length-take tile tiles.kinds)

-- so their numbers are small
pub block_is_small : (tiles : Tiles) (tile : ℕ) → length tiles.kinds < 2 ^ 64 → block_of tiles tile < 2 ^ 64
block_is_small tiles tile small = omega (arith, count_by-le-length is_compute (take tile tiles.kinds), length-take tile tiles.kinds)

-- the block of a compute tile is one of them
pub block_below : (tiles : Tiles) (tile : ℕ) → tile < length tiles.kinds → computes tiles tile ≡ true → block_of tiles tile < compute_count tiles
block_below tiles tile inside computing =
    let all : take (length tiles.kinds) tiles.kinds ≡ tiles.kinds = take-length tiles.kinds in
    omega (arith, count_by_more_yes is_compute tiles.kinds tile Damaged inside computing, taken_more is_compute tiles.kinds (tile + 1) (length tiles.kinds) (omega arith), ap (count_by is_compute) all)

-- a tile that computes nothing has the empty program
pub no_program : (programs : Programs) → ArePrograms programs → (tile : ℕ) → computes programs.tiles tile ≡ false → program_at programs.programs tile ≡ []
no_program programs is tile resting =
    is.elsewhere tile (λ found. true≢false (sym (ap is_compute (get_or_from_slice_get programs.tiles.kinds tile Compute Damaged found)) ∙ resting))

-- a tile with a program computes
pub has_program : (programs : Programs) → ArePrograms programs → (tile : ℕ) (line : MarkedInstr) (program : List MarkedInstr) → program_at programs.programs tile ≡ line ∷ program → computes programs.tiles tile ≡ true
has_program programs is tile line program has =
    elim (cases_Bool (computes programs.tiles tile)) [
      | inl computing ↦ computing
      | inr resting ↦ let none : program_at programs.programs tile ≡ [] = no_program programs is tile resting in absurd cc
    ]

-- ---- no line of a save has LF or CR in it

-- a digit is neither LF nor CR
digit_is_plain : (digit : ℕ) → is_plain_line ((48 + digit) ∷ []) ≡ true
digit_is_plain digit = rw (ne_eqb (48 + digit) 10 (λ e. omega arith), ne_eqb (48 + digit) 13 (λ e. omega arith)) refl

-- nor is one in a number
decimal_is_plain : (number : ℕ) → number < 2 ^ 64 → is_plain_line (decimal number) ≡ true
decimal_is_plain =
    decimal_by_steps (λ number digits. is_plain_line digits ≡ true) (λ number lt. digit_is_plain number)
    (λ number digits le plain. list_all-join is_plain_byte digits ((48 + number % 10) ∷ []) plain (digit_is_plain (number % 10)))

-- nor in a block
section_is_plain : (head : List ℕ) (program : List MarkedInstr) → length program ≤ 15 → HasValues program → IsSound program → is_plain_line head ≡ true → list_all is_plain_line (section_of head program) ≡ true
section_is_plain head [] few are sound plain = refl
section_is_plain head (line ∷ program) few are sound plain =
    and_from (is_plain_line head) (list_all is_plain_line (code_lines (line ∷ program) ++ [] ∷ [])) plain (list_all-join is_plain_line (code_lines (line ∷ program)) ([] ∷ []) (program_is_plain (line ∷ program) few are sound) refl)

-- nor in all blocks
sections_are_plain : (programs : Programs) (tiles : List ℕ) → ArePrograms programs → ((tile : ℕ) → IsSound (program_at programs.programs tile)) → length programs.tiles.kinds < 2 ^ 64 → list_all is_plain_line (flat_map (tile_section programs) tiles) ≡ true
sections_are_plain programs [] is sound small = refl
sections_are_plain programs (tile ∷ tiles) is sound small =
    list_all-join is_plain_line (tile_section programs tile) (flat_map (tile_section programs) tiles)
    (section_is_plain (head_of programs.tiles tile) (program_at programs.programs tile) (is.short tile) (is.values tile) (sound tile) (decimal_is_plain (block_of programs.tiles tile) (block_is_small programs.tiles tile small)))
    (sections_are_plain programs tiles is sound small)

-- the lines of the text of the blocks
pub sections-lines : (programs : Programs) (tiles : List ℕ) → ArePrograms programs → ((tile : ℕ) → IsSound (program_at programs.programs tile)) → length programs.tiles.kinds < 2 ^ 64 → text_lines (flat_map (tile_text programs) tiles) ≡ flat_map (tile_section programs) tiles
sections-lines programs tiles is sound small = ap text_lines (sections-text programs tiles) ∙ text_lines-text_of_lines (flat_map (tile_section programs) tiles) (sections_are_plain programs tiles is sound small)
