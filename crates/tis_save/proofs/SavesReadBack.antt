-- The canonical save of a programs whose jumps stay inside is read as that programs.
use Rattle.std.proofs.Common.{◌≡◌, ℕ, zero, suc, ◌+◌, ◌*◌, ◌<◌, ◌≤◌, Bool, true, false, cond, List, [], ◌∷◌, ◌++◌, length, map, drop, Option, Some, None, refl, sym, ap, subst, ◌∙◌, inl, inr, arith, ne_eqb, eq-eqb}
use Rattle.std.specs.Prelude.{◌==◌, decimal, flat_map, unwrap_or, Result, Ok}
use Rattle.std.specs.List.{range_with_len, list_all, list_any, take_while}
use Rattle.std.specs.Option.{option_or}
use Rattle.std.proofs.lemmas.Bool.{cases_Bool, cases_eq, cases_lt, and_parts, or_from, or_right, le-leb, lt-leb}
use Rattle.std.proofs.lemmas.Fmt.{length-decimal-le}
use Rattle.std.proofs.lemmas.List.{append-nil, ext_get_or}
use Rattle.std.proofs.lemmas.List.Folds.{list_any-append}
use Rattle.std.proofs.lemmas.List.FromFn.{length-map-range_with_len, get_or-map-range_with_len}
use Rattle.std.proofs.lemmas.List.Sums.{take_while-cons}
use Rattle.std.proofs.Math.Seq.{drop-length}
use Rattle.tis_base.proofs.WrittenLines.{not_is}
use Rattle.tis_base.specs.Tiles.{block_of}
use Rattle.tis_asm.specs.declared.program.MarkedInstr.{MarkedInstr}
use Rattle.tis_asm.specs.Programs.{Programs, ArePrograms, HasValues, IsSound, program_at}
use Rattle.tis_asm.specs.Code.{code_lines}
use Rattle.tis_asm.specs.Assembling.{AsmRefusal, is_filled, is_digit, digits_number, is_blank, assembled_lines}
use Rattle.tis_asm.proofs.Numbers.{decimal_is_numeral}
use Rattle.tis_asm.proofs.ReadingBack.{lines_read_back}
use Rattle.tis_save.specs.Writing.{head_of, save_text}
use Rattle.tis_save.specs.Reading.{SaveRefusal, StrayCode, UnknownBlock, RepeatedBlock, is_head, is_code, number_of_parts, number_of_head, head_fault, line_fault, with_number, below_line, first_fault, Block, blocks_of, BlockProgram, with_block, block_programs, program_in, computes, compute_count, program_on, programs_where, save_of_lines, save_of}
use Rattle.tis_save.specs.ReadingBack.{SavesReadBack}
use Rattle.tis_save.proofs.SaveLines.{body_of, section_of, tile_section, body_is_code, blocks_grow, block_few, block_below, no_program, has_program, sections-lines}

-- ---- heads

-- digits alone are all taken
take_digits : (digits : List ℕ) → list_all is_digit digits ≡ true → take_while is_digit digits ≡ digits
take_digits [] all = refl
take_digits (digit ∷ digits) all =
    let parts = and_parts (is_digit digit) (list_all is_digit digits) all in
    take_while-cons is_digit digit digits ∙ ap (λ (b : Bool). cond b (digit ∷ take_while is_digit digits) []) parts.0 ∙ ap (λ (more : List ℕ). digit ∷ more) (take_digits digits parts.1)

-- one to three digits, with nothing behind them
parts-read : (digits : List ℕ) (number : ℕ) → is_filled digits ≡ true → length digits ≤ 3 → digits_number 0 digits ≡ Some number → number_of_parts digits [] ≡ Some number
parts-read digits number filled short is = rw (filled, le-leb (length digits) 3 short) is

-- the head of a small number is read as that number
head-read : (number : ℕ) → number < 1000 → number_of_head (64 ∷ decimal number) ≡ Some number
head-read number small =
    let numeral = decimal_is_numeral number (omega arith) in
    ap (λ (digits : List ℕ). number_of_parts digits (drop (length digits) (decimal number))) (take_digits (decimal number) numeral.digits)
    ∙ ap (number_of_parts (decimal number)) (drop-length (decimal number))
    ∙ parts-read (decimal number) number numeral.filled (length-decimal-le 3 number (omega arith) (omega arith) (omega arith)) numeral.read

-- ---- lines of code

-- code goes on to the next head
take_while-code : (code rest : List (List ℕ)) → list_all is_code code ≡ true → take_while is_code (code ++ rest) ≡ code ++ take_while is_code rest
take_while-code [] rest all = refl
take_while-code (line ∷ code) rest all =
    let parts = and_parts (is_code line) (list_all is_code code) all in
    take_while-cons is_code line (code ++ rest) ∙ ap (λ (b : Bool). cond b (line ∷ take_while is_code (code ++ rest)) []) parts.0 ∙ ap (λ (lines : List (List ℕ)). line ∷ lines) (take_while-code code rest parts.1)

-- no block begins in code
blocks_of-code : (code rest : List (List ℕ)) → list_all is_code code ≡ true → blocks_of (code ++ rest) ≡ blocks_of rest
blocks_of-code [] rest all = refl
blocks_of-code (line ∷ code) rest all =
    let parts = and_parts (is_code line) (list_all is_code code) all in
    rw (not_is (is_head line) parts.0) (blocks_of-code code rest parts.1)

-- nothing is wrong with code below a head
first_fault-code : (count : ℕ) (above : List ℕ) (at : ℕ) (code rest : List (List ℕ)) → is_filled above ≡ true → list_all is_code code ≡ true → first_fault count above at (code ++ rest) ≡ first_fault count above (at + length code) rest
first_fault-code count above at [] rest has all = ap (λ (n : ℕ). first_fault count above n rest) (omega arith)
first_fault-code count above at (line ∷ code) rest has all =
    let parts = and_parts (is_code line) (list_all is_code code) all in
    let there : at + 1 + length code ≡ at + length (line ∷ code) = omega arith in
    rw (not_is (is_head line) parts.0) (ap (λ (b : Bool). option_or (cond b None (Some (StrayCode at))) (first_fault count above (at + 1) (code ++ rest))) (or_right (is_blank line) (is_filled above) has)
    ∙ first_fault-code count above (at + 1) code rest has parts.1 ∙ ap (λ (n : ℕ). first_fault count above n rest) there)

-- a list with one more at its end has some
filled_push : (above : List ℕ) (number : ℕ) → is_filled (above ++ number ∷ []) ≡ true
filled_push [] number = refl
filled_push (first ∷ above) number = refl

-- ---- one block, and the lines behind it

-- what stands below a head is read as the program
body-read : (program : List MarkedInstr) → length program ≤ 15 → HasValues program → IsSound program → assembled_lines (body_of program) ≡ Ok program
body-read [] few are sound = refl
body-read (line ∷ program) few are sound = lines_read_back (line ∷ program) ([] ∷ []) few are sound refl

-- a block of this number and program, where there is one, in front of others
abbrev onto_blocks : ℕ → List MarkedInstr → List Block → List Block
onto_blocks number [] blocks = blocks
onto_blocks number (line ∷ program) blocks = record { number = number; lines = body_of (line ∷ program) } ∷ blocks

abbrev onto_programs : ℕ → List MarkedInstr → List BlockProgram → List BlockProgram
onto_programs number [] blocks = blocks
onto_programs number (line ∷ program) blocks = record { number = number; program = line ∷ program } ∷ blocks

-- the block of a section
blocks_of-section : (number : ℕ) (program : List MarkedInstr) (rest : List (List ℕ)) → number < 1000 → take_while is_code rest ≡ [] → blocks_of (section_of (64 ∷ decimal number) program ++ rest) ≡ onto_blocks number program (blocks_of rest)
blocks_of-section number [] rest small ends = refl
blocks_of-section number (line ∷ program) rest small ends =
    let body = code_lines (line ∷ program) ++ [] ∷ [] in
    ap (λ (found : Option ℕ). record { number = unwrap_or found 0; lines = take_while is_code (body ++ rest) } ∷ blocks_of (body ++ rest)) (head-read number small)
    ∙ ap (λ (lines : List (List ℕ)). record { number = number; lines = lines } ∷ blocks_of (body ++ rest)) (take_while-code body rest (body_is_code line program) ∙ ap (λ (lines : List (List ℕ)). body ++ lines) ends ∙ append-nil body)
    ∙ ap (λ (blocks : List Block). record { number = number; lines = body } ∷ blocks) (blocks_of-code body rest (body_is_code line program))

-- a section begins with a head
ends_at_section : (number : ℕ) (program : List MarkedInstr) (rest : List (List ℕ)) → take_while is_code rest ≡ [] → take_while is_code (section_of (64 ∷ decimal number) program ++ rest) ≡ []
ends_at_section number [] rest ends = ends
ends_at_section number (line ∷ program) rest ends = take_while-cons is_code (64 ∷ decimal number) ((code_lines (line ∷ program) ++ [] ∷ []) ++ rest)

-- the program of a block
block_programs-onto : (number : ℕ) (program : List MarkedInstr) (blocks : List Block) (programs : List BlockProgram) → length program ≤ 15 → HasValues program → IsSound program → block_programs blocks ≡ Ok programs → block_programs (onto_blocks number program blocks) ≡ Ok (onto_programs number program programs)
block_programs-onto number [] blocks programs few are sound is = is
block_programs-onto number (line ∷ program) blocks programs few are sound is =
    ap (λ (read : Result (List MarkedInstr) AsmRefusal). with_block number read (block_programs blocks)) (body-read (line ∷ program) few are sound)
    ∙ ap (with_block number (Ok (line ∷ program))) is

-- a block of another number is passed over
program_in-other : (number other : ℕ) (program : List MarkedInstr) (blocks : List BlockProgram) → ((line : MarkedInstr) (rest : List MarkedInstr) → program ≡ line ∷ rest → number ≡ other → ⊥) → program_in (onto_programs number program blocks) other ≡ program_in blocks other
program_in-other number other [] blocks apart = refl
program_in-other number other (line ∷ program) blocks apart = rw (ne_eqb number other (apart line program refl)) refl

-- the block of this number is found
program_in-here : (number : ℕ) (program : List MarkedInstr) (blocks : List BlockProgram) → program_in blocks number ≡ [] → program_in (onto_programs number program blocks) number ≡ program
program_in-here number [] blocks none = none
program_in-here number (line ∷ program) blocks none = rw (eq-eqb number number refl) refl

-- nothing is wrong with a head that doesn't stand above
head_is_right : (count : ℕ) (above : List ℕ) (at number : ℕ) → number < count → number < 1000 → list_any (λ other. other == number) above ≡ false → line_fault count above at (64 ∷ decimal number) ≡ None
head_is_right count above at number below small fresh =
    ap (head_fault count above at) (head-read number small)
    ∙ ap (λ (b : Bool). cond b (Some (UnknownBlock at)) (cond (list_any (λ other. other == number) above) (Some (RepeatedBlock at)) None)) (lt-leb count number below)
    ∙ ap (λ (b : Bool). cond b (Some (RepeatedBlock at)) None) fresh

-- ---- the blocks of all tiles

module _ (programs : Programs) (small : length programs.tiles.kinds < 1000) (is : ArePrograms programs) (sound : (tile : ℕ) → IsSound (program_at programs.programs tile)) where
  -- the lines of the blocks of so many tiles from this one on
  abbrev lines_from : ℕ → ℕ → List (List ℕ)
  lines_from start count = flat_map (tile_section programs) (range_with_len start count)

  -- the number of the block of a tile
  abbrev block_at : ℕ → ℕ
  block_at tile = block_of programs.tiles tile

  -- the program of a tile
  abbrev code_at : ℕ → List MarkedInstr
  code_at tile = program_at programs.programs tile

  -- it is small
  block_at_small : (tile : ℕ) → block_at tile < 1000
  block_at_small tile = omega (arith, block_few programs.tiles tile)

  -- the blocks of so many tiles
  abbrev blocks_from : ℕ → ℕ → List Block
  blocks_from start zero = []
  blocks_from start (suc count) = onto_blocks (block_at start) (code_at start) (blocks_from (start + 1) count)

  -- and their programs
  abbrev programs_from : ℕ → ℕ → List BlockProgram
  programs_from start zero = []
  programs_from start (suc count) = onto_programs (block_at start) (code_at start) (programs_from (start + 1) count)

  -- what follows a block begins with a head
  ends_at_lines : (start count : ℕ) → take_while is_code (lines_from start count) ≡ []
  ends_at_lines start zero = refl
  ends_at_lines start (suc count) = ends_at_section (block_at start) (code_at start) (lines_from (start + 1) count) (ends_at_lines (start + 1) count)

  -- the blocks of the lines
  blocks_of-lines : (start count : ℕ) → blocks_of (lines_from start count) ≡ blocks_from start count
  blocks_of-lines start zero = refl
  blocks_of-lines start (suc count) =
      blocks_of-section (block_at start) (code_at start) (lines_from (start + 1) count) (block_at_small start) (ends_at_lines (start + 1) count)
      ∙ ap (onto_blocks (block_at start) (code_at start)) (blocks_of-lines (start + 1) count)

  -- the programs of the blocks
  block_programs-from : (start count : ℕ) → block_programs (blocks_from start count) ≡ Ok (programs_from start count)
  block_programs-from start zero = refl
  block_programs-from start (suc count) =
      block_programs-onto (block_at start) (code_at start) (blocks_from (start + 1) count) (programs_from (start + 1) count) (is.short start) (is.values start) (sound start) (block_programs-from (start + 1) count)

  -- compute tiles have different blocks
  blocks_differ : (first second : ℕ) → first < length programs.tiles.kinds → second < length programs.tiles.kinds → computes programs.tiles first ≡ true → computes programs.tiles second ≡ true → (first ≡ second → ⊥) → block_at first ≡ block_at second → ⊥
  blocks_differ first second first_inside second_inside first_computes second_computes apart same =
      elim (cases_lt first second) [
        | inl before ↦ omega (arith, blocks_grow programs.tiles first second first_inside first_computes before)
        | inr after ↦ omega (arith, blocks_grow programs.tiles second first second_inside second_computes (omega arith))
      ]

  -- no block of a tile stands behind that of a later one
  none_behind : (tile start count : ℕ) → tile < start → start + count ≤ length programs.tiles.kinds → computes programs.tiles tile ≡ true → program_in (programs_from start count) (block_at tile) ≡ []
  none_behind tile start zero before inside computing = refl
  none_behind tile start (suc count) before inside computing =
      program_in-other (block_at start) (block_at tile) (code_at start) (programs_from (start + 1) count)
      (λ line rest has. blocks_differ start tile (omega arith) (omega arith) (has_program programs is start line rest has) computing (λ e. omega arith))
      ∙ none_behind tile (start + 1) count (omega arith) (omega arith) computing

  -- the program of each of these tiles
  each_block : (tile start count : ℕ) → start ≤ tile → tile < start + count → start + count ≤ length programs.tiles.kinds → computes programs.tiles tile ≡ true → program_in (programs_from start count) (block_at tile) ≡ code_at tile
  each_block tile start zero low high inside computing = absurd (omega arith)
  each_block tile start (suc count) low high inside computing =
      elim (cases_eq start tile) [
        | inl here ↦ subst (λ (t : ℕ). program_in (programs_from start (suc count)) (block_at t) ≡ code_at t) here
            (program_in-here (block_at start) (code_at start) (programs_from (start + 1) count) (none_behind start (start + 1) count (omega arith) (omega arith) (subst (λ (t : ℕ). computes programs.tiles t ≡ true) (sym here) computing)))
        | inr later ↦
            program_in-other (block_at start) (block_at tile) (code_at start) (programs_from (start + 1) count)
            (λ line rest has. blocks_differ start tile (omega arith) (omega arith) (has_program programs is start line rest has) computing later)
            ∙ each_block tile (start + 1) count (omega arith) (omega arith) (omega arith) computing
      ]

  -- no number of these tiles stands above
  abbrev AreFresh : ℕ → List ℕ → Type 0
  AreFresh start above = (tile : ℕ) → start ≤ tile → tile < length programs.tiles.kinds → computes programs.tiles tile ≡ true → list_any (λ other. other == block_at tile) above ≡ false

  -- below one more block none stands above of those that follow
  still_fresh : (start : ℕ) (above : List ℕ) → start < length programs.tiles.kinds → computes programs.tiles start ≡ true → AreFresh start above → AreFresh (start + 1) (above ++ block_at start ∷ [])
  still_fresh start above start_inside start_computes fresh tile later inside computing =
      list_any-append (λ other. other == block_at tile) above (block_at start ∷ [])
      ∙ or_from (list_any (λ other. other == block_at tile) above) (list_any (λ other. other == block_at tile) (block_at start ∷ [])) (fresh tile (omega arith) inside computing)
      (or_from (block_at start == block_at tile) false (ne_eqb (block_at start) (block_at tile) (blocks_differ start tile start_inside inside start_computes computing (λ e. omega arith))) refl)

  -- nothing is wrong with the lines of a block, below others
  section_is_right : (start : ℕ) (program : List MarkedInstr) (above : List ℕ) (at : ℕ) (rest : List (List ℕ)) → code_at start ≡ program → start < length programs.tiles.kinds → AreFresh start above →
      ((numbers : List ℕ) (line : ℕ) → AreFresh (start + 1) numbers → first_fault (compute_count programs.tiles) numbers line rest ≡ None) → first_fault (compute_count programs.tiles) above at (section_of (head_of programs.tiles start) program ++ rest) ≡ None
  section_is_right start [] above at rest has inside fresh goes_on = goes_on above at (λ tile low. fresh tile (omega arith))
  section_is_right start (line ∷ program) above at rest has inside fresh goes_on =
      let computing : computes programs.tiles start ≡ true = has_program programs is start line program has in
      let count = compute_count programs.tiles in
      let body = code_lines (line ∷ program) ++ [] ∷ [] in
      let numbers = above ++ block_at start ∷ [] in
      ap (λ (fault : Option SaveRefusal). option_or fault (first_fault count (below_line above (head_of programs.tiles start)) (at + 1) (body ++ rest)))
      (head_is_right count above at (block_at start) (block_below programs.tiles start inside computing) (block_at_small start) (fresh start (omega arith) inside computing))
      ∙ ap (λ (found : Option ℕ). first_fault count (with_number above found) (at + 1) (body ++ rest)) (head-read (block_at start) (block_at_small start))
      ∙ first_fault-code count numbers (at + 1) body rest (filled_push above (block_at start)) (body_is_code line program)
      ∙ goes_on numbers (at + 1 + length body) (still_fresh start above inside computing fresh)

  -- nothing is wrong with the lines of a save
  lines_are_right : (start count : ℕ) (above : List ℕ) (at : ℕ) → start + count ≤ length programs.tiles.kinds → AreFresh start above → first_fault (compute_count programs.tiles) above at (lines_from start count) ≡ None
  lines_are_right start zero above at inside fresh = refl
  lines_are_right start (suc count) above at inside fresh =
      section_is_right start (code_at start) above at (lines_from (start + 1) count) refl (omega arith) fresh (λ numbers line still. lines_are_right (start + 1) count numbers line (omega arith) still)

  -- the programs of all blocks
  abbrev all_programs : List BlockProgram
  all_programs = programs_from 0 (length programs.tiles.kinds)

  -- the program of each tile is found
  program_on-tile : (tile : ℕ) → tile < length programs.tiles.kinds → program_on programs.tiles all_programs tile ≡ code_at tile
  program_on-tile tile inside =
      elim (cases_Bool (computes programs.tiles tile)) [
        | inl computing ↦ ap (λ (b : Bool). cond b (program_in all_programs (block_at tile)) []) computing ∙ each_block tile 0 (length programs.tiles.kinds) (omega arith) (omega arith) (omega arith) computing
        | inr resting ↦ ap (λ (b : Bool). cond b (program_in all_programs (block_at tile)) []) resting ∙ sym (no_program programs is tile resting)
      ]

  -- tile by tile
  each_program : map (program_on programs.tiles all_programs) (range_with_len 0 (length programs.tiles.kinds)) ≡ programs.programs
  each_program =
      let same : length (map (program_on programs.tiles all_programs) (range_with_len 0 (length programs.tiles.kinds))) ≡ length programs.tiles.kinds = length-map-range_with_len (program_on programs.tiles all_programs) 0 (length programs.tiles.kinds) in
      ext_get_or [] (map (program_on programs.tiles all_programs) (range_with_len 0 (length programs.tiles.kinds))) programs.programs (same ∙ sym is.one_each)
      (λ tile lt. get_or-map-range_with_len (program_on programs.tiles all_programs) 0 (length programs.tiles.kinds) tile tile [] (omega (arith, same)) (omega arith) ∙ program_on-tile tile (omega (arith, same)))

  -- the lines of the whole save
  abbrev all_lines : List (List ℕ)
  all_lines = lines_from 0 (length programs.tiles.kinds)

  -- are read as the programs
  all_lines-read : save_of_lines all_lines programs.tiles ≡ Ok programs
  all_lines-read =
      ap (λ (fault : Option SaveRefusal). programs_where programs.tiles fault (block_programs (blocks_of all_lines))) (lines_are_right 0 (length programs.tiles.kinds) [] 1 (omega arith) (λ tile low inside computing. refl))
      ∙ ap (λ (blocks : List Block). programs_where programs.tiles None (block_programs blocks)) (blocks_of-lines 0 (length programs.tiles.kinds))
      ∙ ap (programs_where programs.tiles None) (block_programs-from 0 (length programs.tiles.kinds))
      ∙ ap (λ (each : List (List MarkedInstr)). Ok (record { tiles = programs.tiles; programs = each })) each_program

  -- the text of a save is read as the programs
  pub save-read : save_of (save_text programs) programs.tiles ≡ Ok programs
  unfolding save_of
  save-read = ap (λ (lines : List (List ℕ)). save_of_lines lines programs.tiles) (sections-lines programs (range_with_len 0 (length programs.tiles.kinds)) is sound (omega arith)) ∙ all_lines-read

-- the canonical save of a programs whose jumps stay inside is read as that programs
pub saves_read_back : SavesReadBack
saves_read_back programs board is sound = save-read programs (omega (arith, board.filled, ap (λ (columns : ℕ). columns * programs.tiles.shape.rows) board.allowed.0, ap (λ (rows : ℕ). 4 * rows) board.allowed.1)) is sound
