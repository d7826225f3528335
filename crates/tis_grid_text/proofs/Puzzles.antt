-- What a grid's text gives is a puzzle.
use Rattle.std.proofs.Common.{◌≡◌, ℕ, suc, ◌+◌, ◌<◌, ◌≤◌, pos, true, false, cond, List, [], ◌∷◌, ◌++◌, length, Option, Some, None, Result, Ok, Err, refl, ap, ◌∙◌, subst, arith, length-append, neg_ℤ}
use Rattle.std.specs.Prelude.{All, ◌==◌, nat_le, option_map}
use Rattle.std.proofs.lemmas.Bool.{leb-true, eqb-true}
use Rattle.std.proofs.lemmas.Int.{ints}
use Rattle.std.proofs.lemmas.List.Elements.{All-nil, All-cons}
use Rattle.tis_base.specs.Saturation.{IsValue}
use Rattle.tis_base.specs.Lines.{text_lines}
use Rattle.tis_base.specs.declared.tiles.TileKind.{TileKind}
use Rattle.tis_words.specs.declared.comments.Comments.TheVariants.{BehindHash}
use Rattle.tis_words.specs.Words.{Words}
use Rattle.tis_words.specs.Lines.{NonBlank, non_blank_lines}
use Rattle.tis_words.specs.Numerals.{number_of, value_of, at_most, spelled}
use Rattle.tis_grid.specs.declared.puzzle.OutKind.TheVariants.{Stream, Image}
use Rattle.tis_grid.specs.Puzzle.{Puzzle, IsPuzzle, Port, IsPort, is_taken, with_port, bare}
use Rattle.tis_grid.proofs.PuzzlePorts.{bare_are_puzzles, port_makes_puzzle, input_holds, output_holds}
use Rattle.tis_grid.proofs.Holding.{Holds, holds_then, holds_map, choice_holds, some_holds, none_holds, any_holds, holds_more}
use Rattle.tis_grid_text.specs.GridText.{Refusal, BadLine, SamePlace, is_head, kind_of, kinds_of, row_of, rows_of, tiles_of, values_of, image_of, port_of, with_line, goes_on, with_lines, tiles_line, behind_head, grid_lines, grid_of}
use Rattle.tis_grid_text.specs.Soundness.{GridsArePuzzles}

-- ---- what holds of what is read

-- and of the puzzle, where it isn't refused
Gets : (Puzzle → Type 0) → Result Puzzle Refusal → Type 0
Gets P (Ok puzzle) = P puzzle
Gets P (Err refusal) = Unit {0}

-- ---- numbers and values

-- a number is at most the bound
number_holds : (most : ℕ) (word : List ℕ) → Holds (λ n. n ≤ most) (number_of most word)
unfolding number_of
number_holds most word = holds_then (λ _. Unit {0}) (λ n. n ≤ most) (spelled word) (at_most most) (any_holds (spelled word)) (λ n _. choice_holds (λ m. m ≤ most) (nat_le n most) (Some n) None (λ is. some_holds (λ m. m ≤ most) n (leb-true n most is)) (none_holds (λ m. m ≤ most)))

column_holds : (word : List ℕ) → Holds (λ n. n < 4) (number_of 3 word)
column_holds word = holds_more (λ n. n ≤ 3) (λ n. n < 4) (number_of 3 word) (number_holds 3 word) (λ n few. omega (arith, few))

negative : (n : ℕ) → n ≤ 999 → IsValue (neg_ℤ (pos n))
negative n few = (omega (arith, ints), omega (arith, ints))

positive : (n : ℕ) → n ≤ 999 → IsValue (pos n)
positive n few = (omega (arith, ints), omega (arith, ints))

-- a value is one of the machine
value_holds : (word : List ℕ) → Holds IsValue (value_of word)
unfolding value_of
value_holds [] = none_holds IsValue
value_holds (byte ∷ bytes) =
    choice_holds IsValue (byte == 45) _ _ (λ _. holds_map (λ n. n ≤ 999) IsValue (number_of 999 bytes) (λ n. neg_ℤ (pos n)) (number_holds 999 bytes) negative)
    (holds_map (λ n. n ≤ 999) IsValue (number_of 999 (byte ∷ bytes)) (λ n. pos n) (number_holds 999 (byte ∷ bytes)) positive)

values_hold : (words : Words) → Holds (λ values. All IsValue values) (values_of words)
values_hold [] = some_holds (λ values. All IsValue values) [] (All-nil IsValue)
values_hold (word ∷ words) =
    holds_then IsValue (λ values. All IsValue values) (value_of word) (λ value. option_map (λ values. value ∷ values) (values_of words)) (value_holds word)
    (λ value is. holds_map (λ values. All IsValue values) (λ values. All IsValue values) (values_of words) (λ values. value ∷ values) (values_hold words) (λ values are. All-cons IsValue value values is are))

-- ---- ports

port_holds : (words : Words) → Holds (IsPort 4) (port_of words)
port_holds [] = none_holds (IsPort 4)
port_holds (name ∷ []) = none_holds (IsPort 4)
port_holds (name ∷ position ∷ words) =
    choice_holds (IsPort 4) _ _ _ (λ _. input_holds (number_of 3 position) (values_of words) (column_holds position) (values_hold words))
    (choice_holds (IsPort 4) _ _ _ (λ _. output_holds Stream (number_of 3 position) (values_of words) (column_holds position))
    (choice_holds (IsPort 4) _ _ _ (λ _. output_holds Image (number_of 3 position) (image_of words) (column_holds position)) (none_holds (IsPort 4))))

-- ---- one more port

line_gets : (puzzle : Puzzle) (number : ℕ) (port : Option Port) → IsPuzzle puzzle → Holds (IsPort 4) port → Gets IsPuzzle (with_line puzzle number port)
unfolding Holds Gets
line_gets puzzle number None is holds = tt
line_gets puzzle number (Some port) is holds =
    elim (is_taken puzzle port) as (λ b. is_taken puzzle port ≡ b → Gets IsPuzzle (cond b (Err (SamePlace number)) (Ok (with_port puzzle port)))) [
      | true ↦ λ _. tt
      | false ↦ λ free. port_makes_puzzle puzzle port is holds free
    ] refl

goes_on_gets : (read : Result Puzzle Refusal) (next : Puzzle → Result Puzzle Refusal) → Gets IsPuzzle read → ((puzzle : Puzzle) → IsPuzzle puzzle → Gets IsPuzzle (next puzzle)) → Gets IsPuzzle (goes_on read next)
unfolding Gets
goes_on_gets (Ok puzzle) next is follows = follows puzzle is
goes_on_gets (Err refusal) next is follows = tt

lines_get : (lines : List NonBlank) (puzzle : Puzzle) → IsPuzzle puzzle → Gets IsPuzzle (with_lines puzzle lines)
unfolding Gets
lines_get [] puzzle is = is
lines_get (line ∷ lines) puzzle is = goes_on_gets (with_line puzzle line.number (port_of line.words)) (λ more. with_lines more lines) (line_gets puzzle line.number (port_of line.words) is (port_holds line.words)) (lines_get lines)

-- ---- the tiles

kinds_hold : (word : List ℕ) → Holds (λ kinds. length kinds ≡ length word) (kinds_of word)
kinds_hold [] = some_holds (λ kinds. length kinds ≡ 0) [] refl
kinds_hold (byte ∷ bytes) =
    holds_then (λ _. Unit {0}) (λ kinds. length kinds ≡ suc (length bytes)) (kind_of byte) (λ kind. option_map (λ kinds. kind ∷ kinds) (kinds_of bytes)) (any_holds (kind_of byte))
    (λ kind _. holds_map (λ kinds. length kinds ≡ length bytes) (λ kinds. length kinds ≡ suc (length bytes)) (kinds_of bytes) (λ kinds. kind ∷ kinds) (kinds_hold bytes) (λ kinds is. ap suc is))

row_holds : (word : List ℕ) → Holds (λ kinds. length kinds ≡ 4) (row_of word)
row_holds word =
    choice_holds (λ kinds. length kinds ≡ 4) (length word == 4) (kinds_of word) None
    (λ is. holds_more (λ kinds. length kinds ≡ length word) (λ kinds. length kinds ≡ 4) (kinds_of word) (kinds_hold word) (λ kinds same. same ∙ eqb-true (length word) 4 is))
    (none_holds (λ kinds. length kinds ≡ 4))

rows_hold : (first second third : List ℕ) → Holds (λ kinds. length kinds ≡ 12) (rows_of first second third)
rows_hold first second third =
    holds_then (λ kinds. length kinds ≡ 4) (λ kinds. length kinds ≡ 12) (row_of first) _ (row_holds first)
    (λ a a-is. holds_then (λ kinds. length kinds ≡ 4) (λ kinds. length kinds ≡ 12) (row_of second) _ (row_holds second)
    (λ b b-is. holds_map (λ kinds. length kinds ≡ 4) (λ kinds. length kinds ≡ 12) (row_of third) (λ c. (a ++ b) ++ c) (row_holds third)
    (λ c c-is. omega (arith, length-append (a ++ b) c, length-append a b, a-is, b-is, c-is))))

tiles_hold : (words : Words) → Holds (λ kinds. length kinds ≡ 12) (tiles_of words)
tiles_hold [] = none_holds (λ (kinds : List TileKind). length kinds ≡ 12)
tiles_hold (a ∷ []) = none_holds (λ (kinds : List TileKind). length kinds ≡ 12)
tiles_hold (a ∷ b ∷ []) = none_holds (λ (kinds : List TileKind). length kinds ≡ 12)
tiles_hold (a ∷ b ∷ c ∷ []) = none_holds (λ (kinds : List TileKind). length kinds ≡ 12)
tiles_hold (name ∷ first ∷ second ∷ third ∷ []) = choice_holds (λ kinds. length kinds ≡ 12) _ (rows_of first second third) None (λ _. rows_hold first second third) (none_holds (λ kinds. length kinds ≡ 12))
tiles_hold (a ∷ b ∷ c ∷ d ∷ e ∷ words) = none_holds (λ (kinds : List TileKind). length kinds ≡ 12)

tiles_get : (number : ℕ) (kinds : Option (List TileKind)) (lines : List NonBlank) → Holds (λ k. length k ≡ 12) kinds → Gets IsPuzzle (tiles_line number kinds lines)
unfolding Holds Gets
tiles_get number None lines holds = tt
tiles_get number (Some kinds) lines holds = lines_get lines (bare kinds) (bare_are_puzzles kinds holds)

-- ---- the whole text

behind_gets : (missing : ℕ) (lines : List NonBlank) → Gets IsPuzzle (behind_head missing lines)
unfolding Gets
behind_gets missing [] = tt
behind_gets missing (line ∷ lines) = tiles_get line.number (tiles_of line.words) lines (tiles_hold line.words)

text_gets : (missing : ℕ) (lines : List NonBlank) → Gets IsPuzzle (grid_lines missing lines)
unfolding Gets
text_gets missing [] = tt
text_gets missing (line ∷ lines) =
    elim (is_head line.words) as (λ b. Gets IsPuzzle (cond b (behind_head missing lines) (Err (BadLine line.number)))) [
      | true ↦ behind_gets missing lines
      | false ↦ tt
    ]

taken_apart : (read : Result Puzzle Refusal) (puzzle : Puzzle) → Gets IsPuzzle read → read ≡ Ok puzzle → IsPuzzle puzzle
unfolding Gets
taken_apart (Ok other) puzzle is same = let e : other ≡ puzzle = cc in subst IsPuzzle e is
taken_apart (Err refusal) puzzle is same = absurd cc

pub grids_are_puzzles : GridsArePuzzles
grids_are_puzzles text puzzle is = taken_apart (grid_of text) puzzle (text_gets (length (text_lines text) + 1) (non_blank_lines BehindHash text)) is
