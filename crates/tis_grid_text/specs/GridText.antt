-- The text of a grid.
use Rattle.std.specs.Prelude.{ℕ, ◌+◌, ℤ, pos, Bool, false, ◌&&◌, List, [], ◌∷◌, ◌++◌, length, replicate, Option, Some, None, option_map, option_and_then, Result, Ok, Err, codes, ◌==◌, if◌then◌else◌}
use Rattle.std.specs.Str.{bytes_eq}
use Rattle.tis_base.specs.Lines.{text_lines}
use Rattle.tis_base.specs.declared.tiles.TileKind.{TileKind}
use Rattle.tis_base.specs.declared.tiles.TileKind.TheVariants.{Compute, Memory, Damaged}
use Rattle.tis_words.specs.declared.comments.Comments.TheVariants.{BehindHash}
use Rattle.tis_words.specs.Words.{Words}
use Rattle.tis_words.specs.Lines.{NonBlank, non_blank_lines}
use Rattle.tis_words.specs.Numerals.{number_of, value_of}
use Rattle.tis_grid.specs.declared.puzzle.OutKind.TheVariants.{Stream, Image}
use Rattle.tis_grid.specs.Puzzle.{Puzzle, Port, input_at, output_at, is_taken, with_port, bare, is_picture}

-- why a text is no grid: the form of a line is wrong, or a position on its side is taken
pub data Refusal : Type 0 where
  BadLine : (line : ℕ) → Refusal
  SamePlace : (line : ℕ) → Refusal

-- ---- single lines

-- the first line is `grid 1`
abbrev pub is_head : Words → Bool
is_head (grid ∷ one ∷ []) = bytes_eq grid (codes "grid") && bytes_eq one (codes "1")
is_head _ = false

-- whether lines are those of a grid: the first is `grid 1`
abbrev pub begins_grid : List NonBlank → Bool
begins_grid [] = false
begins_grid (line ∷ lines) = is_head line.words

-- whether a text is that of a grid: its first line that isn't blank is `grid 1`, where a line that has only a comment is blank
abbrev pub is_grid_text : List ℕ → Bool
is_grid_text text = begins_grid (non_blank_lines BehindHash text)

-- the kind of tile that a letter names
abbrev pub kind_of : ℕ → Option TileKind
kind_of byte = if byte == 67 then Some Compute else (if byte == 77 then Some Memory else (if byte == 68 then Some Damaged else None))

-- the kinds that letters name
abbrev pub kinds_of : List ℕ → Option (List TileKind)
kinds_of [] = Some []
kinds_of (byte ∷ bytes) = option_and_then (λ kind. option_map (λ kinds. kind ∷ kinds) (kinds_of bytes)) (kind_of byte)

-- the kinds of a row of four tiles
abbrev pub row_of : List ℕ → Option (List TileKind)
row_of word = if length word == 4 then kinds_of word else None

-- the kinds of three rows
abbrev pub rows_of : List ℕ → List ℕ → List ℕ → Option (List TileKind)
rows_of first second third = option_and_then (λ a. option_and_then (λ b. option_map (λ c. (a ++ b) ++ c) (row_of third)) (row_of second)) (row_of first)

-- the second line is `tiles` and three rows
abbrev pub tiles_of : Words → Option (List TileKind)
tiles_of (tiles ∷ first ∷ second ∷ third ∷ []) = if bytes_eq tiles (codes "tiles") then rows_of first second third else None
tiles_of _ = None

-- values, any number of them
abbrev pub values_of : Words → Option (List ℤ)
values_of [] = Some []
values_of (word ∷ words) = option_and_then (λ value. option_map (λ values. value ∷ values) (values_of words)) (value_of word)

-- these values, where they are a picture
abbrev pub picture_of : List ℤ → Option (List ℤ)
picture_of values = if is_picture values then Some values else None

-- the black picture
unfoldable pub black : List ℤ
black = replicate 540 (pos 0)

-- what an image shows that is wanted with these values: without one it is black
abbrev pub shown : List ℤ → Option (List ℤ)
shown [] = Some black
shown (value ∷ values) = picture_of (value ∷ values)

abbrev pub image_of : Words → Option (List ℤ)
image_of words = option_and_then shown (values_of words)

-- the port of the line that begins with this word
abbrev pub port_named : List ℕ → List ℕ → Words → Option Port
port_named name position words =
    if bytes_eq name (codes "input") then input_at (number_of 3 position) (values_of words)
    else (if bytes_eq name (codes "output") then output_at Stream (number_of 3 position) (values_of words)
    else (if bytes_eq name (codes "image") then output_at Image (number_of 3 position) (image_of words) else None))

abbrev pub port_of : Words → Option Port
port_of [] = None
port_of (name ∷ []) = None
port_of (name ∷ position ∷ words) = port_named name position words

-- ---- the whole text

-- the puzzle with the port of a line
abbrev pub with_line : Puzzle → ℕ → Option Port → Result Puzzle Refusal
with_line puzzle number None = Err (BadLine number)
with_line puzzle number (Some port) = if is_taken puzzle port then Err (SamePlace number) else Ok (with_port puzzle port)

-- the next line is looked at only where this one was right
abbrev pub goes_on : Result Puzzle Refusal → (Puzzle → Result Puzzle Refusal) → Result Puzzle Refusal
goes_on (Ok puzzle) next = next puzzle
goes_on (Err refusal) next = Err refusal

-- the puzzle with the ports of these lines, up to the first wrong one
abbrev pub with_lines : Puzzle → List NonBlank → Result Puzzle Refusal
with_lines puzzle [] = Ok puzzle
with_lines puzzle (line ∷ lines) = goes_on (with_line puzzle line.number (port_of line.words)) (λ more. with_lines more lines)

-- the line of the tiles, and those of the ports behind it
abbrev pub tiles_line : ℕ → Option (List TileKind) → List NonBlank → Result Puzzle Refusal
tiles_line number None lines = Err (BadLine number)
tiles_line number (Some kinds) lines = with_lines (bare kinds) lines

-- what stands behind the head, where a missing line has this number
abbrev pub behind_head : ℕ → List NonBlank → Result Puzzle Refusal
behind_head missing [] = Err (BadLine missing)
behind_head missing (line ∷ lines) = tiles_line line.number (tiles_of line.words) lines

-- the lines of a grid, where a missing line has this number
abbrev pub grid_lines : ℕ → List NonBlank → Result Puzzle Refusal
grid_lines missing [] = Err (BadLine missing)
grid_lines missing (line ∷ lines) = if is_head line.words then behind_head missing lines else Err (BadLine line.number)

-- the puzzle of a text, or its first wrong line; a missing line has the number after the last one
abbrev pub grid_of : List ℕ → Result Puzzle Refusal
grid_of text = grid_lines (length (text_lines text) + 1) (non_blank_lines BehindHash text)
