-- The programs that a save gives: its lines are looked at in order, then its blocks are read in order.
use Rattle.std.specs.Prelude.{ℕ, ◌+◌, Bool, false, ◌&&◌, ◌||◌, not, List, [], ◌∷◌, ◌++◌, length, map, drop, count_by, Option, Some, None, unwrap_or, Result, Ok, Err, ◌==◌, nat_le, get_or, if◌then◌else◌}
use Rattle.std.specs.List.{range_with_len, list_any, take_while}
use Rattle.std.specs.Option.{option_or}
use Rattle.tis_base.specs.declared.tiles.TileKind.TheVariants.{Damaged}
use Rattle.tis_base.specs.Lines.{text_lines}
use Rattle.tis_base.specs.Tiles.{Tiles, is_compute, block_of}
use Rattle.tis_asm.specs.declared.program.MarkedInstr.{MarkedInstr}
use Rattle.tis_asm.specs.Programs.{Programs}
use Rattle.tis_asm.specs.Assembling.{AsmRefusal, is_filled, is_digit, digits_number, is_blank, assembled_lines}

-- why a text is no save of these tiles: a line of it, or the code of a block
pub data SaveRefusal : Type 0 where
  BadHead : (line : ℕ) → SaveRefusal
  UnknownBlock : (line : ℕ) → SaveRefusal
  RepeatedBlock : (line : ℕ) → SaveRefusal
  StrayCode : (line : ℕ) → SaveRefusal
  Asm : (block : ℕ) → (refusal : AsmRefusal) → SaveRefusal

-- ---- heads

-- a line that begins with `@`
abbrev pub is_head : List ℕ → Bool
is_head [] = false
is_head (byte ∷ bytes) = byte == 64

-- a line that belongs to the block above it
abbrev pub is_code : List ℕ → Bool
is_code line = not (is_head line)

-- one to three digits, and behind them nothing but blanks
abbrev pub number_of_parts : List ℕ → List ℕ → Option ℕ
number_of_parts digits rest = if is_filled digits && nat_le (length digits) 3 && is_blank rest then digits_number 0 digits else None

abbrev pub head_number : List ℕ → Option ℕ
head_number bytes = let digits = take_while is_digit bytes in number_of_parts digits (drop (length digits) bytes)

-- the number of a head
abbrev pub number_of_head : List ℕ → Option ℕ
number_of_head [] = None
number_of_head (byte ∷ bytes) = head_number bytes

-- ---- all lines

-- what is wrong with a head of this number, below heads of these numbers, where there are so many compute tiles
abbrev pub block_fault : ℕ → List ℕ → ℕ → ℕ → Option SaveRefusal
block_fault count above at number =
    if nat_le count number then Some (UnknownBlock at) else
    (if list_any (λ other. other == number) above then Some (RepeatedBlock at) else None)

-- what is wrong with a line that begins with `@`
abbrev pub head_fault : ℕ → List ℕ → ℕ → Option ℕ → Option SaveRefusal
head_fault count above at None = Some (BadHead at)
head_fault count above at (Some number) = block_fault count above at number

-- what is wrong with another line: it isn't blank, and no head stands above it
abbrev pub code_fault : List ℕ → ℕ → List ℕ → Option SaveRefusal
code_fault above at line = if is_blank line || is_filled above then None else Some (StrayCode at)

abbrev pub line_fault : ℕ → List ℕ → ℕ → List ℕ → Option SaveRefusal
line_fault count above at line = if is_head line then head_fault count above at (number_of_head line) else code_fault above at line

-- the numbers of the heads above the next line
abbrev pub with_number : List ℕ → Option ℕ → List ℕ
with_number above None = above
with_number above (Some number) = above ++ number ∷ []

abbrev pub below_line : List ℕ → List ℕ → List ℕ
below_line above line = if is_head line then with_number above (number_of_head line) else above

-- what is wrong with the first wrong one of these lines, of which the first has this number
abbrev pub first_fault : ℕ → List ℕ → ℕ → List (List ℕ) → Option SaveRefusal
first_fault count above at [] = None
first_fault count above at (line ∷ lines) = option_or (line_fault count above at line) (first_fault count (below_line above line) (at + 1) lines)

-- ---- blocks

-- a number, and the lines between its head and the next one
pub record Block : Type 0 where
  pub number : ℕ
  pub lines : List (List ℕ)

-- the blocks of these lines, in order; a head without a number, which is refused before, begins block 0
abbrev pub blocks_of : List (List ℕ) → List Block
blocks_of [] = []
blocks_of (line ∷ lines) = if is_head line then record { number = unwrap_or (number_of_head line) 0; lines = take_while is_code lines } ∷ blocks_of lines else blocks_of lines

-- a number, and the program of its block
pub record BlockProgram : Type 0 where
  pub number : ℕ
  pub program : List MarkedInstr

-- one more block in front, or the first refusal
abbrev pub with_block : ℕ → Result (List MarkedInstr) AsmRefusal → Result (List BlockProgram) SaveRefusal → Result (List BlockProgram) SaveRefusal
with_block number (Err refusal) rest = Err (Asm number refusal)
with_block number (Ok program) (Err refusal) = Err refusal
with_block number (Ok program) (Ok rest) = Ok (record { number = number; program = program } ∷ rest)

-- the programs of these blocks
abbrev pub block_programs : List Block → Result (List BlockProgram) SaveRefusal
block_programs [] = Ok []
block_programs (block ∷ blocks) = with_block block.number (assembled_lines block.lines) (block_programs blocks)

-- the program of the block with a number, the empty one where no block has it
abbrev pub program_in : List BlockProgram → ℕ → List MarkedInstr
program_in [] number = []
program_in (block ∷ blocks) number = if block.number == number then block.program else program_in blocks number

-- ---- tiles

-- whether the tile computes
abbrev pub computes : Tiles → ℕ → Bool
computes tiles tile = is_compute (get_or tiles.kinds tile Damaged)

-- how many tiles compute
abbrev pub compute_count : Tiles → ℕ
compute_count tiles = count_by is_compute tiles.kinds

-- the program of a tile: a compute tile has that of its block
abbrev pub program_on : Tiles → List BlockProgram → ℕ → List MarkedInstr
program_on tiles blocks tile = if computes tiles tile then program_in blocks (block_of tiles tile) else []

-- the programs of all tiles, unless a line or a block is refused
abbrev pub programs_where : Tiles → Option SaveRefusal → Result (List BlockProgram) SaveRefusal → Result Programs SaveRefusal
programs_where tiles (Some fault) blocks = Err fault
programs_where tiles None (Err refusal) = Err refusal
programs_where tiles None (Ok blocks) = Ok (record { tiles = tiles; programs = map (program_on tiles blocks) (range_with_len 0 (length tiles.kinds)) })

-- the programs of these lines
abbrev pub save_of_lines : List (List ℕ) → Tiles → Result Programs SaveRefusal
save_of_lines lines tiles = programs_where tiles (first_fault (compute_count tiles) [] 1 lines) (block_programs (blocks_of lines))

-- the programs that a text gives on these tiles
unfoldable pub save_of : List ℕ → Tiles → Result Programs SaveRefusal
save_of text tiles = save_of_lines (text_lines text) tiles
