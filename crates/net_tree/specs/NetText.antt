-- The canonical text of a network: lines of words with one blank between, each ended by LF.
use Rattle.std.specs.Prelude.{ℕ, List, [], ◌∷◌, ◌++◌, map, flat_map, take, drop, Option, Some, None, codes, decimal, zero, suc}
use Rattle.std.specs.Fmt.{signed_decimal}
use Rattle.std.specs.List.{join_with_byte}
use Rattle.tis_base.specs.Lines.{text_of_lines}
use Rattle.tis_base.specs.Tiles.{Tiles}
use Rattle.tis_base.specs.declared.tiles.TileKind.{TileKind}
use Rattle.tis_base.specs.declared.tiles.TileKind.TheVariants.{Compute, Memory, Damaged}
use Rattle.net_tree.specs.declared.tree.Var.{Var}
use Rattle.net_tree.specs.declared.tree.Var.TheVariants.{X, Y}
use Rattle.net_tree.specs.declared.tree.Test.{Test}
use Rattle.net_tree.specs.declared.tree.Test.TheVariants.{Zero, NotZero, Negative, Positive, NotPositive, NotNegative}
use Rattle.net_tree.specs.Tree.{Name, Statement, Get, GetAdd, GetSub, Put, PutNumber, Move, Set, Add, Sub, Neg, Double, Copy, Swap, If, While, Count, Block, Empty, Then, PortLine, ChannelLine, ProcessText, Net}
use Rattle.tis_words.specs.Words.{Words}

-- the letter of a kind of tile
abbrev pub kind_letter : TileKind → ℕ
kind_letter Compute = 67
kind_letter Memory = 77
kind_letter Damaged = 68

-- the letters of so many rows, a word for each
abbrev pub row_words : ℕ → ℕ → List TileKind → Words
row_words columns zero kinds = []
row_words columns (suc rows) kinds = map kind_letter (take columns kinds) ∷ row_words columns rows (drop columns kinds)

-- the first line
abbrev pub version_line : ℕ → Words
version_line version = codes "net" ∷ decimal version ∷ []

-- the second line
abbrev pub tiles_line : Tiles → Words
tiles_line tiles = codes "tiles" ∷ row_words tiles.shape.columns tiles.shape.rows tiles.kinds

-- how a link goes, where it is pinned
abbrev pub via_words : Option (List ℕ) → Words
via_words None = []
via_words (Some path) = codes "via" ∷ map decimal path

-- where a process stands, where it is pinned
abbrev pub at_words : Option ℕ → Words
at_words None = []
at_words (Some tile) = codes "at" ∷ decimal tile ∷ []

-- the line of an input or an output, by the word of its side
abbrev pub port_line : List ℕ → PortLine → Words
port_line side port = side ∷ port.name ∷ codes "at" ∷ decimal port.position ∷ via_words port.via

-- the line of a channel
abbrev pub channel_line : ChannelLine → Words
channel_line channel = codes "channel" ∷ channel.name ∷ via_words channel.via

-- the line that begins a process
abbrev pub process_line : Name → Option ℕ → Words
process_line name at = codes "process" ∷ name ∷ at_words at

-- the word of a variable
abbrev pub var_word : Var → List ℕ
var_word X = codes "x"
var_word Y = codes "y"

-- the word of a comparison with 0
abbrev pub test_word : Test → List ℕ
test_word Zero = codes "="
test_word NotZero = codes "!="
test_word Negative = codes "<"
test_word Positive = codes ">"
test_word NotPositive = codes "<="
test_word NotNegative = codes ">="

-- the line that ends a block or a process
abbrev pub end_line : Words
end_line = codes "end" ∷ []

-- the first line of a statement: all of it, where it has no block
abbrev pub statement_line : Statement Name → Words
statement_line (Get read var) = codes "get" ∷ read ∷ var_word var ∷ []
statement_line (GetAdd read var) = codes "getadd" ∷ read ∷ var_word var ∷ []
statement_line (GetSub read var) = codes "getsub" ∷ read ∷ var_word var ∷ []
statement_line (Put written var) = codes "put" ∷ written ∷ var_word var ∷ []
statement_line (PutNumber written number) = codes "put" ∷ written ∷ signed_decimal number ∷ []
statement_line (Move read written) = codes "move" ∷ read ∷ written ∷ []
statement_line (Set var number) = codes "set" ∷ var_word var ∷ signed_decimal number ∷ []
statement_line (Add var number) = codes "add" ∷ var_word var ∷ signed_decimal number ∷ []
statement_line (Sub var number) = codes "sub" ∷ var_word var ∷ signed_decimal number ∷ []
statement_line (Neg var) = codes "neg" ∷ var_word var ∷ []
statement_line (Double var) = codes "double" ∷ var_word var ∷ []
statement_line (Copy to from) = codes "copy" ∷ var_word to ∷ var_word from ∷ []
statement_line Swap = codes "swap" ∷ []
statement_line (If var test first second) = codes "if" ∷ var_word var ∷ test_word test ∷ codes "0" ∷ []
statement_line (While var test body) = codes "while" ∷ var_word var ∷ test_word test ∷ codes "0" ∷ []
statement_line (Count var body) = codes "count" ∷ var_word var ∷ []

abbrev mutual
  -- the lines of the statements of a block, one after the other
  pub block_lines : Block Name → List Words
  block_lines Empty = []
  block_lines (Then line statement rest) = (statement_line statement ∷ inner_lines statement) ++ block_lines rest

  -- what stands behind the first line of a statement: nothing, or its blocks and `end`
  pub inner_lines : Statement Name → List Words
  inner_lines (If var test first second) = block_lines first ++ else_lines second ++ end_line ∷ []
  inner_lines (While var test body) = block_lines body ++ end_line ∷ []
  inner_lines (Count var body) = block_lines body ++ end_line ∷ []
  inner_lines statement = []

  -- `else` and the second block, where it has statements
  pub else_lines : Block Name → List Words
  else_lines Empty = []
  else_lines (Then line statement rest) = (codes "else" ∷ []) ∷ ((statement_line statement ∷ inner_lines statement) ++ block_lines rest)

-- the lines of a process
abbrev pub process_lines : ProcessText → List Words
process_lines process = (process_line process.name process.at ∷ block_lines process.body) ++ end_line ∷ []

-- the version, the tiles, the inputs, the outputs, the channels and the processes
abbrev pub net_lines : Net → List Words
net_lines net =
    version_line net.version ∷ tiles_line net.tiles
    ∷ (map (port_line (codes "input")) net.inputs ++ map (port_line (codes "output")) net.outputs ++ map channel_line net.channels ++ flat_map process_lines net.processes)

-- words behind a word, each with a blank before it
abbrev pub words_behind : Words → List ℕ
words_behind words = flat_map (λ word. 32 ∷ word) words

-- a line of words, ended by LF
abbrev pub line_text : Words → List ℕ
line_text words = join_with_byte 32 words ++ 10 ∷ []

-- lines of words, each ended by LF
abbrev pub lines_text : List Words → List ℕ
lines_text lines = text_of_lines (map (join_with_byte 32) lines)

-- the canonical text
abbrev pub net_text : Net → List ℕ
net_text net = lines_text (net_lines net)
