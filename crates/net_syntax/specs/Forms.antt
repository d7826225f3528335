-- The forms of lines: what a line says by its words alone.
use Rattle.std.specs.Prelude.{ℕ, ℤ, List, [], ◌∷◌, ◌++◌, map, length, take, drop, Option, Some, None, option_map, option_and_then, codes, nat_le, if◌then◌else◌, ◌==◌}
use Rattle.std.specs.Option.{unwrap_or, option_or}
use Rattle.std.specs.Str.{bytes_eq}
use Rattle.tis_base.specs.Tiles.{Tiles}
use Rattle.tis_words.specs.declared.comments.Comments.TheVariants.{BehindHash}
use Rattle.tis_words.specs.Numerals.{number_of, value_of}
use Rattle.tis_words.specs.Parts.{◌>>=◌, exactly, next_word, at_end}
use Rattle.tis_base.specs.declared.tiles.TileKind.{TileKind}
use Rattle.tis_base.specs.declared.tiles.TileKind.TheVariants.{Compute, Memory, Damaged}
use Rattle.net_tree.specs.declared.tree.Var.{Var}
use Rattle.net_tree.specs.declared.tree.Var.TheVariants.{X, Y}
use Rattle.net_tree.specs.declared.tree.Test.{Test}
use Rattle.net_tree.specs.declared.tree.Test.TheVariants.{Zero, NotZero, Negative, Positive, NotPositive, NotNegative}
use Rattle.net_syntax.specs.declared.keyword.Keyword.{Keyword}
use Rattle.net_syntax.specs.declared.keyword.Keyword.TheVariants as word
use Rattle.net_tree.specs.Names.{is_name}
use Rattle.net_tree.specs.Tree.{Name, Statement, Get, GetAdd, GetSub, Put, PutNumber, Move, Set, Add, Sub, Neg, Double, Copy, Swap}
use Rattle.tis_words.specs.Words.{Words}
use Rattle.tis_words.specs.Lines.{NonBlank, non_blank_lines}

-- what a line says
pub data LineForm : Type 0 where
  -- `net 1`
  Version : LineForm
  -- `tiles` and its letters
  TilesLine : (tiles : Tiles) → LineForm
  -- declarations
  Input : (name : Name) → (position : ℕ) → (via : Option (List ℕ)) → LineForm
  Output : (name : Name) → (position : ℕ) → (via : Option (List ℕ)) → LineForm
  Channel : (name : Name) → (via : Option (List ℕ)) → LineForm
  Process : (name : Name) → (at : Option ℕ) → LineForm
  -- a statement without a block
  Simple : (statement : Statement Name) → LineForm
  -- the first line of a statement with blocks
  OpensIf : (var : Var) → (test : Test) → LineForm
  OpensWhile : (var : Var) → (test : Test) → LineForm
  OpensCount : (var : Var) → LineForm
  -- the line between two blocks, and the line behind a block or a process
  Else : LineForm
  End : LineForm
  -- anything else, and each line past the last one that a network may have
  Malformed : LineForm

-- ---- words

-- a word that is a name
abbrev pub name_of : List ℕ → Option Name
name_of word = if is_name word then Some word else None

-- the variable that a word names
abbrev pub var_of : List ℕ → Option Var
var_of word = if bytes_eq word (codes "x") then Some X else if bytes_eq word (codes "y") then Some Y else None

-- how a word compares a variable with 0
abbrev pub test_of : List ℕ → Option Test
test_of word =
    if bytes_eq word (codes "=") then Some Zero
    else if bytes_eq word (codes "!=") then Some NotZero
    else if bytes_eq word (codes "<") then Some Negative
    else if bytes_eq word (codes ">") then Some Positive
    else if bytes_eq word (codes "<=") then Some NotPositive
    else if bytes_eq word (codes ">=") then Some NotNegative
    else None

-- ---- the parts of a line: what is read, and the words behind it

-- numbers of tiles from 0 to 99 up to the end of the line
unfoldable pub tiles_to_end : Words → Option (List ℕ)
tiles_to_end [] = Some []
tiles_to_end (word ∷ words) = option_and_then (λ tile. option_map (λ tiles. tile ∷ tiles) (tiles_to_end words)) (number_of 99 word)

-- these tiles, where they are at most 48
abbrev pub short_path : List ℕ → Option (List ℕ)
short_path tiles = if nat_le (length tiles) 48 then Some tiles else None

-- at most 48 numbers of tiles, up to the end of the line
unfoldable pub path_of : Words → Option (List ℕ)
path_of words = option_and_then short_path (tiles_to_end words)

-- nothing, or `via` and the tiles that the link passes
unfoldable pub via_of : Words → Option (Option (List ℕ))
via_of [] = Some None
via_of (word ∷ words) = if bytes_eq word (codes "via") then option_map (λ path. Some path) (path_of words) else None

-- nothing, or `at` and a tile
unfoldable pub at_of : Words → Option (Option ℕ)
at_of [] = Some None
at_of (word ∷ words) = do
  at ← next_word (exactly (codes "at")) (word ∷ words)
  tile ← next_word (number_of 99) at.1
  at_end tile.1 (Some tile.0)

-- ---- lines

-- a name, `at` and a position from 0 to 3, and how the link goes
unfoldable pub port_of : Words → Option (Name × ℕ × Option (List ℕ))
port_of words = do
  name ← next_word name_of words
  at ← next_word (exactly (codes "at")) name.1
  position ← next_word (number_of 3) at.1
  via ← via_of position.1
  Some (name.0, position.0, via)

-- a name, and how the link goes
unfoldable pub channel_of : Words → Option (Name × Option (List ℕ))
channel_of words = do
  name ← next_word name_of words
  via ← via_of name.1
  Some (name.0, via)

-- a name, and where the process stands
unfoldable pub process_of : Words → Option (Name × Option ℕ)
process_of words = do
  name ← next_word name_of words
  at ← at_of name.1
  Some (name.0, at)

-- a name and a variable
unfoldable pub name_and_var : Words → Option (Name × Var)
name_and_var words = do
  name ← next_word name_of words
  var ← next_word var_of name.1
  at_end var.1 (name.0, var.0)

-- the statement that sends on this name what the word says: a variable or a number
abbrev pub sent_on : Name → List ℕ → Option (Statement Name)
sent_on name word = option_or (option_map (Put name) (var_of word)) (option_map (PutNumber name) (value_of word))

-- a name, and what is sent on it
unfoldable pub put_of : Words → Option (Statement Name)
put_of words = do
  name ← next_word name_of words
  statement ← next_word (sent_on name.0) name.1
  at_end statement.1 statement.0

-- two names
unfoldable pub two_names : Words → Option (Name × Name)
two_names words = do
  first ← next_word name_of words
  second ← next_word name_of first.1
  at_end second.1 (first.0, second.0)

-- a variable and a number
unfoldable pub var_and_number : Words → Option (Var × ℤ)
var_and_number words = do
  var ← next_word var_of words
  number ← next_word value_of var.1
  at_end number.1 (var.0, number.0)

-- a variable alone
unfoldable pub one_var : Words → Option Var
one_var words = do
  var ← next_word var_of words
  at_end var.1 var.0

-- two variables
unfoldable pub two_vars : Words → Option (Var × Var)
two_vars words = do
  first ← next_word var_of words
  second ← next_word var_of first.1
  at_end second.1 (first.0, second.0)

-- a variable, how it is compared, and `0`
unfoldable pub test_against_zero : Words → Option (Var × Test)
test_against_zero words = do
  var ← next_word var_of words
  test ← next_word test_of var.1
  zero ← next_word (exactly (codes "0")) test.1
  at_end zero.1 (var.0, test.0)

-- exactly the word `1`, and nothing behind it
unfoldable pub version_of : Words → Option LineForm
version_of words = do
  version ← next_word (exactly (codes "1")) words
  at_end version.1 Version

-- ---- the tiles

-- what a letter of the tiles stands for
abbrev pub kind_of : ℕ → Option TileKind
kind_of letter = if letter == 67 then Some Compute else if letter == 77 then Some Memory else if letter == 68 then Some Damaged else None

-- the kinds that the letters of a word of four stand for
unfoldable pub row_of : List ℕ → Option (List TileKind)
row_of (a ∷ b ∷ c ∷ d ∷ []) = do
  first ← kind_of a
  second ← kind_of b
  third ← kind_of c
  fourth ← kind_of d
  Some (first ∷ second ∷ third ∷ fourth ∷ [])
row_of word = None

-- three rows of four tiles
unfoldable pub tiles_of : Words → Option Tiles
tiles_of words = do
  first ← next_word row_of words
  second ← next_word row_of first.1
  third ← next_word row_of second.1
  at_end third.1 (record { shape = record { columns = 4; rows = 3 }; kinds = first.0 ++ second.0 ++ third.0 })

-- ---- the first word of a line

-- of the first two lines, of a declaration, and of a line between or behind blocks
abbrev pub frame_keyword : List ℕ → Option Keyword
frame_keyword text =
    if bytes_eq text (codes "net") then Some word.Net
    else if bytes_eq text (codes "tiles") then Some word.Tiles
    else if bytes_eq text (codes "input") then Some word.Input
    else if bytes_eq text (codes "output") then Some word.Output
    else if bytes_eq text (codes "channel") then Some word.Channel
    else if bytes_eq text (codes "process") then Some word.Process
    else if bytes_eq text (codes "else") then Some word.Else
    else if bytes_eq text (codes "end") then Some word.End
    else None

-- of a statement that reads or sends, or that opens a block
abbrev pub statement_keyword : List ℕ → Option Keyword
statement_keyword text =
    if bytes_eq text (codes "get") then Some word.Get
    else if bytes_eq text (codes "getadd") then Some word.GetAdd
    else if bytes_eq text (codes "getsub") then Some word.GetSub
    else if bytes_eq text (codes "put") then Some word.Put
    else if bytes_eq text (codes "move") then Some word.Move
    else if bytes_eq text (codes "if") then Some word.If
    else if bytes_eq text (codes "while") then Some word.While
    else if bytes_eq text (codes "count") then Some word.Count
    else None

-- of a statement on variables alone
abbrev pub variable_keyword : List ℕ → Option Keyword
variable_keyword text =
    if bytes_eq text (codes "set") then Some word.Set
    else if bytes_eq text (codes "add") then Some word.Add
    else if bytes_eq text (codes "sub") then Some word.Sub
    else if bytes_eq text (codes "neg") then Some word.Neg
    else if bytes_eq text (codes "double") then Some word.Double
    else if bytes_eq text (codes "copy") then Some word.Copy
    else if bytes_eq text (codes "swap") then Some word.Swap
    else None

-- the word that a line begins with, where it is a word of the language
unfoldable pub keyword_of : List ℕ → Option Keyword
keyword_of text = option_or (frame_keyword text) (option_or (statement_keyword text) (variable_keyword text))

-- a statement without a block, by the words behind its first word
unfoldable pub statement_of : Keyword → Words → Option (Statement Name)
statement_of word.Get words = option_map (λ p. Get p.0 p.1) (name_and_var words)
statement_of word.GetAdd words = option_map (λ p. GetAdd p.0 p.1) (name_and_var words)
statement_of word.GetSub words = option_map (λ p. GetSub p.0 p.1) (name_and_var words)
statement_of word.Put words = put_of words
statement_of word.Move words = option_map (λ p. Move p.0 p.1) (two_names words)
statement_of word.Set words = option_map (λ p. Set p.0 p.1) (var_and_number words)
statement_of word.Add words = option_map (λ p. Add p.0 p.1) (var_and_number words)
statement_of word.Sub words = option_map (λ p. Sub p.0 p.1) (var_and_number words)
statement_of word.Neg words = option_map Neg (one_var words)
statement_of word.Double words = option_map Double (one_var words)
statement_of word.Copy words = option_map (λ p. Copy p.0 p.1) (two_vars words)
statement_of word.Swap words = at_end words Swap
statement_of keyword words = None

-- what a line says, by the words behind its first word
unfoldable pub said : Keyword → Words → Option LineForm
said word.Net words = version_of words
said word.Tiles words = option_map TilesLine (tiles_of words)
said word.Input words = option_map (λ p. Input p.0 p.1 p.2) (port_of words)
said word.Output words = option_map (λ p. Output p.0 p.1 p.2) (port_of words)
said word.Channel words = option_map (λ p. Channel p.0 p.1) (channel_of words)
said word.Process words = option_map (λ p. Process p.0 p.1) (process_of words)
said word.Else words = at_end words Else
said word.End words = at_end words End
said word.If words = option_map (λ p. OpensIf p.0 p.1) (test_against_zero words)
said word.While words = option_map (λ p. OpensWhile p.0 p.1) (test_against_zero words)
said word.Count words = option_map OpensCount (one_var words)
said keyword words = option_map Simple (statement_of keyword words)

-- what a line with these words says
unfoldable pub form_of : Words → LineForm
form_of [] = Malformed
form_of (text ∷ words) = unwrap_or (option_and_then (λ keyword. said keyword words) (keyword_of text)) Malformed

-- ---- the lines of a text

-- a line that isn't blank: its number, and what it says
pub record Line : Type 0 where
  pub number : ℕ
  pub form : LineForm

-- a line by its words
abbrev pub line_of : NonBlank → Line
line_of filled = record { number = filled.number; form = form_of filled.words }

-- a line past the last one that a network may have is wrong, whatever it holds
abbrev pub line_past : NonBlank → Line
line_past filled = record { number = filled.number; form = Malformed }

-- the first so many lines by their words, and each later one malformed
unfoldable pub lines_up_to : ℕ → List NonBlank → List Line
lines_up_to most filled = map line_of (take most filled) ++ map line_past (drop most filled)

-- the lines of a text that aren't blank, of which at most 65,535 say something
unfoldable pub lines_of : List ℕ → List Line
lines_of text = lines_up_to 65535 (non_blank_lines BehindHash text)
