-- A text is cut into tokens, from left to right; names, numerals and signs are as long as they can be. Spaces, tabs, line ends and comments
-- part them. What begins no token is a token of the kind `Bad`, which no form of the grammar takes. Past the end a byte reads as 0.
use Rattle.std.specs.Prelude.{ℕ, zero, suc, ◌+◌, ◌-◌, ◌*◌, min, pos, Bool, true, false, not, ◌&&◌, ◌||◌, if◌then◌else◌, ◌==◌, nat_le, List, [], ◌∷◌, ◌++◌, length, take, drop, fold, count_by, slice_index, Option, Some, None, codes}
use Rattle.std.specs.Char.{is_ascii_digit, is_ascii_alphabetic, is_ascii_alphanumeric}
use Rattle.std.specs.List.{prefix_len}
use Rattle.std.specs.Str.{bytes_eq}
use Rattle.lua_tree.specs.declared.tree.BinaryOp.TheVariants as binary
use Rattle.lua_tokens.specs.declared.kind.Role.TheVariants.{Plain, Math, Table}
use Rattle.lua_tokens.specs.declared.kind.Kind.{Kind}
use Rattle.lua_tokens.specs.declared.kind.Kind.TheVariants as k
use Rattle.lua_tokens.specs.declared.pieces.Piece.{Piece}
use Rattle.lua_tokens.specs.declared.pieces.Token.{Token}
use Rattle.lua_tokens.specs.declared.words.Class.{Class}
use Rattle.lua_tokens.specs.declared.words.Class.TheVariants as class

-- ---- runs of bytes

abbrev pub is_in : Class → ℕ → Bool
is_in class.Letter b = is_ascii_alphabetic b || b == 95
is_in class.Digit b = is_ascii_digit b
is_in class.Word b = is_ascii_alphanumeric b || b == 95
is_in class.Line b = not (b == 10)

-- the first place from `at` on whose byte isn't of the class, or the end
abbrev pub past : Class → List ℕ → ℕ → ℕ
past c z at = at + prefix_len (is_in c) (drop at z)

-- ---- words

-- the reserved words, and the names of the libraries
abbrev pub words : List (List ℕ × Kind)
words =
    (codes "and", k.Operator binary.And) ∷ (codes "break", k.Break) ∷ (codes "do", k.Do) ∷ (codes "else", k.Else)
    ∷ (codes "elseif", k.ElseIf) ∷ (codes "end", k.End) ∷ (codes "false", k.False) ∷ (codes "for", k.For)
    ∷ (codes "function", k.Function) ∷ (codes "goto", k.Goto) ∷ (codes "if", k.If) ∷ (codes "in", k.In)
    ∷ (codes "local", k.Local) ∷ (codes "nil", k.Nil) ∷ (codes "not", k.Not) ∷ (codes "or", k.Operator binary.Or)
    ∷ (codes "repeat", k.Repeat) ∷ (codes "return", k.Return) ∷ (codes "then", k.Then) ∷ (codes "true", k.True)
    ∷ (codes "until", k.Until) ∷ (codes "while", k.While) ∷ (codes "math", k.Name Math) ∷ (codes "table", k.Name Table) ∷ []

abbrev pub lookup : List (List ℕ × Kind) → List ℕ → Kind
lookup [] word = k.Name Plain
lookup (entry ∷ entries) word = if bytes_eq entry.0 word then entry.1 else lookup entries word

-- what a word is
unfoldable pub word_kind : List ℕ → Kind
word_kind word = lookup words word

-- ---- numerals

-- the number that decimal digits stand for
abbrev pub numeral_value : List ℕ → ℕ
numeral_value = fold (λ n b. 10 * n + (b - 48)) 0

-- the greatest number is 2^53
abbrev pub greatest : ℕ
greatest = 9007199254740992

-- a numeral, which is no token above the greatest number
unfoldable pub numeral_kind : List ℕ → Kind
numeral_kind digits = if nat_le (numeral_value digits) greatest then k.Number (pos (numeral_value digits)) else k.Bad

-- the same value, where all from the first too large number on are one
abbrev pub held_value : List ℕ → ℕ
held_value = fold (λ n b. min (10 * n + (b - 48)) 9007199254740993) 0

-- ---- strings

-- the byte that an escape stands for, if it is one
abbrev pub escape : ℕ → Option ℕ
escape b = if b == 110 then Some 10 else (if b == 116 then Some 9 else (if b == 92 || b == 39 || b == 34 then Some b else None))

-- one more byte of a string, which takes so many bytes of the text
abbrev pub onto : ℕ → ℕ → Option (List ℕ × ℕ) → Option (List ℕ × ℕ)
onto b count None = None
onto b count (Some found) = Some (b ∷ found.0, count + found.1)

abbrev pub onto_escaped : Option ℕ → Option (List ℕ × ℕ) → Option (List ℕ × ℕ)
onto_escaped None found = None
onto_escaped (Some b) found = onto b 2 found

-- what stands in a string behind its quote, and how many bytes that takes up to and with the closing quote; there is
-- none where the line or the text ends before, or where another escape stands
unfoldable pub quoted : ℕ → List ℕ → Option (List ℕ × ℕ)
quoted quote [] = None
quoted quote (b ∷ []) = if b == quote then Some ([], 1) else None
quoted quote (b ∷ c ∷ z) =
    if b == quote then Some ([], 1)
    else (if b == 10 then None
    else (if b == 92 then onto_escaped (escape c) (quoted quote z)
    else onto b 1 (quoted quote (c ∷ z))))

-- ---- pieces: a token, or a byte or a comment between tokens, at the front of what isn't empty

abbrev pub plain : Kind → ℕ → Piece
plain kind len = record { kind = kind; text = []; len = len }

-- what begins no token, an open string, a string with another escape, an open comment
abbrev pub bad : Piece
bad = plain k.Bad 1

-- of words, only a name keeps its bytes
abbrev pub word_of : Kind → List ℕ → Piece
word_of (k.Name role) word = record { kind = k.Name role; text = word; len = length word }
word_of kind word = plain kind (length word)

-- a name or a reserved word
unfoldable pub word_piece : List ℕ → Piece
word_piece z = word_of (word_kind (take (past class.Word z 0) z)) (take (past class.Word z 0) z)

-- a numeral, the longest run of digits
unfoldable pub numeral_piece : List ℕ → Piece
numeral_piece z = plain (numeral_kind (take (past class.Digit z 0) z)) (past class.Digit z 0)

abbrev pub string_of : Option (List ℕ × ℕ) → Piece
string_of None = bad
string_of (Some found) = record { kind = k.Str; text = found.0; len = found.1 + 1 }

-- a string
unfoldable pub string_piece : List ℕ → Piece
string_piece z = string_of (quoted (slice_index z 0) (drop 1 z))

abbrev pub one_more : Option ℕ → Option ℕ
one_more None = None
one_more (Some n) = Some (n + 1)

-- how many bytes there are up to and with the first `]]`
abbrev pub closing : List ℕ → Option ℕ
closing [] = None
closing (b ∷ z) = if b == 93 && slice_index z 0 == 93 then Some 2 else one_more (closing z)

abbrev pub long_comment_of : Option ℕ → Piece
long_comment_of None = bad
long_comment_of (Some n) = plain k.Blank (n + 4)

-- from `--` on: up to `]]` where `[[` follows, which is no token where no `]]` comes, and else to the end of the line
unfoldable pub comment_piece : List ℕ → Piece
comment_piece z =
    if slice_index z 2 == 91 && slice_index z 3 == 91 then long_comment_of (closing (drop 4 z))
    else plain k.Blank (past class.Line z 2)

-- a sign of one byte, or of two with `=`
abbrev pub with_equals : ℕ → Kind → Kind → Piece
with_equals next double single = if next == 61 then plain double 2 else plain single 1

-- a carriage return is part of a line end, or of the end of the text, and else no token
abbrev pub carriage_return : List ℕ → Piece
carriage_return z = if slice_index z 1 == 10 || length z == 1 then plain k.Blank 1 else bad

-- signs of one byte that begin no longer one, and bytes that begin nothing
abbrev pub plain_sign : ℕ → Piece
plain_sign b =
    if b == 43 then plain (k.Operator binary.Plus) 1
    else (if b == 42 then plain (k.Operator binary.Times) 1
    else (if b == 47 then plain (k.Operator binary.Over) 1
    else (if b == 37 then plain (k.Operator binary.Mod) 1
    else (if b == 35 then plain k.Hash 1
    else (if b == 40 then plain k.LeftParen 1
    else (if b == 41 then plain k.RightParen 1
    else (if b == 123 then plain k.LeftBrace 1
    else (if b == 125 then plain k.RightBrace 1
    else (if b == 91 then plain k.LeftBracket 1
    else (if b == 93 then plain k.RightBracket 1
    else (if b == 59 then plain k.Semicolon 1
    else (if b == 44 then plain k.Comma 1
    else bad))))))))))))

-- signs that may be the front of a longer one, by the first byte and the next
abbrev pub two_byte_sign : ℕ → ℕ → Piece
two_byte_sign b next =
    if b == 46 then (if next == 46 then plain (k.Operator binary.Join) 2 else plain k.Dot 1)
    else (if b == 61 then with_equals next (k.Operator binary.Equal) k.Assign
    else (if b == 60 then with_equals next (k.Operator binary.LessEqual) (k.Operator binary.Less)
    else (if b == 62 then with_equals next (k.Operator binary.GreaterEqual) (k.Operator binary.Greater)
    else (if b == 126 then with_equals next (k.Operator binary.NotEqual) k.Bad
    else plain_sign b))))

-- blanks, comments and signs
unfoldable pub sign_piece : List ℕ → Piece
sign_piece z =
    let b = slice_index z 0 in
    let next = slice_index z 1 in
    if b == 32 || b == 9 || b == 10 then plain k.Blank 1
    else (if b == 13 then carriage_return z
    else (if b == 45 then (if next == 45 then comment_piece z else plain k.Minus 1)
    else two_byte_sign b next))

-- the piece at the front, by its first byte
unfoldable pub piece : List ℕ → Piece
piece z =
    let b = slice_index z 0 in
    if is_in class.Letter b then word_piece z
    else (if is_in class.Digit b then numeral_piece z
    else (if b == 34 || b == 39 then string_piece z
    else sign_piece z))

-- ---- the tokens of a text

-- how many line ends there are
abbrev pub line_ends : List ℕ → ℕ
line_ends = count_by (λ b. b == 10)

abbrev pub is_blank : Kind → Bool
is_blank k.Blank = true
is_blank _ = false

-- the token of a piece before the others, where the piece is one
abbrev pub onto_tokens : Piece → ℕ → List Token → List Token
onto_tokens p line tokens = if is_blank p.kind then tokens else record { kind = p.kind; line = line; text = p.text } ∷ tokens

-- the tokens of a text, of which some bytes belong to a piece that was cut before, behind so many line ends
abbrev pub cut : ℕ → ℕ → List ℕ → List Token
cut inside before [] = []
cut (suc inside) before (b ∷ z) = cut inside (if b == 10 then suc before else before) z
cut zero before (b ∷ z) = onto_tokens (piece (b ∷ z)) (before + 1) (cut ((piece (b ∷ z)).len - 1) (if b == 10 then suc before else before) z)

-- the last line of a text, which has no line behind its last line end; 1 where the text is empty
abbrev pub last_line : List ℕ → ℕ
last_line z = if slice_index z (length z - 1) == 10 then line_ends z else line_ends z + 1

-- the tokens, with the end of the text, which stands on the last line
unfoldable pub tokens : List ℕ → List Token
tokens z = cut 0 0 z ++ record { kind = k.EndOfText; line = last_line z; text = [] } ∷ []
