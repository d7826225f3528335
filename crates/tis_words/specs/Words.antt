-- The words of a line.
use Rattle.std.specs.Prelude.{ℕ, Bool, true, false, ◌||◌, not, List, [], ◌∷◌, filter, ◌==◌}
use Rattle.std.specs.List.{take_while}
use Rattle.tis_base.specs.Lines.{pieces_where}
use Rattle.tis_words.specs.declared.comments.Comments.{Comments}
use Rattle.tis_words.specs.declared.comments.Comments.TheVariants.{BehindHash, Never}

-- a line as its words
abbrev pub Words : Type 0
Words = List (List ℕ)

-- a space or a tab
abbrev pub is_blank_byte : ℕ → Bool
is_blank_byte byte = byte == 32 || byte == 9

-- bytes, and not none
abbrev pub is_word : List ℕ → Bool
is_word [] = false
is_word (byte ∷ bytes) = true

-- what stands between bytes that separate
abbrev pub words_between : (ℕ → Bool) → List ℕ → Words
words_between separates bytes = filter is_word (pieces_where separates bytes)

-- what stands between blanks
abbrev pub words_in : List ℕ → Words
words_in bytes = words_between is_blank_byte bytes

-- what stands before the first `#`
abbrev pub before_comment : List ℕ → List ℕ
before_comment line = take_while (λ byte. not (byte == 35)) line

-- a line without its comment, where the text has comments
abbrev pub without_comment : Comments → List ℕ → List ℕ
without_comment BehindHash line = before_comment line
without_comment Never line = line

-- the words of a line: what stands between blanks, without its comment
abbrev pub line_words : Comments → List ℕ → Words
line_words comments line = words_in (without_comment comments line)
