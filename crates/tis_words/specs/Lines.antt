-- The lines of a text that aren't blank.
use Rattle.std.specs.Prelude.{ℕ, ◌+◌, List, [], ◌∷◌}
use Rattle.tis_base.specs.Lines.{text_lines}
use Rattle.tis_words.specs.declared.comments.Comments.{Comments}
use Rattle.tis_words.specs.Words.{Words, line_words}

-- a line that isn't blank: its number, counted from 1 over all lines, and its words
pub record NonBlank : Type 0 where
  pub number : ℕ
  pub words : Words

-- a line with its number before the others, where it has words
abbrev pub non_blank_before : ℕ → Words → List NonBlank → List NonBlank
non_blank_before number [] lines = lines
non_blank_before number (word ∷ words) lines = record { number = number; words = word ∷ words } ∷ lines

-- the lines that aren't blank, where the first line has this number
abbrev pub non_blank_from : Comments → ℕ → List (List ℕ) → List NonBlank
non_blank_from comments number [] = []
non_blank_from comments number (line ∷ lines) = non_blank_before number (line_words comments line) (non_blank_from comments (number + 1) lines)

-- the lines of a text that aren't blank; a line that has only a comment is blank
abbrev pub non_blank_lines : Comments → List ℕ → List NonBlank
non_blank_lines comments text = non_blank_from comments 1 (text_lines text)
