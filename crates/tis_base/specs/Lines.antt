-- The lines of a text.
use Rattle.std.specs.Prelude.{ℕ, Bool, List, [], ◌∷◌, ◌++◌, map, ◌==◌, if◌then◌else◌}

-- one more byte before the first piece
abbrev pub onto_first : ℕ → List (List ℕ) → List (List ℕ)
onto_first byte [] = (byte ∷ []) ∷ []
onto_first byte (piece ∷ pieces) = (byte ∷ piece) ∷ pieces

-- the pieces between the bytes that separate, one more than there are such bytes
abbrev pub pieces_where : (ℕ → Bool) → List ℕ → List (List ℕ)
pieces_where separates [] = [] ∷ []
pieces_where separates (byte ∷ bytes) = if separates byte then [] ∷ pieces_where separates bytes else onto_first byte (pieces_where separates bytes)

-- without one CR at the end
abbrev pub without_cr : List ℕ → List ℕ
without_cr [] = []
without_cr (byte ∷ []) = if byte == 13 then [] else byte ∷ []
without_cr (byte ∷ next ∷ bytes) = byte ∷ without_cr (next ∷ bytes)

-- without an empty piece at the end, since no line follows the last LF
abbrev pub without_empty_end : List (List ℕ) → List (List ℕ)
without_empty_end [] = []
without_empty_end ([] ∷ []) = []
without_empty_end ((byte ∷ piece) ∷ []) = (byte ∷ piece) ∷ []
without_empty_end (piece ∷ next ∷ pieces) = piece ∷ without_empty_end (next ∷ pieces)

-- the lines of a text: cut at each LF, without the CR at the end of a piece
abbrev pub text_lines : List ℕ → List (List ℕ)
text_lines text = map without_cr (without_empty_end (pieces_where (λ byte. byte == 10) text))

-- the text of these lines, each ended by LF
abbrev pub text_of_lines : List (List ℕ) → List ℕ
text_of_lines [] = []
text_of_lines (line ∷ lines) = line ++ 10 ∷ text_of_lines lines
