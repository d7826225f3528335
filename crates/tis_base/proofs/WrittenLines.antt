-- The lines of a text that was written line by line.
use Rattle.std.proofs.Common.{◌≡◌, ℕ, Bool, true, false, cond, List, [], ◌∷◌, ◌++◌, map, refl, sym, ap, ◌∙◌, append_assoc}
use Rattle.std.specs.Prelude.{◌||◌, ◌==◌, not}
use Rattle.std.specs.List.{list_all}
use Rattle.std.proofs.lemmas.Bool.{and_parts, and_from}
use Rattle.std.proofs.lemmas.List.Folds.{list_all-append}
use Rattle.tis_base.specs.Lines.{onto_first, pieces_where, without_cr, without_empty_end, text_lines, text_of_lines}

-- neither LF nor CR
abbrev pub is_plain_byte : ℕ → Bool
is_plain_byte byte = not (byte == 10 || byte == 13)

-- a line without LF and CR
abbrev pub is_plain_line : List ℕ → Bool
is_plain_line line = list_all is_plain_byte line

-- neither is true where it isn't so that one of them is
not_either : (a b : Bool) → not (a || b) ≡ true → (a ≡ false) × (b ≡ false)
not_either true b is = absurd cc
not_either false true is = absurd cc
not_either false false is = (refl, refl)

-- what isn't true is false
pub not_is : (a : Bool) → not a ≡ true → a ≡ false
not_is true is = absurd cc
not_is false is = refl

-- what joins two that pass passes
pub list_all-join : {X : Type 0} (test : X → Bool) (prefix back : List X) → list_all test prefix ≡ true → list_all test back ≡ true → list_all test (prefix ++ back) ≡ true
list_all-join test prefix back prefix_passes back_passes = list_all-append test prefix back ∙ and_from (list_all test prefix) (list_all test back) prefix_passes back_passes

-- a byte that doesn't separate belongs to the first piece
pieces_step : (separates : ℕ → Bool) (byte : ℕ) (bytes piece : List ℕ) (pieces : List (List ℕ)) → separates byte ≡ false → pieces_where separates bytes ≡ piece ∷ pieces → pieces_where separates (byte ∷ bytes) ≡ (byte ∷ piece) ∷ pieces
pieces_step separates byte bytes piece pieces keeps is =
    ap (λ (b : Bool). cond b ([] ∷ pieces_where separates bytes) (onto_first byte (pieces_where separates bytes))) keeps ∙ ap (onto_first byte) is

-- the first piece ends at the first byte that separates
pub pieces-first : (separates : ℕ → Bool) (piece rest : List ℕ) (byte : ℕ) → list_all (λ b. not (separates b)) piece ≡ true → separates byte ≡ true → pieces_where separates (piece ++ byte ∷ rest) ≡ piece ∷ pieces_where separates rest
pieces-first separates [] rest byte whole ends = ap (λ (b : Bool). cond b ([] ∷ pieces_where separates rest) (onto_first byte (pieces_where separates rest))) ends
pieces-first separates (first ∷ piece) rest byte whole ends =
    let parts = and_parts (not (separates first)) (list_all (λ b. not (separates b)) piece) whole in
    pieces_step separates first (piece ++ byte ∷ rest) piece (pieces_where separates rest) (not_is (separates first) parts.0) (pieces-first separates piece rest byte parts.1 ends)

-- what has no byte that separates is one piece
pub pieces-last : (separates : ℕ → Bool) (piece : List ℕ) → list_all (λ b. not (separates b)) piece ≡ true → pieces_where separates piece ≡ piece ∷ []
pieces-last separates [] whole = refl
pieces-last separates (first ∷ piece) whole =
    let parts = and_parts (not (separates first)) (list_all (λ b. not (separates b)) piece) whole in
    pieces_step separates first piece piece [] (not_is (separates first) parts.0) (pieces-last separates piece parts.1)

-- a plain line has no LF
no_lf : (line : List ℕ) → is_plain_line line ≡ true → list_all (λ b. not (b == 10)) line ≡ true
no_lf [] plain = refl
no_lf (byte ∷ bytes) plain =
    let parts = and_parts (is_plain_byte byte) (list_all is_plain_byte bytes) plain in
    and_from (not (byte == 10)) (list_all (λ b. not (b == 10)) bytes) (ap not (not_either (byte == 10) (byte == 13) parts.0).0) (no_lf bytes parts.1)

-- a plain line has no CR at its end
no_cr : (line : List ℕ) → is_plain_line line ≡ true → without_cr line ≡ line
no_cr [] plain = refl
no_cr (byte ∷ []) plain =
    let parts = and_parts (is_plain_byte byte) true plain in
    ap (λ (b : Bool). cond b [] (byte ∷ [])) (not_either (byte == 10) (byte == 13) parts.0).1
no_cr (byte ∷ next ∷ bytes) plain =
    let parts = and_parts (is_plain_byte byte) (list_all is_plain_byte (next ∷ bytes)) plain in
    ap (λ (rest : List ℕ). byte ∷ rest) (no_cr (next ∷ bytes) parts.1)

-- so the lines stay as they are
no_crs : (lines : List (List ℕ)) → list_all is_plain_line lines ≡ true → map without_cr lines ≡ lines
no_crs [] plain = refl
no_crs (line ∷ lines) plain =
    let parts = and_parts (is_plain_line line) (list_all is_plain_line lines) plain in
    ap (λ (first : List ℕ). first ∷ map without_cr lines) (no_cr line parts.0) ∙ ap (λ (rest : List (List ℕ)). line ∷ rest) (no_crs lines parts.1)

-- the pieces of a text are its lines, and an empty one behind the last LF
pieces-text : (lines : List (List ℕ)) → list_all is_plain_line lines ≡ true → pieces_where (λ byte. byte == 10) (text_of_lines lines) ≡ lines ++ [] ∷ []
pieces-text [] plain = refl
pieces-text (line ∷ lines) plain =
    let parts = and_parts (is_plain_line line) (list_all is_plain_line lines) plain in
    pieces-first (λ byte. byte == 10) line (text_of_lines lines) 10 (no_lf line parts.0) refl ∙ ap (λ (rest : List (List ℕ)). line ∷ rest) (pieces-text lines parts.1)

-- only the last piece is looked at
pub end_step : (piece next : List ℕ) (pieces : List (List ℕ)) → without_empty_end (piece ∷ next ∷ pieces) ≡ piece ∷ without_empty_end (next ∷ pieces)
end_step [] next pieces = refl
end_step (byte ∷ piece) next pieces = refl

-- the empty piece at the end is no line
end_gone : (lines : List (List ℕ)) → without_empty_end (lines ++ [] ∷ []) ≡ lines
end_gone [] = refl
end_gone (line ∷ []) = end_step line [] []
end_gone (line ∷ next ∷ lines) = end_step line next (lines ++ [] ∷ []) ∙ ap (λ (rest : List (List ℕ)). line ∷ rest) (end_gone (next ∷ lines))

-- the lines of a text that was written line by line
pub text_lines-text_of_lines : (lines : List (List ℕ)) → list_all is_plain_line lines ≡ true → text_lines (text_of_lines lines) ≡ lines
text_lines-text_of_lines lines plain =
    ap (λ (pieces : List (List ℕ)). map without_cr (without_empty_end pieces)) (pieces-text lines plain) ∙ ap (map without_cr) (end_gone lines) ∙ no_crs lines plain

-- the text of the first lines stands before that of the others
pub text_of_lines-append : (prefix back : List (List ℕ)) → text_of_lines (prefix ++ back) ≡ text_of_lines prefix ++ text_of_lines back
text_of_lines-append [] back = refl
text_of_lines-append (line ∷ prefix) back =
    ap (λ (text : List ℕ). line ++ 10 ∷ text) (text_of_lines-append prefix back) ∙ sym (append_assoc line (10 ∷ text_of_lines prefix) (text_of_lines back))
