-- The first line of a text, and the lines behind it.
use Rattle.std.proofs.Common.{◌≡◌, ◌<◌, ◌≤◌, ℕ, ◌+◌, Bool, true, false, cond, List, [], ◌∷◌, ◌++◌, length, map, take, drop, refl, sym, ap, ◌∙◌, arith}
use Rattle.std.specs.Prelude.{not, ◌==◌}
use Rattle.std.specs.List.{slice_split, onto_first as std_onto_first, position_or_len, before_first, after_first}
use Rattle.std.proofs.Common.{inl, inr}
use Rattle.std.proofs.Math.Nat.{eq-or-lt_of_le}
use Rattle.std.proofs.lemmas.List.{take_all, drop_all}
use Rattle.std.proofs.lemmas.List.Splits.{slice_split_first}
use Rattle.std.proofs.lemmas.List.Sums.{prefix_len-le-length}
use Rattle.tis_base.specs.Lines.{onto_first, pieces_where, without_cr, without_empty_end, text_lines}
use Rattle.tis_base.proofs.WrittenLines.{end_step}

-- a CR at the end is dropped
pub without_cr-cr : (before : List ℕ) → without_cr (before ++ 13 ∷ []) ≡ before
without_cr-cr [] = refl
without_cr-cr (byte ∷ []) = refl
without_cr-cr (byte ∷ next ∷ before) = ap (λ (bytes : List ℕ). byte ∷ bytes) (without_cr-cr (next ∷ before))

-- another byte at the end stays
pub without_cr-other : (before : List ℕ) (last : ℕ) → (last == 13) ≡ false → without_cr (before ++ last ∷ []) ≡ before ++ last ∷ []
without_cr-other [] last other = ap (λ (b : Bool). cond b [] (last ∷ [])) other
without_cr-other (byte ∷ []) last other = ap (λ (b : Bool). byte ∷ cond b [] (last ∷ [])) other
without_cr-other (byte ∷ next ∷ before) last other = ap (λ (bytes : List ℕ). byte ∷ bytes) (without_cr-other (next ∷ before) last other)

same_onto : (byte : ℕ) (pieces : List (List ℕ)) → onto_first byte pieces ≡ std_onto_first byte pieces
same_onto byte [] = refl
same_onto byte (piece ∷ pieces) = refl

-- the pieces are the parts that std splits a list into
pieces-split : (separates : ℕ → Bool) (bytes : List ℕ) → pieces_where separates bytes ≡ slice_split separates bytes
pieces-split separates [] = refl
pieces-split separates (byte ∷ bytes) =
    let before = pieces-split separates bytes in
    elim (separates byte) as (λ b. cond b ([] ∷ pieces_where separates bytes) (onto_first byte (pieces_where separates bytes)) ≡ cond b ([] ∷ slice_split separates bytes) (std_onto_first byte (slice_split separates bytes))) [
      | true ↦ ap (λ (pieces : List (List ℕ)). [] ∷ pieces) before
      | false ↦ ap (onto_first byte) before ∙ same_onto byte (slice_split separates bytes)
    ]

-- there is a first piece
some_piece : (separates : ℕ → Bool) (bytes : List ℕ) → (piece : List ℕ) × (pieces : List (List ℕ)) × (pieces_where separates bytes ≡ piece ∷ pieces)
some_piece separates [] = ([], [], refl)
some_piece separates (byte ∷ bytes) =
    let behind = some_piece separates bytes in
    elim (separates byte) as (λ b. (piece : List ℕ) × (pieces : List (List ℕ)) × (cond b ([] ∷ pieces_where separates bytes) (onto_first byte (pieces_where separates bytes)) ≡ piece ∷ pieces)) [
      | true ↦ ([], pieces_where separates bytes, refl)
      | false ↦ (byte ∷ behind.0, behind.1, ap (onto_first byte) behind.2)
    ]

-- what nothing separates is one piece
one_piece : (separates : ℕ → Bool) (bytes : List ℕ) → length bytes ≤ position_or_len separates bytes → pieces_where separates bytes ≡ bytes ∷ []
one_piece separates [] whole = refl
one_piece separates (byte ∷ bytes) whole =
    elim (separates byte) as (λ b. length (byte ∷ bytes) ≤ cond (not b) (1 + position_or_len separates bytes) 0 → cond b ([] ∷ pieces_where separates bytes) (onto_first byte (pieces_where separates bytes)) ≡ (byte ∷ bytes) ∷ []) [
      | true ↦ λ none. absurd (omega arith)
      | false ↦ λ more. ap (onto_first byte) (one_piece separates bytes (omega arith))
    ] whole

-- only the last piece is looked at
keeps_first : (piece : List ℕ) (pieces : List (List ℕ)) (next : List ℕ) (more : List (List ℕ)) → pieces ≡ next ∷ more → without_empty_end (piece ∷ pieces) ≡ piece ∷ without_empty_end pieces
keeps_first piece pieces next more is = rw is (end_step piece next more)

-- a text without an LF that isn't empty is one line
only_line : (text : List ℕ) (n : ℕ) → 0 < length text → length text ≤ n → without_cr text ∷ [] ≡ without_cr (take n text) ∷ text_lines (drop (n + 1) text)
only_line text n some all =
    let whole : take n text ≡ text = take_all n text all in
    let gone : drop (n + 1) text ≡ [] = drop_all (n + 1) text (omega arith) in
    sym (ap (λ (line : List ℕ). without_cr line ∷ text_lines (drop (n + 1) text)) whole ∙ ap (λ (rest : List ℕ). without_cr text ∷ text_lines rest) gone)

one_line : (text : List ℕ) → 0 < length text → map without_cr (without_empty_end (text ∷ [])) ≡ without_cr text ∷ []
one_line [] some = absurd (omega arith)
one_line (byte ∷ bytes) some = refl

-- the first line of a text that isn't empty, and the lines behind it
pub text_lines-next : (text : List ℕ) → 0 < length text → text_lines text ≡ without_cr (before_first (λ byte. byte == 10) text) ∷ text_lines (after_first (λ byte. byte == 10) text)
text_lines-next text some =
    let is_lf : ℕ → Bool = λ byte. byte == 10 in
    let behind = after_first is_lf text in
    let lines_of : List (List ℕ) → List (List ℕ) = λ pieces. map without_cr (without_empty_end pieces) in
    elim (eq-or-lt_of_le (prefix_len-le-length (λ (byte : ℕ). not (byte == 10)) text)) [
      | inl is ↦ ap lines_of (one_piece is_lf text (omega arith)) ∙ one_line text some ∙ only_line text (position_or_len is_lf text) some (omega arith)
      | inr below ↦
          let cut : pieces_where is_lf text ≡ before_first is_lf text ∷ pieces_where is_lf behind = pieces-split is_lf text ∙ slice_split_first is_lf text 0 below ∙ ap (λ (pieces : List (List ℕ)). before_first is_lf text ∷ pieces) (sym (pieces-split is_lf behind)) in
          let more = some_piece is_lf behind in
          ap lines_of cut ∙ ap (map without_cr) (keeps_first (before_first is_lf text) (pieces_where is_lf behind) more.0 more.1 more.2)
    ]
