-- A text has no more lines than bytes.
use Rattle.std.proofs.Common.{◌≤◌, ℕ, suc, Bool, true, false, cond, List, [], ◌∷◌, length, sym, subst, arith}
use Rattle.std.proofs.lemmas.List.{length-map}
use Rattle.std.specs.Prelude.{◌==◌}
use Rattle.tis_base.specs.Lines.{onto_first, pieces_where, without_cr, without_empty_end, text_lines}

-- a byte that separates adds a piece
one_piece_more : (n : ℕ) (pieces : List (List ℕ)) → length (without_empty_end pieces) ≤ n → length (without_empty_end ([] ∷ pieces)) ≤ suc n
one_piece_more n [] below = omega arith
one_piece_more n (piece ∷ pieces) below = omega arith

-- a byte that doesn't adds none, but where the last piece was empty
one_byte_more : (n byte : ℕ) (pieces : List (List ℕ)) → length (without_empty_end pieces) ≤ n → length (without_empty_end (onto_first byte pieces)) ≤ suc n
one_byte_more n byte [] below = omega arith
one_byte_more n byte (piece ∷ []) below = omega arith
one_byte_more n byte ([] ∷ next ∷ pieces) below = omega arith
one_byte_more n byte ((first ∷ piece) ∷ next ∷ pieces) below = omega arith

pieces_fit : (separates : ℕ → Bool) (bytes : List ℕ) → length (without_empty_end (pieces_where separates bytes)) ≤ length bytes
pieces_fit separates [] = omega arith
pieces_fit separates (byte ∷ bytes) =
    elim (separates byte) as (λ b. length (without_empty_end (cond b ([] ∷ pieces_where separates bytes) (onto_first byte (pieces_where separates bytes)))) ≤ suc (length bytes)) [
      | true ↦ one_piece_more (length bytes) (pieces_where separates bytes) (pieces_fit separates bytes)
      | false ↦ one_byte_more (length bytes) byte (pieces_where separates bytes) (pieces_fit separates bytes)
    ]

pub lines_fit : (text : List ℕ) → length (text_lines text) ≤ length text
lines_fit text = subst (λ (n : ℕ). n ≤ length text) (sym (length-map (without_empty_end (pieces_where (λ byte. byte == 10) text)) without_cr)) (pieces_fit (λ byte. byte == 10) text)
