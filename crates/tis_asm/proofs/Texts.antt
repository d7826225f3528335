-- The text of a program, line by line.
use Rattle.std.proofs.Common.{◌≡◌, ℕ, zero, suc, ◌+◌, List, [], ◌∷◌, ◌++◌, take, Some, sym, ap, ◌∙◌, append_assoc, add-one, arith}
use Rattle.std.specs.Prelude.{slice_get}
use Rattle.tis_base.specs.Lines.{text_of_lines}
use Rattle.tis_asm.specs.declared.program.MarkedInstr.{MarkedInstr}
use Rattle.tis_asm.specs.Code.{line_text, lines_from}

-- the text of the first of these instructions of a program, and of one more
text_more : (program rest : List MarkedInstr) (number index : ℕ) (marked : MarkedInstr) → slice_get rest index ≡ Some marked → text_of_lines (lines_from program number (take (suc index) rest)) ≡ text_of_lines (lines_from program number (take index rest)) ++ line_text program (number + index) marked ++ 10 ∷ []
text_more program [] number index marked found = absurd cc
text_more program (first ∷ rest) number zero marked found =
    let here : number + 0 ≡ number = omega arith in
    rw here (ap (λ (m : MarkedInstr). line_text program number m ++ 10 ∷ []) cc)
text_more program (first ∷ rest) number (suc index) marked found =
    let there : number + suc index ≡ number + 1 + index = omega arith in
    let here = line_text program number first in
    let behind = line_text program (number + 1 + index) marked in
    rw there
    (ap (λ (text : List ℕ). here ++ 10 ∷ text) (text_more program rest (number + 1) index marked found)
    ∙ sym (append_assoc here (10 ∷ text_of_lines (lines_from program (number + 1) (take index rest)) ++ behind) (10 ∷ []))
    ∙ ap (λ (text : List ℕ). text ++ 10 ∷ []) (sym (append_assoc here (10 ∷ text_of_lines (lines_from program (number + 1) (take index rest))) behind)))

-- the text of the first lines, and of one more
pub code_text-take : (program : List MarkedInstr) (index : ℕ) (marked : MarkedInstr) → slice_get program index ≡ Some marked → text_of_lines (lines_from program 0 (take (index + 1) program)) ≡ text_of_lines (lines_from program 0 (take index program)) ++ line_text program index marked ++ 10 ∷ []
code_text-take program index marked found = rw add-one (text_more program program 0 index marked found ∙ ap (λ (n : ℕ). text_of_lines (lines_from program 0 (take index program)) ++ line_text program n marked ++ 10 ∷ []) (omega arith))
