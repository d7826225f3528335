-- A text that gives a puzzle begins as a grid does.
use Rattle.std.proofs.Common.{◌≡◌, ℕ, Bool, true, false, cond, List, [], ◌∷◌, length, Result, Ok, Err, refl, IsTrue, ◌+◌}
use Rattle.tis_base.specs.Lines.{text_lines}
use Rattle.tis_words.specs.declared.comments.Comments.TheVariants.{BehindHash}
use Rattle.tis_words.specs.Lines.{NonBlank, non_blank_lines}
use Rattle.tis_grid.specs.Puzzle.{Puzzle}
use Rattle.tis_grid_text.specs.GridText.{Refusal, begins_grid, grid_lines}
use Rattle.tis_grid_text.specs.Soundness.{GridsHaveHeads}

-- only a right line is followed by a puzzle
only_right : (right : Bool) (read : Result Puzzle Refusal) (why : Refusal) (puzzle : Puzzle) → cond right read (Err why) ≡ Ok puzzle → IsTrue right
only_right true read why puzzle is = refl
only_right false read why puzzle is = absurd cc

lines_begin : (missing : ℕ) (lines : List NonBlank) (puzzle : Puzzle) → grid_lines missing lines ≡ Ok puzzle → IsTrue (begins_grid lines)
lines_begin missing [] puzzle is = absurd cc
lines_begin missing (line ∷ lines) puzzle is = only_right _ _ _ puzzle is

pub grids_have_heads : GridsHaveHeads
grids_have_heads text puzzle is = lines_begin (length (text_lines text) + 1) (non_blank_lines BehindHash text) puzzle is
