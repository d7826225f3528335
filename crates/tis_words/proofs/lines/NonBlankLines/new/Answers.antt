use Rattle.std.proofs.Common.{ℕ, List, ◌≤◌, length, arith, subst, sym}
use Rattle.tis_words.proofs.Counting.{lines_fit}
use Rattle.tis_words.proofs.lines.NonBlankLines.new.Goals as goal

pub invariant_of-result : goal.invariant_of-result
invariant_of-result c =
    let fits : length c.lines.result ≤ length c.args.text.now = subst (λ (lines : List (List ℕ)). length lines ≤ length c.args.text.now) (sym c.lines.ensures) (lines_fit c.args.text.now) in
    grind (arith, fits)
