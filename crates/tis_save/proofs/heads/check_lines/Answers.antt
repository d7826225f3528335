use Rattle.std.proofs.Common.{ℕ, ◌+◌, List, sym, ap, ◌∙◌, arith}
use Rattle.std.proofs.lemmas.Result.{err_from_is_err_and}
use Rattle.tis_base.specs.Lines.{text_lines}
use Rattle.tis_save.specs.Heads.{first_flagged_fault}
use Rattle.tis_words.proofs.Counting.{lines_fit}
use Rattle.tis_save.proofs.HeadLines.{flagged_is, line_refused}
use Rattle.tis_save.proofs.heads.check_lines.Goals as goal

pub overflow_add-at : goal.overflow_add-at
overflow_add-at c = grind (arith, lines_fit c.args.text.now, c.loop-line.invariant.2)

pub returns-in_err-check_line : goal.returns-in_err-check_line
returns-in_err-check_line c =
    let p = err_from_is_err_and c.from_residual.result c.from_residual.ensures.1 in
    rw (p.1, p.2) (line_refused c.args.count (c.loop-line.at + 1) c.loop-line.heads c.in-Some.line.now c.next.new.self c.loop-line.line-iterator _ c.in_err-check_line.field-0.0 c.in-Some.ensures.steps (c.loop-line.invariant.3 ∙ flagged_is c.args.count (text_lines c.args.text.now) c.requires) c.in_err-check_line.ensures.fault)

pub returns : goal.returns
returns c = sym (ap (λ (lines : List (List ℕ)). first_flagged_fault c.args.count c.loop-line.heads (c.loop-line.at + 1) lines) (sym c.in-None.ensures.steps.0) ∙ c.loop-line.invariant.3 ∙ flagged_is c.args.count (text_lines c.args.text.now) c.requires)
