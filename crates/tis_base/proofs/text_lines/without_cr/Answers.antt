use Rattle.std.proofs.Common.{◌++◌, ◌∷◌, [], sym, ap, ◌∙◌, rules, tests}
use Rattle.tis_base.specs.Lines.{without_cr}
use Rattle.tis_base.proofs.NextLine.{without_cr-cr, without_cr-other}
use Rattle.tis_base.proofs.text_lines.without_cr.Goals as goal

pub returns-then-last-eq13 : goal.returns-then-last-eq13
returns-then-last-eq13 c =
    let before = c.in-Some.before.now in
    sym (ap without_cr c.in-Some.ensures.cases.0 ∙ ap (λ last. without_cr (before ++ last ∷ [])) c.if-last-eq13.true ∙ without_cr-cr before)

pub returns-else-last-eq13 : goal.returns-else-last-eq13
returns-else-last-eq13 c =
    let whole = c.in-Some.ensures.cases.0 in
    sym (ap without_cr whole ∙ without_cr-other c.in-Some.before.now c.in-Some.last.now (search (rules, tests)) ∙ sym whole)
