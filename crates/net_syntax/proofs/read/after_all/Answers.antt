use Rattle.std.proofs.Common.{◌∙◌, sym, subst, List, Result}
use Rattle.tis_words.specs.declared.comments.Comments.TheVariants.{BehindHash}
use Rattle.tis_words.specs.Lines.{NonBlank, non_blank_lines}
use Rattle.net_syntax.specs.Grammar.{next_number}
use Rattle.net_syntax.specs.Refusals.{NetRefusal}
use Rattle.net_syntax.specs.Reading.{Configuration}
use Rattle.net_syntax.specs.ReaderView.{Answers, IsError, configuration_view}
use Rattle.net_syntax.specs.UnreadView.{IsNext}
use Rattle.net_syntax.proofs.Limits.{all_missing, all_cut}
use Rattle.net_syntax.proofs.read.after_all.Goals as goal

pub returns-in_default : goal.returns-in_default
returns-in_default c = subst (λ (r : Result Configuration NetRefusal). IsError c.missing_line.result r) (sym (all_missing (next_number c.args.text.now) c.args.most _ (sym c.new-lines.ensures ∙ c.in_default.ensures))) c.missing_line.ensures

pub returns : goal.returns
returns c =
    let next : IsNext (non_blank_lines BehindHash c.args.text.now) c.in-Some.form c.in-Some.line c.next_form.new.lines = subst (λ (lines : List NonBlank). IsNext lines c.in-Some.form c.in-Some.line c.next_form.new.lines) c.new-lines.ensures c.in-Some.ensures in
    subst (λ (r : Result Configuration NetRefusal). Answers configuration_view c.from_first.result r)
    (sym (all_cut (next_number c.args.text.now) c.args.most c.in-Some.line _ _ _ c.in-Some.form _ next c.form_in-form.ensures c.saturating_sub.ensures))
    c.from_first.ensures
