use Rattle.std.proofs.Common.{sym, subst, Result}
use Rattle.net_syntax.specs.Grammar.{next_number}
use Rattle.net_syntax.specs.Refusals.{NetRefusal}
use Rattle.net_syntax.specs.Reading.{Configuration}
use Rattle.net_syntax.specs.ReaderView.{Answers, IsError, configuration_view}
use Rattle.net_syntax.proofs.Limits.{version_missing, version_cut}
use Rattle.net_syntax.proofs.read.after_version.Goals as goal

pub returns-in_default : goal.returns-in_default
returns-in_default c = subst (λ (r : Result Configuration NetRefusal). IsError c.missing_line.result r) (sym (version_missing (next_number c.args.whole.now) c.args.most c.args.lines.now c.in_default.ensures)) c.missing_line.ensures

pub returns : goal.returns
returns c =
    subst (λ (r : Result Configuration NetRefusal). Answers configuration_view c.from_second.result r)
    (sym (version_cut (next_number c.args.whole.now) c.args.most c.in-Some.line _ c.args.lines.now _ c.in-Some.form _ c.in-Some.ensures c.form_in-form.ensures c.saturating_sub.ensures))
    c.from_second.ensures
