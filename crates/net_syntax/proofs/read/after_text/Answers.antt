use Rattle.std.proofs.Common.{◌∙◌, sym, subst, Result}
use Rattle.std.proofs.lemmas.Result.{err_from_is_err_and}
use Rattle.net_syntax.specs.Refusals.{NetRefusal}
use Rattle.net_syntax.specs.Reading.{Configuration, after_lines}
use Rattle.net_syntax.specs.ReaderView.{IsError, configuration_view}
use Rattle.net_syntax.proofs.Limits.{line_passed, line_refused, all_passed}
use Rattle.net_syntax.proofs.read.after_text.Goals as goal

pub returns-in_err-sofar : goal.returns-in_err-sofar
returns-in_err-sofar c =
    let error = c.in_err-sofar.field-0.0 in
    let seen = configuration_view c.lines.sofar in
    let refused : IsError error (after_lines seen _) =
    line_refused error seen c.lines.left c.in-Some.line c.lines.lines _ c.in-Some.form _ c.in-Some.ensures c.form_in.ensures c.in_err-sofar.ensures in
    let all : IsError error (after_lines (configuration_view c.args.sofar) _) = subst (λ (r : Result Configuration NetRefusal). IsError error r) (sym c.lines.invariant.lines) refused in
    let p = err_from_is_err_and c.from_residual.result c.from_residual.ensures.1 in rw (p.1, p.2) all

pub lines-preserved : goal.lines-preserved
lines-preserved c =
    record {
      lines = c.lines.invariant.lines ∙ line_passed (configuration_view c.lines.sofar) (configuration_view c.in_ok-sofar.sofar) c.lines.left c.in-Some.line _ c.lines.lines _ c.in-Some.form _ c.in-Some.ensures c.form_in.ensures c.saturating_sub-left.ensures c.in_ok-sofar.ensures;
    }

pub returns : goal.returns
returns c = c.lines.invariant.lines ∙ all_passed (configuration_view c.lines.sofar) c.lines.left c.lines.lines c.in_default.ensures
