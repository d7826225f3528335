use Rattle.std.proofs.Common.{List, sym, ap, subst, ◌∙◌}
use Rattle.std.proofs.lemmas.Result.{err_from_is_err_and}
use Rattle.tis_grade.specs.declared.cases.Case.{Case}
use Rattle.tis_cli.specs.Answers.{Answer}
use Rattle.tis_cli.specs.Runs.{grades, grade_answer}
use Rattle.tis_cli.specs.Ends.{Ends}
use Rattle.tis_cli.proofs.grades.grade.Goals as goal

pub returns-in_err-cases : goal.returns-in_err-cases
unfolding grade_answer
returns-in_err-cases c given gives =
    let p = err_from_is_err_and c.from_residual.result c.from_residual.ensures.1 in
    rw (p.1, p.2) (c.in_err-cases.ensures given (grades c.args.limit) gives)

pub returns : goal.returns
unfolding grade_answer
returns c given gives = subst (λ (a : Answer). Ends c.grade_cases.result a) (ap (λ (cases : List Case). grades c.args.limit cases) c.deref.ensures.value ∙ sym (c.in_ok-cases.ensures given (grades c.args.limit) gives)) c.grade_cases.ensures
