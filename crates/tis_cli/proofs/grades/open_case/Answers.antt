use Rattle.std.proofs.Common.{List, [], ◌∷◌, ◌++◌, sym, ap, ◌∙◌}
use Rattle.std.proofs.lemmas.Result.{err_from_is_err_and}
use Rattle.tis_grade.specs.declared.cases.Case.{Case}
use Rattle.tis_cli.specs.Commands.{kept_seeds}
use Rattle.tis_cli.specs.Runs.{over_cases}
use Rattle.tis_cli.proofs.grades.open_case.Goals as goal

pub returns-in_err-grid : goal.returns-in_err-grid
returns-in_err-grid c given seeds next gives =
    let p = err_from_is_err_and c.from_residual.result c.from_residual.ensures.1 in
    rw (c.in-Some.is, p.1, p.2)
    (c.in_err-grid.ensures (given c.in-Some.seed) (λ grid. over_cases c.args.save.now given (c.args.cases.now.items ++ record { seed = c.in-Some.seed; grid = grid } ∷ []) (kept_seeds seeds) next) (gives c.in-Some.seed))

pub returns : goal.returns
returns c given seeds next gives =
    rw c.in-Some.is
    (c.in_ok-grid.ensures (given c.in-Some.seed) (λ grid. over_cases c.args.save.now given (c.args.cases.now.items ++ record { seed = c.in-Some.seed; grid = grid } ∷ []) (kept_seeds seeds) next) (gives c.in-Some.seed)
    ∙ ap (λ (cases : List Case). over_cases c.args.save.now given cases (kept_seeds seeds) next) (sym c.in_ok-push_case.ensures))
