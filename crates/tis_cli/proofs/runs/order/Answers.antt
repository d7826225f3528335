use Rattle.std.proofs.Common.{sym, subst}
use Rattle.std.proofs.lemmas.Result.{err_from_is_err_and}
use Rattle.tis_cli.specs.Answers.{Answer}
use Rattle.tis_cli.specs.Runs.{ordered, order_answer}
use Rattle.tis_cli.specs.Ends.{Ends}
use Rattle.tis_cli.proofs.runs.order.Goals as goal

pub returns-in_err-grid : goal.returns-in_err-grid
unfolding order_answer
returns-in_err-grid c given gives =
    let p = err_from_is_err_and c.from_residual.result c.from_residual.ensures.1 in
    rw (p.1, p.2) (c.in_err-grid.ensures given (ordered c.args.order_seed c.args.limit) gives)

pub returns : goal.returns
unfolding order_answer
returns c given gives = subst (λ (a : Answer). Ends c.run_drawn.result a) (sym (c.in_ok-grid.ensures given (ordered c.args.order_seed c.args.limit) gives)) c.run_drawn.ensures
