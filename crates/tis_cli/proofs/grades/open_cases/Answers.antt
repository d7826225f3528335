-- The puzzle or the save of a seed was refused: so is the whole.
use Rattle.std.proofs.Common.{arith, ℕ, List, Option, None, ◌+◌, drop, sym, subst, ◌∙◌}
use Rattle.std.proofs.lemmas.List.{at_drop_more}
use Rattle.std.proofs.lemmas.Result.{err_from_is_err_and}
use Rattle.tis_cli.specs.Answers.{Answer}
use Rattle.tis_cli.specs.Commands.{kept_seeds}
use Rattle.tis_cli.specs.Ends.{Stops}
use Rattle.tis_cli.specs.Runs.{over_cases}
use Rattle.tis_cli.proofs.grades.open_cases.Goals as goal

pub returns-in_err-open_case : goal.returns-in_err-open_case
returns-in_err-open_case c given next gives =
    let p = err_from_is_err_and c.from_residual.result c.from_residual.ensures.1 in
    let before = c.loop-seed.invariant.follows given next gives in
    let next_seed = at_drop_more (λ (left : List (Option ℕ)). over_cases c.args.save.now given c.loop-seed.cases.items (kept_seeds left) next) c.args.seeds.now c.loop-seed.seed-index None (omega (arith, c.loop-seed-test.true, c.told-seeds)) in
    let stops = c.in_err-open_case.ensures given (drop (c.loop-seed.seed-index + 1) c.args.seeds.now) next gives in
    rw (p.1, p.2) (subst (λ (whole : Answer). Stops c.in_err-open_case.field-0.0 whole) (sym (before ∙ next_seed)) stops)
