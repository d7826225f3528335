use Rattle.std.proofs.Common.{ℕ, Result}
use Rattle.tis_grid.specs.Puzzle.{Puzzle}
use Rattle.tis_spec.specs.Specification.{Refusal}
use Rattle.tis_cli.specs.Commands.{kept_seeds}
use Rattle.tis_cli.specs.Runs.{grade_answer}
use Rattle.tis_cli.proofs.Fetching.{grade_runs, never_missing, never_faulted}
use Rattle.tis_cli.proofs.run.work_of_grade.Goals as goal

pub returns-clause-runs : goal.returns-clause-runs
returns-clause-runs g c =
    grade_runs (g.S.Store.texts c.args.store.now) (g.S.Store.texts c.fetch.new.self) c.args.save.now c.args.spec.now c.in_ok-saved.saved.items c.in_ok-spec.spec.items c.deref.result.now c.deref-2.result.now c.args.limit (kept_seeds c.args.seeds.now) c.grade.result
    c.in_ok-saved.ensures.texts_stay c.in_ok-saved.ensures.ok c.in_ok-spec.ensures.ok c.deref.ensures.value c.deref-2.ensures.value c.grade.ensures

pub returns-clause-missing_counted : goal.returns-clause-missing_counted
returns-clause-missing_counted g c is = absurd (never_missing c.deref-2.result.now (λ (given : ℕ → Result Puzzle Refusal). grade_answer c.deref.result.now given c.args.limit (kept_seeds c.args.seeds.now)) c.grade.result c.grade.ensures is)

pub returns-clause-fault_counted : goal.returns-clause-fault_counted
returns-clause-fault_counted g c is = absurd (never_faulted c.deref-2.result.now (λ (given : ℕ → Result Puzzle Refusal). grade_answer c.deref.result.now given c.args.limit (kept_seeds c.args.seeds.now)) c.grade.result c.grade.ensures is)
