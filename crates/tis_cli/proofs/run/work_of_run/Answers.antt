use Rattle.std.proofs.Common.{Result}
use Rattle.tis_grid.specs.Puzzle.{Puzzle}
use Rattle.tis_spec.specs.Specification.{Refusal}
use Rattle.tis_cli.specs.Runs.{run_answer}
use Rattle.tis_cli.proofs.Fetching.{clock_runs, not_missing, not_faulted}
use Rattle.tis_cli.proofs.run.work_of_run.Goals as goal

pub returns-clause-runs : goal.returns-clause-runs
returns-clause-runs g c =
    clock_runs (g.S.Store.texts c.args.store.now) (g.S.Store.texts c.fetch.new.self) c.args.save.now c.args.spec.now c.in_ok-saved.saved.items c.in_ok-spec.spec.items c.deref.result.now c.deref-2.result.now c.args.seed c.args.cycles c.clock.result
    c.in_ok-saved.ensures.texts_stay c.in_ok-saved.ensures.ok c.in_ok-spec.ensures.ok c.deref.ensures.value c.deref-2.ensures.value c.clock.ensures

pub returns-clause-missing_counted : goal.returns-clause-missing_counted
returns-clause-missing_counted g c is = absurd (not_missing c.deref-2.result.now c.args.seed (λ (given : Result Puzzle Refusal). run_answer c.deref.result.now given c.args.cycles) c.clock.result c.clock.ensures is)

pub returns-clause-fault_counted : goal.returns-clause-fault_counted
returns-clause-fault_counted g c is = absurd (not_faulted c.deref-2.result.now c.args.seed (λ (given : Result Puzzle Refusal). run_answer c.deref.result.now given c.args.cycles) c.clock.result c.clock.ensures is)
