-- What follows over the cases so far and the seeds that are left.
use Rattle.std.proofs.Common.{◌≡◌, ℕ, List, [], drop, Result}
use Rattle.tis_grid.specs.Puzzle.{Puzzle}
use Rattle.tis_spec.specs.Specification.{Refusal, Specifies}
use Rattle.tis_grade.specs.declared.cases.Case.{Case}
use Rattle.tis_cli.specs.Answers.{Answer}
use Rattle.tis_cli.specs.Commands.{kept_seeds}
use Rattle.tis_cli.specs.Runs.{over_cases}
use Rattle.tis_cli.proofs.grades.open_cases.Given as goal

abbrev pub invariant-loop-seed : goal.invariant-loop-seed
invariant-loop-seed l =
    record {
      follows : (given : ℕ → Result Puzzle Refusal) (next : List Case → Answer) → ((each : ℕ) → Specifies l.spec each (given each)) →
          over_cases l.save given [] (kept_seeds l.seeds) next ≡ over_cases l.save given l.cases.items (kept_seeds (drop l.seed-index l.seeds)) next;
    }
