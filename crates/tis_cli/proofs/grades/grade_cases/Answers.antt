use Rattle.std.proofs.Common.{◌≡◌, Option, Some, None, refl, sym, ap, ◌∙◌}
use Rattle.tis_grade.specs.declared.cases.Failed.{Failed}
use Rattle.tis_grade.specs.Reports.{Told}
use Rattle.tis_cli.specs.Answers.{Makes, completion_status}
use Rattle.tis_cli.specs.Runs.{grade_completion}
use Rattle.tis_cli.specs.Ends.{grade_status}
use Rattle.tis_cli.proofs.grades.grade_cases.Goals as goal

-- the status of its completion
status_is : (failed : Option Failed) → grade_status failed ≡ completion_status (grade_completion failed)
status_is None = refl
status_is (Some failed) = refl

pub returns : goal.returns
returns c = (
  grade_completion c.in_ok-graded.graded.failed,
  ap (λ (told : Told). Makes (grade_completion told.failed) told.report) (sym c.in_ok-graded.ensures),
  c.status_of.ensures ∙ status_is c.in_ok-graded.graded.failed,
)
