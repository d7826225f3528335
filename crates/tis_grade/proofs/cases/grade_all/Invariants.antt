-- What was told so far, and what is told of the cases that are left.
use Rattle.std.proofs.Common.{◌≡◌, drop}
use Rattle.tis_grade.specs.Reports.{with_line, graded, graded_from, programs_in}
use Rattle.tis_grade.proofs.cases.grade_all.Given as goal

abbrev pub invariant-loop-case : goal.invariant-loop-case
invariant-loop-case l = record { told : graded l.limit l.cases ≡ with_line l.report.items (graded_from l.limit (programs_in l.cases) l.greatest (drop l.case-index l.cases)) }
