use Rattle.std.proofs.Common.{◌≡◌, ℕ, ◌≤◌, List, [], ◌++◌, drop, length, None, refl, sym, ap, ap₂, ◌∙◌, arith}
use Rattle.std.proofs.lemmas.List.{drop_all}
use Rattle.tis_grade.specs.declared.cases.Case.{Case}
use Rattle.tis_grade.specs.Counts.{node_count, instruction_count}
use Rattle.tis_grade.specs.Reports.{Told, size_line, with_line, graded_from, programs_in}
use Rattle.tis_grade.proofs.cases.grade_all.Goals as goal

-- a report of a solution that is passed
abbrev passed : List ℕ → Told
passed report = record { report = report; failed = None }

pub returns : goal.returns
returns c =
    let cases = c.args.cases.now in
    let programs = programs_in cases in
    let before = c.loop-case.report.items in
    let greatest = c.loop-case.greatest in
    let none : drop c.loop-case.case-index cases ≡ [] = let test = c.loop-case-test.false in drop_all c.loop-case.case-index cases (omega (arith, test)) in
    let text : c.push_size.new.report.items ≡ before ++ size_line greatest (node_count programs) (instruction_count programs) =
    c.in_ok-push_size.ensures ∙ ap₂ (λ (n : ℕ) (i : ℕ). before ++ size_line greatest n i) c.size_of-nodes.ensures.nodes c.size_of-nodes.ensures.instructions in
    ap passed text ∙ sym (c.loop-case.invariant.told ∙ ap (λ (rest : List Case). with_line before (graded_from c.args.limit programs greatest rest)) none)
