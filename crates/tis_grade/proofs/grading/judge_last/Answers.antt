use Rattle.std.proofs.Common.{Bool, Option, sym, ap, ◌∙◌}
use Rattle.std.proofs.lemmas.Bool.{both_ways}
use Rattle.tis_grid.specs.Choices.{enabled_events}
use Rattle.tis_grade.specs.declared.verdict.Verdict.{Verdict}
use Rattle.tis_grade.specs.declared.verdict.Verdict.TheVariants.{Passed, Stuck, Late}
use Rattle.tis_grade.specs.Verdict.{first_fault, are_done, is_none, where_holds, or_later}
use Rattle.tis_grade.proofs.Verdicts.{undecided, rest_listed, works_listed}
use Rattle.tis_grade.proofs.grading.judge_last.Goals as goal

pub returns-in-None : goal.returns-in-None
returns-in-None c =
    let grid = c.args.grid.now in
    let state = c.args.state.now.state in
    let left = undecided (first_fault grid state) (where_holds (are_done grid state) (Passed c.args.limit)) (where_holds (is_none (enabled_events grid state)) (Stuck c.args.limit)) c.in-None.ensures.verdict in
    let rest = rest_listed grid state c.puzzle.ensures.grid (c.at_rest.ensures.0 c.if-at_rest.true) in
    sym (ap (λ (d : Option Verdict). or_later d (Late c.args.limit)) left ∙ ap (λ (b : Bool). or_later (where_holds b (Stuck c.args.limit)) (Late c.args.limit)) rest)

pub returns-in-None-2 : goal.returns-in-None-2
returns-in-None-2 c =
    let grid = c.args.grid.now in
    let state = c.args.state.now.state in
    let left = undecided (first_fault grid state) (where_holds (are_done grid state) (Passed c.args.limit)) (where_holds (is_none (enabled_events grid state)) (Stuck c.args.limit)) c.in-None-2.ensures.verdict in
    let works = works_listed grid state c.puzzle.ensures.grid (λ rest. both_ways c.at_rest.result c.if-at_rest.false (c.at_rest.ensures.1 rest)) in
    sym (ap (λ (d : Option Verdict). or_later d (Late c.args.limit)) left ∙ ap (λ (b : Bool). or_later (where_holds b (Stuck c.args.limit)) (Late c.args.limit)) works)
