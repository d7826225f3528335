use Rattle.std.proofs.Common.{◌≡◌, Bool, true, false, List, map, Option, sym, ap, ◌∙◌}
use Rattle.std.specs.Option.{option_or}
use Rattle.tis_grid.specs.declared.puzzle.OutputAt.{OutputAt}
use Rattle.tis_grid.specs.Puzzle.{Puzzle, output_of}
use Rattle.tis_grade.specs.declared.verdict.Verdict.{Verdict}
use Rattle.tis_grade.specs.declared.verdict.Verdict.TheVariants.{Passed}
use Rattle.tis_grade.specs.Verdict.{are_done, where_holds}
use Rattle.tis_grade.proofs.Verdicts.{all_judged}
use Rattle.tis_grade.proofs.grading.judge.Goals as goal

pub returns-in-None-clause-verdict : goal.returns-in-None-clause-verdict
returns-in-None-clause-verdict c =
    let grid = c.args.grid.now in
    let state = c.args.state.now.state in
    let is = ap (λ (items : List OutputAt). map output_of items) c.deref.ensures.value ∙ ap (λ (puzzle : Puzzle). puzzle.outputs) c.puzzle.ensures.puzzle in
    let done : are_done grid state ≡ true = sym (all_judged grid state c.first_fault.new.follows _ c.are_done.result c.puzzle.ensures.grid is (c.are_done.ensures state) c.in-None.ensures.followed) ∙ c.if-are_done.true in
    sym (ap (λ (fault : Option Verdict). option_or fault (where_holds (are_done grid state) (Passed c.args.cycles))) (sym c.in-None.ensures.fault) ∙ ap (λ (b : Bool). where_holds b (Passed c.args.cycles)) done)

pub returns-in-None-2-clause-verdict : goal.returns-in-None-2-clause-verdict
returns-in-None-2-clause-verdict c =
    let grid = c.args.grid.now in
    let state = c.args.state.now.state in
    let is = ap (λ (items : List OutputAt). map output_of items) c.deref.ensures.value ∙ ap (λ (puzzle : Puzzle). puzzle.outputs) c.puzzle.ensures.puzzle in
    let done : are_done grid state ≡ false = sym (all_judged grid state c.first_fault.new.follows _ c.are_done.result c.puzzle.ensures.grid is (c.are_done.ensures state) c.in-None.ensures.followed) ∙ c.if-are_done.false in
    sym (ap (λ (fault : Option Verdict). option_or fault (where_holds (are_done grid state) (Passed c.args.cycles))) (sym c.in-None.ensures.fault) ∙ ap (λ (b : Bool). where_holds b (Passed c.args.cycles)) done)
