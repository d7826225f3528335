use Rattle.std.proofs.Common.{◌≡◌, ℕ, List, Some, sym, ap, subst, ◌∙◌}
use Rattle.tis_grid.specs.Puzzle.{Puzzle}
use Rattle.tis_grid.specs.State.{State}
use Rattle.tis_grid.specs.Orders.{after}
use Rattle.tis_grid.specs.Drawn.{drawn}
use Rattle.tis_grid.specs.Running.{EndsAs}
use Rattle.tis_report.specs.Reports.{ended_text}
use Rattle.tis_cli.specs.Answers.{Makes}
use Rattle.tis_cli.proofs.RunAnswers.{ended_so}
use Rattle.tis_cli.proofs.runs.run_drawn.Goals as goal

pub returns : goal.returns
returns c =
    let grid = c.args.grid.now in
    let end = c.run_seeded.new.state.state in
    let ended = c.in_ok-ended.ended in
    let runs = subst (λ (s : State). (after grid s (drawn grid s c.args.seed c.args.limit) ≡ Some end) × EndsAs grid end c.args.limit (drawn grid s c.args.seed c.args.limit) ended) c.in_ok-state.ensures.state c.in_ok-ended.ensures.runs in
    let answer = ended_so grid c.puzzle.ensures.grid c.args.seed c.args.limit end ended runs.0 runs.1 in
    let text = c.in_ok-report.ensures ∙ ap (λ (p : Puzzle). ended_text ended p end) c.puzzle.ensures.puzzle in
    (answer.0, answer.1 ∙ ap (λ (t : List ℕ). Makes answer.0 t) (sym text), c.status_of.ensures ∙ answer.2)
