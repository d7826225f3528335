use Rattle.std.proofs.Common.{ℕ, List, sym, ap, subst, ◌∙◌}
use Rattle.tis_grid.specs.Puzzle.{Puzzle}
use Rattle.tis_grid.specs.State.{State}
use Rattle.tis_clock.specs.Runs.{EndsAs}
use Rattle.tis_report.specs.Reports.{ended_text}
use Rattle.tis_cli.specs.Answers.{Makes}
use Rattle.tis_cli.proofs.ClockAnswers.{clocked_so}
use Rattle.tis_cli.proofs.runs.run_clocked.Goals as goal

pub returns : goal.returns
returns c =
    let grid = c.args.grid.now in
    let end = c.run_making_room.new.state.state in
    let ended = c.in_ok-ended.ended in
    let runs = subst (λ (s : State). EndsAs grid s c.args.cycles ended end) c.in_ok-state.ensures.state c.in_ok-ended.ensures.ended in
    let answer = clocked_so grid c.puzzle.ensures.grid c.args.cycles end ended runs in
    let text = c.in_ok-report.ensures ∙ ap (λ (p : Puzzle). ended_text ended p end) c.puzzle.ensures.puzzle in
    (answer.0, answer.1 ∙ ap (λ (t : List ℕ). Makes answer.0 t) (sym text), c.status_of.ensures ∙ answer.2)
