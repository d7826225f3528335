use Rattle.std.proofs.Common.{rules, ◌≡◌, List, map, ap, subst, Err, refl}
use Rattle.tis_grid.specs.declared.puzzle.InputAt.{InputAt}
use Rattle.net_kahn.specs.Found.{Finds}
use Rattle.net_tree.specs.View.{net_view}
use Rattle.net_rules.specs.CheckedNet.{net_of}
use Rattle.net_rules.specs.Rules.{first_broken}
use Rattle.tis_grid.specs.Puzzle.{input_of, puzzle_of}
use Rattle.tis_cli.specs.Answers.{Makes, AllDone}
use Rattle.tis_cli.specs.Nets.{net_report}
use Rattle.tis_cli.specs.Statuses.{rule_status}
use Rattle.tis_cli.proofs.Networks.{rule_stops, net_done}
use Rattle.tis_cli.proofs.nets.run_net.Goals as goal

pub returns-in_err-checked : goal.returns-in_err-checked
returns-in_err-checked c =
    let status : c.from_residual.result ≡ Err (rule_status c.in_err-checked.field-0.0) = search rules in
    rw status (rule_stops c.in_err-checked.field-0.0 (first_broken (net_view c.args.net.now)) (Makes AllDone (net_report (net_view c.args.net.now) (puzzle_of c.args.puzzle.now).inputs)) c.in_err-checked.ensures)

pub returns : goal.returns
returns c = (
  AllDone,
  net_done (net_view c.args.net.now) (net_of c.in_ok-checked.checked) (puzzle_of c.args.puzzle.now) c.in_ok-found.found c.shape.result.columns c.in_ok-report.report.items c.in_ok-checked.ensures.0.accepted c.in_ok-checked.ensures.1
      (subst (λ (l : List InputAt). Finds c.in_ok-found.found (net_of c.in_ok-checked.checked) (map input_of l)) c.deref.ensures.value c.in_ok-found.ensures)
      (ap (λ s. s.columns) c.shape.ensures.shape) c.in_ok-report.ensures,
  refl,
)
