use Rattle.std.proofs.Common.{rules, ◌≡◌, ap, sym, subst, Err, ◌∙◌}
use Rattle.net_tree.specs.View.{net_view}
use Rattle.net_syntax.specs.Reading as reading
use Rattle.tis_grid_text.specs.GridText as text
use Rattle.tis_cli.specs.Answers.{Answer}
use Rattle.tis_cli.specs.Runs.{over_puzzle}
use Rattle.tis_cli.specs.Ends.{Ends}
use Rattle.tis_cli.specs.Nets.{over_net, over_rules, net_answer}
use Rattle.tis_cli.specs.Statuses.{net_status, grid_status}
use Rattle.tis_cli.proofs.Networks.{net_stops, grid_stops}
use Rattle.tis_cli.proofs.nets.net.Goals as goal

pub returns-in_err-net : goal.returns-in_err-net
unfolding net_answer
returns-in_err-net c =
    let status : c.from_residual.result ≡ Err (net_status c.in_err-net.field-0.0) = search rules in
    rw status (net_stops c.in_err-net.field-0.0 (reading.net_of c.args.text.now) (λ net. over_puzzle (text.grid_of c.args.grid.now) (over_rules net)) c.in_err-net.ensures)

pub returns-in_err-puzzle : goal.returns-in_err-puzzle
unfolding net_answer
returns-in_err-puzzle c =
    let status : c.from_residual-in_err-puzzle.result ≡ Err (grid_status c.in_err-puzzle.field-0.0) = search rules in
    let read : net_answer c.args.text.now c.args.grid.now ≡ over_puzzle (text.grid_of c.args.grid.now) (over_rules (net_view c.in_ok-net.net)) = ap (λ r. over_net r (λ net. over_puzzle (text.grid_of c.args.grid.now) (over_rules net))) c.in_ok-net.ensures in
    rw status (grid_stops c.in_err-puzzle.field-0.0 (text.grid_of c.args.grid.now) (over_rules (net_view c.in_ok-net.net)) (net_answer c.args.text.now c.args.grid.now) read c.in_err-puzzle.ensures.grid)

pub run_net-requires : goal.run_net-requires
run_net-requires c = c.read_networks_are_small.ensures c.args.text.now (net_view c.in_ok-net.net) c.in_ok-net.ensures

pub returns : goal.returns
unfolding net_answer
returns c =
    let read = ap (λ r. over_net r (λ net. over_puzzle (text.grid_of c.args.grid.now) (over_rules net))) c.in_ok-net.ensures in
    let given = ap (λ r. over_puzzle r (over_rules (net_view c.in_ok-net.net))) c.in_ok-puzzle.ensures.grid in
    subst (λ (a : Answer). Ends c.run_net.result a) (sym (read ∙ given)) c.run_net.ensures
