use Rattle.std.proofs.Common.{map, ap, ◌∙◌}
use Rattle.net_tree.specs.Tree.{Net}
use Rattle.net_tree.specs.View.{process_view}
use Rattle.net_rules.specs.CheckedNet.{net_of}
use Rattle.net_column.proofs.Placing.{out_of_place, in_place}
use Rattle.net_column.proofs.form.stand_in_line.Goals as goal

pub returns-then-not-is_in_place : goal.returns-then-not-is_in_place
returns-then-not-is_in_place c =
    out_of_place (net_of c.args.net.now) c.as_slice-processes.result.now c.processes.index c.index-processes-index.result (ap (map process_view) c.as_slice-processes.ensures.value ∙ ap (λ (n : Net). n.processes) c.net.ensures) c.processes-test.true c.index-processes-index.is
    c.args.position _ c.is_in_place.result c.processes.invariant c.is_in_place.ensures c.if-not-is_in_place.true

pub processes-preserved : goal.processes-preserved
processes-preserved c =
    in_place (net_of c.args.net.now) c.as_slice-processes.result.now c.processes.index c.index-processes-index.result (ap (map process_view) c.as_slice-processes.ensures.value ∙ ap (λ (n : Net). n.processes) c.net.ensures) c.processes-test.true c.index-processes-index.is
    c.args.position _ c.is_in_place.result c.processes.invariant c.is_in_place.ensures c.if-not-is_in_place.false
