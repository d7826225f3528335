use Rattle.std.proofs.Common.{ap, refl, arith}
use Rattle.std.proofs.lemmas.List.{drop_all}
use Rattle.net_tree.specs.View.{block_view}
use Rattle.net_rules.specs.Sizes.{statements_in}
use Rattle.net_rules.proofs.Counting.{all_statements, counts_start, counts_on, counts_end, next_process}
use Rattle.net_rules.proofs.sizes.statement_count.Goals as goal

pub processes-init : goal.processes-init
processes-init c = counts_start _ _ refl

pub processes-preserved : goal.processes-preserved
processes-preserved c =
    counts_on _ _ _ (statements_in (block_view c.process-item.result.body)) c.processes.count c.statements_in.result c.saturating_add-count.result c.processes.invariant
    (next_process c.args.processes.now c.processes.process-index c.process-item.result (omega arith) c.process-item.is) c.statements_in.ensures c.saturating_add-count.ensures

pub returns : goal.returns
returns c = counts_end _ _ c.processes.count c.processes.invariant (ap all_statements (drop_all c.processes.process-index c.args.processes.now c.processes-test.false))
