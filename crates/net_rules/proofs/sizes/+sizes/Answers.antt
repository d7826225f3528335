use Rattle.std.proofs.Common.{◌<◌, ◌≤◌, ℕ, length, subst}
use Rattle.net_tree.specs.Tree.{statements_of}
use Rattle.net_tree.specs.View.{block_view, statement_view}
use Rattle.net_rules.specs.Sizes.{block_size, statement_size}
use Rattle.net_rules.proofs.Walks.{smaller}
use Rattle.net_rules.proofs.Counting.{counted_of, counts_start, statement_counted, block_counted}
use Rattle.net_rules.proofs.sizes.+sizes.Goals as goal

pub statements_in-statements_inside-inside-requires : goal.statements_in-statements_inside-inside-requires
statements_in-statements_inside-inside-requires t c =
    let below : statement_size (statement_view c.at.result.now) < block_size (block_view c.args.block.now) = smaller (block_view c.args.block.now) c.statements.index (statement_view c.at.result.now) c.at.ensures in
    (subst (λ (n : ℕ). statement_size (statement_view c.at.result.now) < n) c.decreases below, tt)

pub statements_in-statements-init : goal.statements_in-statements-init
statements_in-statements-init t c = counts_start _ _ (counted_of (block_view c.args.block.now))

pub statements_in-statements-preserved : goal.statements_in-statements-preserved
statements_in-statements-preserved t c =
    statement_counted (block_view c.args.block.now) c.statements.index (statement_view c.at.result.now) c.statements.count c.statements_inside-inside.result c.saturating_add.result c.saturating_add-count.result c.statements.invariant c.at.ensures
    c.statements_inside-inside.ensures c.saturating_add.ensures c.saturating_add-count.ensures

pub statements_in-returns : goal.statements_in-returns
statements_in-returns t c =
    let past : length (statements_of (block_view c.args.block.now)) ≤ c.statements.index = subst (λ (n : ℕ). n ≤ c.statements.index) c.len-index-end.ensures c.statements-test.false in
    block_counted (block_view c.args.block.now) c.statements.index c.statements.count c.statements.invariant past
