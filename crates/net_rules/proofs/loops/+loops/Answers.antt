use Rattle.std.proofs.Common.{◌<◌, ◌≤◌, ℕ, length, subst}
use Rattle.net_tree.specs.Tree.{statements_of}
use Rattle.net_tree.specs.View.{block_view, statement_view}
use Rattle.net_rules.specs.Sizes.{block_size, statement_size}
use Rattle.net_rules.proofs.Walks.{smaller}
use Rattle.net_rules.proofs.FirstLoop.{loops_of, looked, all_looked}
use Rattle.net_rules.proofs.loops.+loops.Goals as goal

pub block_loop-inner_loop-inner-requires : goal.block_loop-inner_loop-inner-requires
block_loop-inner_loop-inner-requires t c =
    let below : statement_size (statement_view c.at-statement.result.now) < block_size (block_view c.args.block.now) = smaller (block_view c.args.block.now) c.statements.index (statement_view c.at-statement.result.now) c.at-statement.ensures in
    (subst (λ (n : ℕ). statement_size (statement_view c.at-statement.result.now) < n) c.decreases below, tt)

pub block_loop-statements-init : goal.block_loop-statements-init
block_loop-statements-init t c = loops_of (block_view c.args.block.now)

pub block_loop-statements-preserved : goal.block_loop-statements-preserved
block_loop-statements-preserved t c =
    looked (block_view c.args.block.now) c.statements.index c.line.result (statement_view c.at-statement.result.now) c.statements.least c.own_loop-own.result c.inner_loop-inner.result c.lesser.result c.lesser-least.result
    c.statements.invariant c.at-statement.ensures c.line.ensures c.own_loop-own.ensures c.inner_loop-inner.ensures c.lesser.ensures c.lesser-least.ensures

pub block_loop-returns : goal.block_loop-returns
block_loop-returns t c =
    let past : length (statements_of (block_view c.args.block.now)) ≤ c.statements.index = subst (λ (n : ℕ). n ≤ c.statements.index) c.len-index-end.ensures c.statements-test.false in
    all_looked (block_view c.args.block.now) c.statements.index c.statements.least c.statements.invariant past
