use Rattle.std.proofs.Common.{◌≡◌, drop}
use Rattle.net_tree.specs.Tree.{statements_of}
use Rattle.net_tree.specs.View.{block_view, statement_view}
use Rattle.net_rules.specs.Loops.{lesser, block_loop}
use Rattle.net_rules.specs.Sizes.{block_size, statement_size}
use Rattle.net_rules.proofs.FirstLoop.{loops_from}
use Rattle.net_rules.proofs.loops.+loops.Given as goal

abbrev pub decreases-block_loop : goal.decreases-block_loop
decreases-block_loop l = block_size (block_view l.block.now)

abbrev pub decreases-inner_loop : goal.decreases-inner_loop
decreases-inner_loop l = statement_size (statement_view l.statement.now)

abbrev pub invariant-block_loop-statements : goal.invariant-block_loop-statements
invariant-block_loop-statements l = block_loop (block_view l.block) ≡ lesser l.least (loops_from (drop l.index (statements_of (block_view l.block))))
