use Rattle.std.proofs.Common.{drop}
use Rattle.net_tree.specs.Tree.{statements_of}
use Rattle.net_tree.specs.View.{block_view, statement_view}
use Rattle.net_rules.specs.Sizes.{block_size, statement_size, statements_in}
use Rattle.net_rules.proofs.Counting.{counted, Counts}
use Rattle.net_rules.proofs.sizes.+sizes.Given as goal

abbrev pub decreases-statements_in : goal.decreases-statements_in
decreases-statements_in l = block_size (block_view l.block.now)

abbrev pub decreases-statements_inside : goal.decreases-statements_inside
decreases-statements_inside l = statement_size (statement_view l.statement.now)

abbrev pub invariant-statements_in-statements : goal.invariant-statements_in-statements
invariant-statements_in-statements l = Counts (statements_in (block_view l.block)) (counted (drop l.index (statements_of (block_view l.block)))) l.count
