use Rattle.std.proofs.Common.{◌≡◌, drop}
use Rattle.net_tree.specs.Tree.{statements_of}
use Rattle.net_tree.specs.View.{block_view, statement_view}
use Rattle.net_rules.specs.Uses.{surely_reads}
use Rattle.net_rules.specs.Sizes.{block_size, statement_size}
use Rattle.net_rules.proofs.Walks.{any_reads}
use Rattle.net_rules.proofs.sure.+sure.Given as goal

abbrev pub decreases-surely_reads : goal.decreases-surely_reads
decreases-surely_reads l = block_size (block_view l.block.now)

abbrev pub decreases-reads_either_way : goal.decreases-reads_either_way
decreases-reads_either_way l = statement_size (statement_view l.statement.now)

abbrev pub invariant-surely_reads-statements : goal.invariant-surely_reads-statements
invariant-surely_reads-statements l = surely_reads (block_view l.block) ≡ any_reads (drop l.index (statements_of (block_view l.block)))
