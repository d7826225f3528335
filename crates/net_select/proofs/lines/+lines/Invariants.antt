use Rattle.std.proofs.Common.{drop}
use Rattle.net_tree.specs.Tree.{statements_of}
use Rattle.net_numbered.specs.View.{numbered_block, numbered_statement}
use Rattle.net_rules.specs.Sizes.{block_size, statement_size}
use Rattle.net_select.specs.Selection.{block_lines}
use Rattle.net_rules.proofs.Counting.{Counts}
use Rattle.net_select.proofs.Counting.{lines_in}
use Rattle.net_select.proofs.lines.+lines.Given as goal

abbrev pub decreases-block_lines : goal.decreases-block_lines
decreases-block_lines l = block_size (numbered_block l.block.now)

abbrev pub decreases-statement_lines : goal.decreases-statement_lines
decreases-statement_lines l = statement_size (numbered_statement l.statement.now)

abbrev pub invariant-block_lines-statements : goal.invariant-block_lines-statements
invariant-block_lines-statements l = Counts (block_lines (numbered_block l.block)) (lines_in (drop l.index (statements_of (numbered_block l.block)))) l.lines
