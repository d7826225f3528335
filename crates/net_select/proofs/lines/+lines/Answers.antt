use Rattle.std.proofs.Common.{◌<◌, ◌≤◌, ℕ, length, subst}
use Rattle.net_tree.specs.Tree.{statements_of}
use Rattle.net_numbered.specs.View.{numbered_block, numbered_statement}
use Rattle.net_rules.specs.Sizes.{block_size, statement_size}
use Rattle.net_rules.proofs.Walks.{smaller}
use Rattle.net_rules.proofs.Counting.{counts_start}
use Rattle.net_select.proofs.Counting.{lines_in_all, lines_next, lines_done}
use Rattle.net_select.proofs.lines.+lines.Goals as goal

pub block_lines-statement_lines-requires : goal.block_lines-statement_lines-requires
block_lines-statement_lines-requires t c =
    let below : statement_size (numbered_statement c.at.result.now) < block_size (numbered_block c.args.block.now) = smaller (numbered_block c.args.block.now) c.statements.index (numbered_statement c.at.result.now) c.at.ensures in
    (subst (λ (n : ℕ). statement_size (numbered_statement c.at.result.now) < n) c.decreases below, tt)

pub block_lines-statements-init : goal.block_lines-statements-init
block_lines-statements-init t c = counts_start _ _ (lines_in_all (numbered_block c.args.block.now))

pub block_lines-statements-preserved : goal.block_lines-statements-preserved
block_lines-statements-preserved t c =
    lines_next (numbered_block c.args.block.now) c.statements.index (numbered_statement c.at.result.now) c.statements.lines c.statement_lines.result c.saturating_add-lines.result c.statements.invariant c.at.ensures c.statement_lines.ensures c.saturating_add-lines.ensures

pub block_lines-returns : goal.block_lines-returns
block_lines-returns t c =
    let past : length (statements_of (numbered_block c.args.block.now)) ≤ c.statements.index = subst (λ (n : ℕ). n ≤ c.statements.index) c.len-index-end.ensures c.statements-test.false in
    lines_done (numbered_block c.args.block.now) c.statements.index c.statements.lines c.statements.invariant past
