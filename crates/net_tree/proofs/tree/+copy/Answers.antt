use Rattle.std.proofs.Common.{ap, ◌∙◌}
use Rattle.net_tree.specs.Tree.{Name, Statement, with_last}
use Rattle.net_tree.proofs.Views.{block_grown, block_whole}
use Rattle.net_tree.specs.View.{block_view}
use Rattle.net_tree.proofs.tree.+copy.Goals as goal

pub Block::copy-statements-preserved : goal.Block::copy-statements-preserved
Block::copy-statements-preserved t c =
    block_grown c.as_slice-numbered-items.result.now c.statements.numbered-index c.numbered-item.result (block_view c.statements.copy) (block_view c.push.new.self) c.statements-test.true c.numbered-item.is c.statements.invariant
    (c.in_ok-push.ensures.ok ∙ ap (λ (s : Statement Name). with_last (block_view c.statements.copy) c.numbered-item.result.line s) c.in_ok-copy.ensures)

pub Block::copy-returns : goal.Block::copy-returns
Block::copy-returns t c = block_whole c.args.self.now c.as_slice-numbered-items.result.now c.statements.numbered-index (block_view c.statements.copy) c.as_slice-numbered-items.ensures c.statements-test.false c.statements.invariant
