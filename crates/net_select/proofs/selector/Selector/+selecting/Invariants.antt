use Rattle.std.proofs.Common.{◌+◌, ◌*◌}
use Rattle.net_tree.specs.Tree.{statements_of}
use Rattle.net_numbered.specs.View.{numbered_block, numbered_statement}
use Rattle.net_rules.specs.Sizes.{block_size, statement_size}
use Rattle.net_select.specs.HeldPorts.{ports_of}
use Rattle.net_select.specs.Selection.{with_code, block_code}
use Rattle.net_select.proofs.Composing.{Walked}
use Rattle.net_select.proofs.selector.Selector.+selecting.Given as goal

-- the calls of a loop, of a branch and of a block by their sizes: each is twice the size of its blocks, and one or two more for what stands around them
abbrev pub decreases-block : goal.decreases-block
decreases-block l = 3 * block_size (numbered_block l.block.now)

abbrev pub decreases-statement : goal.decreases-statement
decreases-statement l = 3 * statement_size (numbered_statement l.statement.now)

abbrev pub decreases-branch : goal.decreases-branch
decreases-branch l = 3 * (block_size (numbered_block l.straight.now) + block_size (numbered_block l.jumped.now)) + 2

abbrev pub decreases-branch_on_x : goal.decreases-branch_on_x
decreases-branch_on_x l = 3 * (block_size (numbered_block l.straight.now) + block_size (numbered_block l.jumped.now)) + 1

abbrev pub decreases-branch_on_y : goal.decreases-branch_on_y
decreases-branch_on_y l = 3 * (block_size (numbered_block l.straight.now) + block_size (numbered_block l.jumped.now)) + 1

abbrev pub decreases-leaving_loop : goal.decreases-leaving_loop
decreases-leaving_loop l = 3 * block_size (numbered_block l.body.now) + 1

abbrev pub decreases-entering_loop : goal.decreases-entering_loop
decreases-entering_loop l = 3 * block_size (numbered_block l.body.now) + 1

abbrev pub decreases-counted_loop : goal.decreases-counted_loop
decreases-counted_loop l = 3 * block_size (numbered_block l.body.now) + 1

abbrev pub invariant-block-statements : goal.invariant-block-statements
invariant-block-statements l = Walked (ports_of l.self.ports.now) l.self.total (statements_of (numbered_block l.block)) l.index (with_code l.initial.program (block_code (ports_of l.self.ports.now) l.self.total (numbered_block l.block))) l.program
