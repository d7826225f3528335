use Rattle.std.proofs.Common.{◌+◌, ◌*◌}
use Rattle.net_numbered.specs.View.{numbered_block, numbered_statement}
use Rattle.net_rules.specs.Sizes.{block_size, statement_size}
use Rattle.net_kahn.specs.Machines.{value_of}
use Rattle.net_kahn.proofs.Finishing.{left_of}
use Rattle.net_kahn.proofs.Walking.{Walks, WhileTurns, CountTurns, natural}
use Rattle.net_kahn.proofs.blocks.+blocks.Given as goal

abbrev pub decreases-repeat : goal.decreases-repeat
decreases-repeat l = 2 * block_size (numbered_block l.body.now) + 1

abbrev pub decreases-count_down : goal.decreases-count_down
decreases-count_down l = 2 * block_size (numbered_block l.body.now) + 1

abbrev pub decreases-choose : goal.decreases-choose
decreases-choose l = 2 * (block_size (numbered_block l.first.now) + block_size (numbered_block l.second.now)) + 1

abbrev pub decreases-do_statement : goal.decreases-do_statement
decreases-do_statement l = 2 * statement_size (numbered_statement l.statement.now)

abbrev pub decreases-do_block : goal.decreases-do_block
decreases-do_block l = 2 * block_size (numbered_block l.block.now)

abbrev pub invariant-repeat-turns : goal.invariant-repeat-turns
invariant-repeat-turns l = WhileTurns l.var l.test (numbered_block l.body) l.initial.machine l.machine

abbrev pub decreases-repeat-turns : goal.decreases-repeat-turns
decreases-repeat-turns l = left_of l.machine

abbrev pub invariant-count_down-turns : goal.invariant-count_down-turns
invariant-count_down-turns l = CountTurns l.var (numbered_block l.body) l.initial.machine l.machine

abbrev pub decreases-count_down-turns : goal.decreases-count_down-turns
decreases-count_down-turns l = natural (value_of l.var l.machine)

abbrev pub invariant-do_block-statements : goal.invariant-do_block-statements
invariant-do_block-statements l = Walks (numbered_block l.block) l.index l.initial.machine l.machine
