use Rattle.net_tree.specs.View.{block_view}
use Rattle.net_rules.proofs.FirstLoop.{first_loop_is}
use Rattle.net_rules.proofs.loops.first_loop_without_read.Goals as goal

pub returns : goal.returns
returns c = first_loop_is _ (block_view c.args.body.now) c.block_loop.ensures
