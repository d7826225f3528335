use Rattle.std.proofs.Common.{◌∙◌, sym}
use Rattle.net_tree.proofs.Views.{block_length}
use Rattle.net_tree.proofs.tree.Block.len.Goals as goal

pub returns : goal.returns
returns c = c.len.ensures ∙ sym (block_length c.args.self.now)
