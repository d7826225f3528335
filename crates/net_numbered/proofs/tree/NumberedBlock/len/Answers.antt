use Rattle.std.proofs.Common.{◌∙◌, sym}
use Rattle.net_numbered.proofs.Views.{block_length}
use Rattle.net_numbered.proofs.tree.NumberedBlock.len.Goals as goal

pub returns : goal.returns
returns c = c.len.ensures ∙ sym (block_length c.args.self.now)
