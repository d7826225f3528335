use Rattle.net_numbered.proofs.Views.{block_pushed}
use Rattle.net_numbered.proofs.tree.NumberedBlock.push.Goals as goal

pub returns-clause-ok : goal.returns-clause-ok
returns-clause-ok c = block_pushed c.args.self.now c.push.new.self c.args.statement c.args.line c.in_ok-push.ensures.ok
