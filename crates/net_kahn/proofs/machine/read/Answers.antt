use Rattle.net_kahn.proofs.LinkReads.{link_at, reads_one}
use Rattle.net_kahn.proofs.machine.read.Goals as goal

pub read-requires : goal.read-requires
read-requires c = link_at c.args.process c.args.links.now c.args.name c.index-links-name.result c.requires.links c.requires.within

pub returns : goal.returns
returns c = reads_one c.args.links.now c.args.name c.index-links-name.result c.read.new.self c.requires.within c.args.process c.requires.links c.read.result c.read.ensures
