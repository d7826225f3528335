use Rattle.net_kahn.proofs.LinkReads.{on_ok, link_at, sends_among}
use Rattle.net_kahn.proofs.machine.send.Goals as goal

pub send-requires : goal.send-requires
send-requires c = link_at c.args.process c.args.links.now c.args.name c.index-links-name.result c.requires.links c.requires.within

pub returns : goal.returns
returns c = on_ok c.send.result c.send.ensures (λ sent. sends_among c.args.links.now c.args.name c.index-links-name.result c.send.new.self c.requires.within c.args.process c.requires.links c.args.value sent)
