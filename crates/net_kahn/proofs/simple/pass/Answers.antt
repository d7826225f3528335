use Rattle.net_kahn.proofs.Leaves.{passes_on, links_read}
use Rattle.net_kahn.proofs.simple.pass.Goals as goal

pub give-requires-clause-links : goal.give-requires-clause-links
give-requires-clause-links c = links_read c.args.machine.now c.take.new.self c.args.name c.in_ok-value.value c.in_ok-value.ensures

pub returns : goal.returns
returns c = passes_on c.args.machine.now c.take.new.self c.give.new.self c.args.name c.args.written c.in_ok-value.value c.in_ok-value.ensures c.in_ok-give.ensures
