use Rattle.net_rules.specs.Numbers.{numbered}
use Rattle.net_rules.specs.CheckedNet.{net_of}
use Rattle.net_kahn.proofs.Processes.{HasRunTo}
use Rattle.net_kahn.proofs.finding.run_all.Given as goal

abbrev pub invariant-processes : goal.invariant-processes
invariant-processes l = HasRunTo (numbered (net_of l.net)) l.fn.links.items l.index l.machine.links.items
