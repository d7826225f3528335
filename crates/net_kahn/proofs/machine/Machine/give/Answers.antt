use Rattle.std.proofs.Common.{List, sym, subst}
use Rattle.net_kahn.specs.declared.link.Link.{Link}
use Rattle.net_kahn.specs.Machines.{AreLinks}
use Rattle.net_kahn.proofs.machine.Machine.give.Goals as goal

pub send-requires-clause-links : goal.send-requires-clause-links
send-requires-clause-links c = subst (λ (l : List Link). AreLinks c.args.self.now.process l) (sym c.deref_mut.ensures.value) c.requires.links
