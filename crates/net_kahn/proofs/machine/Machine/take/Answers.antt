use Rattle.std.proofs.Common.{List, sym, subst}
use Rattle.net_kahn.specs.declared.link.Link.{Link}
use Rattle.net_kahn.specs.Machines.{AreLinks}
use Rattle.net_kahn.proofs.machine.Machine.take.Goals as goal

pub read-requires-clause-links : goal.read-requires-clause-links
read-requires-clause-links c = subst (λ (l : List Link). AreLinks c.args.self.now.process l) (sym c.deref_mut.ensures.value) c.requires.links
