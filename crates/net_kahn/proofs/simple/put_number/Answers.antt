use Rattle.std.proofs.Common.{refl}
use Rattle.net_rules.specs.Process.{exec_statement}
use Rattle.net_tree.specs.Tree.{PutNumber}
use Rattle.net_kahn.proofs.Leaves.{gives}
use Rattle.net_kahn.proofs.simple.put_number.Goals as goal

pub give-requires-clause-links : goal.give-requires-clause-links
give-requires-clause-links c = c.requires.ready.links

pub returns : goal.returns
returns c =
    gives (exec_statement (PutNumber c.args.name c.args.number)) c.args.machine.now c.give.new.self c.args.name c.args.number (λ state. c.args.number) c.in_ok-give.ensures
    (λ steps fuel. refl) (λ state. refl)
