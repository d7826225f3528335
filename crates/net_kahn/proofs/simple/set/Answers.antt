use Rattle.std.proofs.Common.{refl}
use Rattle.net_rules.specs.Process.{exec_statement}
use Rattle.net_tree.specs.Tree.{Set}
use Rattle.net_kahn.proofs.Leaves.{sets}
use Rattle.net_kahn.proofs.simple.set.Goals as goal

pub returns : goal.returns
returns c = sets (exec_statement (Set c.args.var c.args.number)) c.args.machine.now c.set.new.self c.args.var c.args.number (λ state. c.args.number) c.requires.ready.links c.set.ensures (λ steps fuel. refl) (λ state. refl)
