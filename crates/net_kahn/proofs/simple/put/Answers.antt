use Rattle.std.proofs.Common.{refl, sym, ◌∙◌}
use Rattle.net_rules.specs.Process.{value_in, exec_statement}
use Rattle.net_tree.specs.Tree.{Put}
use Rattle.net_kahn.proofs.Leaves.{value_seen, gives}
use Rattle.net_kahn.proofs.simple.put.Goals as goal

pub give-requires-clause-links : goal.give-requires-clause-links
give-requires-clause-links c = c.requires.ready.links

pub returns : goal.returns
returns c =
    gives (exec_statement (Put c.args.name c.args.var)) c.args.machine.now c.give.new.self c.args.name c.value-value.result (λ state. value_in c.args.var state) c.in_ok-give.ensures
    (λ steps fuel. value_seen c.args.var c.args.machine.now steps fuel ∙ sym c.value-value.ensures) (λ state. refl)
