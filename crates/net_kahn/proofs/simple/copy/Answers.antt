use Rattle.std.proofs.Common.{refl, sym, ◌∙◌}
use Rattle.net_rules.specs.Process.{value_in, exec_statement}
use Rattle.net_tree.specs.Tree.{Copy}
use Rattle.net_kahn.proofs.Leaves.{value_seen, sets}
use Rattle.net_kahn.proofs.simple.copy.Goals as goal

pub returns : goal.returns
returns c =
    sets (exec_statement (Copy c.args.to c.args.from)) c.args.machine.now c.set.new.self c.args.to c.value-value.result (λ state. value_in c.args.from state) c.requires.ready.links c.set.ensures
    (λ steps fuel. value_seen c.args.from c.args.machine.now steps fuel ∙ sym c.value-value.ensures) (λ state. refl)
