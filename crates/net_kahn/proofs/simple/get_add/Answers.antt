use Rattle.std.proofs.Common.{refl, ap, sym, ◌∙◌}
use Rattle.std.specs.Prelude.{◌+ℤ◌}
use Rattle.tis_base.specs.Saturation.{sat}
use Rattle.net_rules.specs.Process.{value_in, exec_statement}
use Rattle.net_tree.specs.Tree.{GetAdd}
use Rattle.net_kahn.proofs.Leaves.{value_seen, reads_and_sets}
use Rattle.net_kahn.proofs.simple.get_add.Goals as goal

pub returns : goal.returns
returns c =
    reads_and_sets (exec_statement (GetAdd c.args.name c.args.var)) c.args.machine.now c.take.new.self c.set.new.self c.args.name c.in_ok-value.value c.args.var c.add-sum.result (λ read state. sat (value_in c.args.var state +ℤ read)) c.in_ok-value.ensures c.set.ensures
    (λ steps fuel. ap (λ v. sat (v +ℤ c.in_ok-value.value)) (value_seen c.args.var c.take.new.self steps fuel ∙ sym c.value.ensures) ∙ sym c.add-sum.ensures) (λ state. refl)
