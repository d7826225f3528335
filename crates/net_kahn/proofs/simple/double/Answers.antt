use Rattle.std.proofs.Common.{refl, ap, sym, ◌∙◌}
use Rattle.std.specs.Prelude.{◌+ℤ◌}
use Rattle.tis_base.specs.Saturation.{sat}
use Rattle.net_rules.specs.Process.{value_in, exec_statement}
use Rattle.net_tree.specs.Tree.{Double}
use Rattle.net_kahn.proofs.Leaves.{value_seen, sets}
use Rattle.net_kahn.proofs.simple.double.Goals as goal

pub returns : goal.returns
returns c =
    sets (exec_statement (Double c.args.var)) c.args.machine.now c.set.new.self c.args.var c.add.result (λ state. sat (value_in c.args.var state +ℤ value_in c.args.var state)) c.requires.ready.links c.set.ensures
    (λ steps fuel. ap (λ v. sat (v +ℤ v)) (value_seen c.args.var c.args.machine.now steps fuel ∙ sym c.value-value.ensures) ∙ sym c.add.ensures) (λ state. refl)
