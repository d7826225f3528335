use Rattle.std.proofs.Common.{refl, ap, sym, ◌∙◌}
use Rattle.std.specs.Prelude.{◌+ℤ◌}
use Rattle.tis_base.specs.Saturation.{sat}
use Rattle.net_rules.specs.Process.{value_in, exec_statement}
use Rattle.net_tree.specs.Tree.{Add}
use Rattle.net_kahn.proofs.Leaves.{value_seen, sets}
use Rattle.net_kahn.proofs.simple.add.Goals as goal

pub returns : goal.returns
returns c =
    sets (exec_statement (Add c.args.var c.args.number)) c.args.machine.now c.set.new.self c.args.var c.add-sum.result (λ state. sat (value_in c.args.var state +ℤ c.args.number)) c.requires.ready.links c.set.ensures
    (λ steps fuel. ap (λ v. sat (v +ℤ c.args.number)) (value_seen c.args.var c.args.machine.now steps fuel ∙ sym c.value.ensures) ∙ sym c.add-sum.ensures) (λ state. refl)
