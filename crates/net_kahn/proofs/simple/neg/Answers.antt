use Rattle.std.proofs.Common.{refl, ap, sym, ◌∙◌}
use Rattle.std.specs.Prelude.{neg_ℤ}
use Rattle.tis_base.specs.Saturation.{sat}
use Rattle.net_rules.specs.Process.{value_in, exec_statement}
use Rattle.net_tree.specs.Tree.{Neg}
use Rattle.net_kahn.proofs.Leaves.{value_seen, sets}
use Rattle.net_kahn.proofs.simple.neg.Goals as goal

pub returns : goal.returns
returns c =
    sets (exec_statement (Neg c.args.var)) c.args.machine.now c.set.new.self c.args.var c.neg-other.result (λ state. sat (neg_ℤ (value_in c.args.var state))) c.requires.ready.links c.set.ensures
    (λ steps fuel. ap (λ v. sat (neg_ℤ v)) (value_seen c.args.var c.args.machine.now steps fuel ∙ sym c.value.ensures) ∙ sym c.neg-other.ensures.value) (λ state. refl)
