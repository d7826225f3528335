use Rattle.std.proofs.Common.{ℕ, arith}
use Rattle.std.proofs.lemmas.List.{get_or_default}
use Rattle.net_rules.proofs.Joining.{one_added, all_added}
use Rattle.net_rules.proofs.joins.add_all.Goals as goal

pub numbers-preserved : goal.numbers-preserved
numbers-preserved c = λ (number : ℕ). one_added number c.args.numbers.now c.numbers.number-index _ _ _ _ (c.numbers.invariant number) (omega arith) (get_or_default c.args.numbers.now c.numbers.number-index _ _ (omega arith)) (c.in_ok-insert.ensures.updates.0 number)

pub returns : goal.returns
returns c = λ (number : ℕ). all_added number c.args.numbers.now c.numbers.number-index _ _ (c.numbers.invariant number) (omega arith)
