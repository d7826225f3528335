use Rattle.std.proofs.Common.{[], ◌∷◌, refl, arith}
use Rattle.std.proofs.lemmas.Result.{err_from_is_err_and}
use Rattle.net_rules.specs.Found.{use_view}
use Rattle.net_rules.specs.Known.{names_channel, order_fault_by}
use Rattle.net_rules.proofs.Passing.{refused, passed}
use Rattle.net_rules.proofs.used.check_order.Goals as goal

pub uses-init : goal.uses-init
uses-init c = record { earlier = []; same = refl }

pub returns-in_err-check_read : goal.returns-in_err-check_read
returns-in_err-check_read c =
    let p = err_from_is_err_and c.from_residual.result c.from_residual.ensures.1 in
    rw (p.1, p.2) (refused use_view (order_fault_by (names_channel c.args.numbers) c.args.writers.now) c.uses.invariant.earlier c.args.uses.now c.uses.found-index c.found-item.result _ c.uses.invariant.same (omega arith) c.found-item.is _ c.in_err-check_read.ensures)

pub uses-preserved : goal.uses-preserved
uses-preserved c =
    record {
      earlier = use_view c.found-item.result ∷ c.uses.invariant.earlier;
      same = passed use_view (order_fault_by (names_channel c.args.numbers) c.args.writers.now) c.uses.invariant.earlier c.args.uses.now c.uses.found-index c.found-item.result _ c.uses.invariant.same (omega arith) c.found-item.is c.in_ok-check_read.ensures;
    }
