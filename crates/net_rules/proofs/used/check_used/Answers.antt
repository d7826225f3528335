use Rattle.std.proofs.Common.{[], ◌∷◌, refl, arith}
use Rattle.std.proofs.lemmas.Result.{err_from_is_err_and}
use Rattle.net_rules.specs.Known.{declaration_view, unused_fault_by}
use Rattle.net_rules.proofs.Passing.{refused, passed}
use Rattle.net_rules.proofs.used.check_used.Goals as goal

pub declared-init : goal.declared-init
declared-init c = record { earlier = []; same = refl }

pub returns-in_err-check_declared : goal.returns-in_err-check_declared
returns-in_err-check_declared c =
    let p = err_from_is_err_and c.from_residual.result c.from_residual.ensures.1 in
    rw (p.1, p.2) (refused declaration_view (unused_fault_by c.args.users.now.readers c.args.users.now.writers) c.declared.invariant.earlier c.args.declared.now c.declared.declaration-index c.declaration-item.result _ c.declared.invariant.same (omega arith) c.declaration-item.is _ c.in_err-check_declared.ensures)

pub declared-preserved : goal.declared-preserved
declared-preserved c =
    record {
      earlier = declaration_view c.declaration-item.result ∷ c.declared.invariant.earlier;
      same = passed declaration_view (unused_fault_by c.args.users.now.readers c.args.users.now.writers) c.declared.invariant.earlier c.args.declared.now c.declared.declaration-index c.declaration-item.result _ c.declared.invariant.same (omega arith) c.declaration-item.is c.in_ok-check_declared.ensures;
    }
