use Rattle.std.proofs.Common.{[], refl, arith}
use Rattle.std.proofs.lemmas.Result.{err_from_is_err_and}
use Rattle.net_rules.specs.Rules.{declaration_fault}
use Rattle.net_rules.specs.Known.{declaration_view}
use Rattle.net_rules.proofs.Passing.{refused}
use Rattle.net_rules.proofs.declarations.check_declarations.Goals as goal

pub declared-init : goal.declared-init
declared-init c = record { earlier = []; knows = c.new-before.ensures; same = refl }

pub returns-in_err-declare : goal.returns-in_err-declare
returns-in_err-declare c =
    let p = err_from_is_err_and c.from_residual.result c.from_residual.ensures.1 in
    rw (p.1, p.2) (refused declaration_view declaration_fault c.declared.invariant.earlier c.args.declared.now c.declared.declaration-index c.declaration-item.result _ c.declared.invariant.same (omega arith) c.declaration-item.is _ (c.in_err-declare.ensures c.declared.invariant.earlier c.declared.invariant.knows).0)
