use Rattle.std.proofs.Common.{◌∷◌, [], refl, sym, subst, ◌∙◌, arith}
use Rattle.std.proofs.lemmas.Result.{err_from_is_err_and}
use Rattle.net_rules.specs.Broken.{IsBroken}
use Rattle.net_rules.specs.Found.{use_view}
use Rattle.net_rules.specs.Known.{can_read, can_write, use_fault_among}
use Rattle.net_rules.proofs.Passing.{refused, passed}
use Rattle.net_rules.proofs.Knowing.{same_fault, knows_more, knows_none}
use Rattle.net_rules.proofs.known.check_statements.Goals as goal

pub uses-init : goal.uses-init
uses-init c = record { earlier = []; knows = knows_none _ _ c.new.ensures c.new-2.ensures; same = refl }

pub returns-in_err-note : goal.returns-in_err-note
returns-in_err-note c =
    let p = err_from_is_err_and c.from_residual.result c.from_residual.ensures.1 in
    let broken = subst (IsBroken _) (sym (same_fault (can_read c.args.numbers) (can_write c.args.numbers) _ _ c.uses.invariant.earlier c.uses.invariant.knows (use_view c.found-item.result))) c.in_err-note.ensures.fault in
    rw (p.1, p.2) (refused use_view (use_fault_among (can_read c.args.numbers) (can_write c.args.numbers)) c.uses.invariant.earlier c.args.uses.now c.uses.found-index c.found-item.result _ c.uses.invariant.same (omega arith) c.found-item.is _ broken)

pub uses-preserved : goal.uses-preserved
uses-preserved c =
    let found = use_view c.found-item.result in
    let knows = c.uses.invariant.knows in
    let none = c.in_ok-note.ensures.fault in
    record {
      earlier = found ∷ c.uses.invariant.earlier;
      knows = knows_more (can_read c.args.numbers) (can_write c.args.numbers) _ _ c.uses.invariant.earlier knows found none _ _ c.in_ok-note.ensures.read c.in_ok-note.ensures.written;
      same = passed use_view (use_fault_among (can_read c.args.numbers) (can_write c.args.numbers)) c.uses.invariant.earlier c.args.uses.now c.uses.found-index c.found-item.result _ c.uses.invariant.same (omega arith) c.found-item.is (same_fault (can_read c.args.numbers) (can_write c.args.numbers) _ _ c.uses.invariant.earlier knows found ∙ none);
    }
