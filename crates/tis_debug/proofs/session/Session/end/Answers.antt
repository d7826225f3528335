-- At rest, or at the limit.
use Rattle.std.proofs.Common.{cond, sym, ap, ◌∙◌}
use Rattle.std.specs.Prelude.{Bool}
use Rattle.tis_debug.specs.declared.session.Stop.TheVariants.{Rest, Limit}
use Rattle.tis_debug.proofs.Standing.{fits_here, resting_here}
use Rattle.tis_debug.proofs.session.Session.end.Goals as goal

pub at_rest-requires : goal.at_rest-requires
at_rest-requires c = fits_here c.args.self.now c.self.inside.grid.now c.self.inside.state c.self.inside.cycle c.self.inside.points c.self.inside.marks c.self.view_is c.self.invariant

pub returns-then-at_rest : goal.returns-then-at_rest
returns-then-at_rest c =
    let resting = resting_here c.args.self.now c.self.inside.grid.now c.self.inside.state c.self.inside.cycle c.self.inside.points c.self.inside.marks c.self.view_is c.self.invariant c.at_rest.result c.at_rest.ensures in
    sym (ap (λ (b : Bool). cond b Rest Limit) (resting ∙ c.if-at_rest.true))

pub returns-else-at_rest : goal.returns-else-at_rest
returns-else-at_rest c =
    let resting = resting_here c.args.self.now c.self.inside.grid.now c.self.inside.state c.self.inside.cycle c.self.inside.points c.self.inside.marks c.self.view_is c.self.invariant c.at_rest.result c.at_rest.ensures in
    sym (ap (λ (b : Bool). cond b Rest Limit) (resting ∙ c.if-at_rest.false))
