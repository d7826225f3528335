-- Cycle after cycle.
use Rattle.std.proofs.Common.{◌≡◌, cond, inl, inr, sym, ap, ◌∙◌, arith, below_more}
use Rattle.std.specs.Prelude.{Bool}
use Rattle.tis_debug.specs.Sessions.{Session, moved, stands_still}
use Rattle.tis_debug.proofs.First.{first_is, first_least}
use Rattle.tis_debug.proofs.Standing.{moved_more}
use Rattle.tis_debug.proofs.Negations.{negated, affirmed, on_err}
use Rattle.tis_debug.proofs.session.Session.step.Goals as goal

pub returns-in_err-advance-clause-broken_off : goal.returns-in_err-advance-clause-broken_off
returns-in_err-advance-clause-broken_off c =
    let session = c.args.self.now in
    on_err _ c.from_residual.result (c.loop-done.done, first_least (λ n. stands_still (moved session n)) c.args.count c.loop-done.done c.loop-done.auto.done-end c.loop-done.invariant.before, c.in_err-advance.ensures.failed ∙ c.loop-done.invariant.led)

pub returns-then-not-branch-clause-done : goal.returns-then-not-branch-clause-done
returns-then-not-branch-clause-done c =
    let session = c.args.self.now in
    sym (first_is (λ n. stands_still (moved session n)) c.args.count c.loop-done.done c.loop-done.auto.done-end c.loop-done.invariant.before
    (inr (ap stands_still (sym c.loop-done.invariant.led) ∙ affirmed (stands_still c.loop-done.self) c.in_ok-advance.field-0 c.in_ok-advance.ensures.done c.if-not-branch.true)))

pub loop-done-preserved : goal.loop-done-preserved
loop-done-preserved c =
    let session = c.args.self.now in
    record {
      led =
          c.in_ok-advance.ensures.session
          ∙ ap (λ (b : Bool). cond b (moved c.loop-done.self 1) c.loop-done.self) c.if-not-branch.false
          ∙ ap (λ (s : Session). moved s 1) c.loop-done.invariant.led
          ∙ moved_more session c.loop-done.done;
      before = below_more _ _ c.loop-done.invariant.before (ap stands_still (sym c.loop-done.invariant.led) ∙ negated (stands_still c.loop-done.self) c.in_ok-advance.field-0 c.in_ok-advance.ensures.done c.if-not-branch.false);
    }

pub returns-clause-done : goal.returns-clause-done
returns-clause-done c =
    let session = c.args.self.now in
    let all : c.loop-done.done ≡ c.args.count = omega (arith, c.loop-done-test.false, c.loop-done.auto.done-end) in
    sym all ∙ sym (first_is (λ n. stands_still (moved session n)) c.args.count c.loop-done.done c.loop-done.auto.done-end c.loop-done.invariant.before (inl all))
