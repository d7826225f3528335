-- Cycle after cycle, up to the first after which something stops it.
use Rattle.std.proofs.Common.{◌≡◌, ◌+◌, cond, Some, None, sym, ap, ◌∙◌, arith, below_more}
use Rattle.std.specs.Prelude.{Bool}
use Rattle.tis_debug.specs.declared.session.Stop.TheVariants.{Break}
use Rattle.tis_debug.specs.Sessions.{Session, moved, stands_still, break_here}
use Rattle.tis_debug.proofs.Going.{end_of, stops_still, stops_all, goes_on, break_next, stops_at, count_is, stop_is, count_least, go_most, go_less, go_all}
use Rattle.tis_debug.proofs.Standing.{moved_more}
use Rattle.tis_debug.proofs.Negations.{negated, affirmed, on_err}
use Rattle.tis_debug.proofs.session.Session.go.Goals as goal

pub returns-in_err-advance-clause-broken_off : goal.returns-in_err-advance-clause-broken_off
returns-in_err-advance-clause-broken_off c =
    on_err _ c.from_residual.result (c.loop-done.done, count_least c.args.self.now c.loop-done.done (go_most c.loop-done.done c.loop-done.auto.done-end) c.loop-done.invariant.before, c.in_err-advance.ensures.failed ∙ c.loop-done.invariant.led)

pub returns-then-not-branch-clause-stop : goal.returns-then-not-branch-clause-stop
returns-then-not-branch-clause-stop c =
    let session = c.args.self.now in
    let done = c.loop-done.done in
    let stays = c.in_ok-advance.ensures.session ∙ ap (λ (b : Bool). cond b (moved c.loop-done.self 1) c.loop-done.self) c.if-not-branch.true ∙ c.loop-done.invariant.led in
    let still = ap stands_still (sym c.loop-done.invariant.led) ∙ affirmed (stands_still c.loop-done.self) c.in_ok-advance.field-0 c.in_ok-advance.ensures.done c.if-not-branch.true in
    c.end.ensures ∙ ap end_of stays ∙ sym (stop_is session done (end_of (moved session done)) (go_most done c.loop-done.auto.done-end) c.loop-done.invariant.before (stops_still session done c.loop-done.invariant.here still))

pub returns-then-not-branch-clause-session : goal.returns-then-not-branch-clause-session
returns-then-not-branch-clause-session c =
    let session = c.args.self.now in
    let done = c.loop-done.done in
    let stays = c.in_ok-advance.ensures.session ∙ ap (λ (b : Bool). cond b (moved c.loop-done.self 1) c.loop-done.self) c.if-not-branch.true ∙ c.loop-done.invariant.led in
    let still = ap stands_still (sym c.loop-done.invariant.led) ∙ affirmed (stands_still c.loop-done.self) c.in_ok-advance.field-0 c.in_ok-advance.ensures.done c.if-not-branch.true in
    stays ∙ ap (moved session) (sym (count_is session done (end_of (moved session done)) (go_most done c.loop-done.auto.done-end) c.loop-done.invariant.before (stops_still session done c.loop-done.invariant.here still)))

pub returns-in-Some-clause-stop : goal.returns-in-Some-clause-stop
returns-in-Some-clause-stop c =
    let session = c.args.self.now in
    let done = c.loop-done.done in
    let tile = c.in-Some.tile in
    let led = c.in_ok-advance.ensures.session ∙ ap (λ (b : Bool). cond b (moved c.loop-done.self 1) c.loop-done.self) c.if-not-branch.false ∙ ap (λ (s : Session). moved s 1) c.loop-done.invariant.led ∙ moved_more session done in
    let works = ap stands_still (sym c.loop-done.invariant.led) ∙ negated (stands_still c.loop-done.self) c.in_ok-advance.field-0 c.in_ok-advance.ensures.done c.if-not-branch.false in
    let less = go_less done c.loop-done-test.true in
    sym (stop_is session (done + 1) (Break tile) (omega (arith, less)) (below_more _ _ c.loop-done.invariant.before (goes_on session done less c.loop-done.invariant.here works))
    (stops_at session (done + 1) tile (break_next session done (Some tile.number) (c.in-Some.ensures ∙ ap break_here led))))

pub returns-in-Some-clause-session : goal.returns-in-Some-clause-session
returns-in-Some-clause-session c =
    let session = c.args.self.now in
    let done = c.loop-done.done in
    let tile = c.in-Some.tile in
    let led = c.in_ok-advance.ensures.session ∙ ap (λ (b : Bool). cond b (moved c.loop-done.self 1) c.loop-done.self) c.if-not-branch.false ∙ ap (λ (s : Session). moved s 1) c.loop-done.invariant.led ∙ moved_more session done in
    let works = ap stands_still (sym c.loop-done.invariant.led) ∙ negated (stands_still c.loop-done.self) c.in_ok-advance.field-0 c.in_ok-advance.ensures.done c.if-not-branch.false in
    let less = go_less done c.loop-done-test.true in
    led ∙ ap (moved session) (sym (count_is session (done + 1) (Break tile) (omega (arith, less)) (below_more _ _ c.loop-done.invariant.before (goes_on session done less c.loop-done.invariant.here works))
    (stops_at session (done + 1) tile (break_next session done (Some tile.number) (c.in-Some.ensures ∙ ap break_here led)))))

pub loop-done-preserved : goal.loop-done-preserved
loop-done-preserved c =
    let session = c.args.self.now in
    let done = c.loop-done.done in
    let led = c.in_ok-advance.ensures.session ∙ ap (λ (b : Bool). cond b (moved c.loop-done.self 1) c.loop-done.self) c.if-not-branch.false ∙ ap (λ (s : Session). moved s 1) c.loop-done.invariant.led ∙ moved_more session done in
    let works = ap stands_still (sym c.loop-done.invariant.led) ∙ negated (stands_still c.loop-done.self) c.in_ok-advance.field-0 c.in_ok-advance.ensures.done c.if-not-branch.false in
    record {
      led = led;
      before = below_more _ _ c.loop-done.invariant.before (goes_on session done (go_less done c.loop-done-test.true) c.loop-done.invariant.here works);
      here = break_next session done None (c.in_default.ensures ∙ ap break_here led);
    }

pub returns-clause-stop : goal.returns-clause-stop
returns-clause-stop c =
    let session = c.args.self.now in
    let done = c.loop-done.done in
    let all : done ≡ 100000 = omega (arith, c.loop-done-test.false, c.loop-done.auto.done-end) in
    c.end-2.ensures ∙ ap end_of c.loop-done.invariant.led ∙ sym (stop_is session done (end_of (moved session done)) (go_most done c.loop-done.auto.done-end) c.loop-done.invariant.before (stops_all session done (go_all done all) c.loop-done.invariant.here))

pub returns-clause-session : goal.returns-clause-session
returns-clause-session c =
    let session = c.args.self.now in
    let done = c.loop-done.done in
    let all : done ≡ 100000 = omega (arith, c.loop-done-test.false, c.loop-done.auto.done-end) in
    c.loop-done.invariant.led ∙ ap (moved session) (sym (count_is session done (end_of (moved session done)) (go_most done c.loop-done.auto.done-end) c.loop-done.invariant.before (stops_all session done (go_all done all) c.loop-done.invariant.here)))
