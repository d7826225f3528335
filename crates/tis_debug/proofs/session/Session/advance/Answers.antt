-- One cycle more, or none.
use Rattle.std.proofs.Common.{◌≡◌, ℕ, ◌≤◌, ◌+◌, ◌-◌, ◌<◌, length, List, sym, ap, subst, ◌∙◌, arith}
use Rattle.std.specs.Prelude.{not}
use Rattle.tis_grid.specs.declared.event.Event.{Event}
use Rattle.tis_grid.specs.State.{State}
use Rattle.tis_grid.specs.Orders.{Fits}
use Rattle.tis_grid.specs.Points.{point_of}
use Rattle.tis_clock.specs.Cycle.{cycle_events, after_cycle}
use Rattle.tis_debug.specs.Sessions.{Session, LAST_CYCLE, state_at}
use Rattle.tis_debug.proofs.Standing.{fits_here, no_events_here, some_events_here, still_last, still_resting, still_not, stands_later}
use Rattle.tis_debug.proofs.session.Session.advance.Goals as goal

less_than : (cycle : ℕ) → cycle ≤ LAST_CYCLE → (cycle ≡ 1000000000 → ⊥) → cycle < LAST_CYCLE
unfolding LAST_CYCLE
less_than cycle within more = omega (arith, within, more)

pub returns-then-self-eq-LAST-clause-done : goal.returns-then-self-eq-LAST-clause-done
unfolding LAST_CYCLE
returns-then-self-eq-LAST-clause-done c =
    sym (ap not (still_last c.args.self.now (sym (ap (λ (s : Session). s.cycle) c.self.view_is) ∙ c.if-self-eq-LAST.true)))

pub cycle-requires-clause-fits : goal.cycle-requires-clause-fits
cycle-requires-clause-fits c =
    subst (Fits c.self.inside.grid.now) (sym c.in_ok-make_room.ensures.state) (fits_here c.args.self.now c.self.inside.grid.now c.self.inside.state c.self.inside.cycle c.self.inside.points c.self.inside.marks c.self.view_is c.self.invariant)

pub returns-then-cycle-eq0-clause-done : goal.returns-then-cycle-eq0-clause-done
returns-then-cycle-eq0-clause-done c =
    let grid = c.self.inside.grid.now in
    let none : length (cycle_events grid c.self.inside.state.state) ≡ 0 =
    ap (λ (s : State). length (cycle_events grid s)) (sym c.in_ok-make_room.ensures.state) ∙ ap (λ (events : List Event). length events) (sym c.cycle.ensures.trace) ∙ sym c.cycle.ensures.count ∙ c.if-cycle-eq0.true in
    sym (ap not (still_resting c.args.self.now (no_events_here c.args.self.now c.self.inside.grid.now c.self.inside.state c.self.inside.cycle c.self.inside.points c.self.inside.marks c.self.view_is c.self.invariant none)))

pub overflow_add-self : goal.overflow_add-self
unfolding LAST_CYCLE
overflow_add-self c = omega (arith, c.self.invariant.within)

pub invariant_of-self-2 : goal.invariant_of-self-2
invariant_of-self-2 c =
    let grid = c.self.inside.grid.now in
    stands_later grid c.self.inside.state c.cycle.new.state c.self.inside.cycle c.self.inside.points c.push_back.new.self c.self.invariant c.point-point.result
    (c.point-point.ensures ∙ ap point_of c.in_ok-make_room.ensures.state) c.push_back.ensures.items (let less : c.self.inside.cycle < LAST_CYCLE = less_than c.self.inside.cycle c.self.invariant.within c.if-self-eq-LAST.false in less) (c.cycle.ensures.state ∙ ap (after_cycle grid) c.in_ok-make_room.ensures.state)

pub returns-clause-done : goal.returns-clause-done
unfolding LAST_CYCLE
returns-clause-done c =
    let grid = c.self.inside.grid.now in
    let some : length (cycle_events grid c.self.inside.state.state) ≡ 0 → ⊥ = λ none. c.if-cycle-eq0.false
    (c.cycle.ensures.count ∙ ap (λ (events : List Event). length events) c.cycle.ensures.trace ∙ ap (λ (s : State). length (cycle_events grid s)) c.in_ok-make_room.ensures.state ∙ none) in
    sym (ap not (still_not c.args.self.now (some_events_here c.args.self.now c.self.inside.grid.now c.self.inside.state c.self.inside.cycle c.self.inside.points c.self.inside.marks c.self.view_is c.self.invariant some) (λ last. c.if-self-eq-LAST.false (ap (λ (s : Session). s.cycle) c.self.view_is ∙ last))))

pub returns-clause-trace : goal.returns-clause-trace
returns-clause-trace c =
    let grid = c.self.inside.grid.now in
    c.cycle.ensures.trace ∙ ap (cycle_events grid) (c.in_ok-make_room.ensures.state ∙ c.self.invariant.state ∙ ap (state_at grid) (let same : c.self.inside.cycle ≡ c.self.inside.cycle + 1 - 1 = omega arith in same))
