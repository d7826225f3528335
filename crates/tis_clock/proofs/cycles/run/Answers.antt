-- Cycle after cycle.
use Rattle.std.proofs.Common.{◌≡◌, length, true, false, refl, sym, ap, subst, ◌∙◌, arith}
use Rattle.tis_grid.specs.Orders.{IsAtRest}
use Rattle.tis_clock.specs.Cycle.{cycle_events, after_cycle, after_cycles}
use Rattle.tis_clock.specs.Runs.{WorksBefore}
use Rattle.tis_clock.proofs.Runs.{cycle_more, rests, stays, works, works_more}
use Rattle.tis_clock.proofs.cycles.run.Goals as goal

pub returns-then-do_cycle-eq0-clause-ended : goal.returns-then-do_cycle-eq0-clause-ended
returns-then-do_cycle-eq0-clause-ended c =
    let grid = c.args.grid.now in
    let here = c.loop-done.state.state in
    let none : length (cycle_events grid here) ≡ 0 = sym c.do_cycle.ensures.count ∙ c.if-do_cycle-eq0.true in
    let same : c.do_cycle.new.state.state ≡ here = c.do_cycle.ensures.state ∙ stays grid here none in (
      c.loop-done.auto.done-end,
      same ∙ c.loop-done.invariant.led,
      subst (IsAtRest grid) (sym same) (rests grid here c.puzzle.ensures.grid none),
      c.loop-done.invariant.works,
    )

pub loop-done-preserved : goal.loop-done-preserved
loop-done-preserved c =
    let grid = c.args.grid.now in
    let here = c.loop-done.state.state in
    let some : length (cycle_events grid here) ≡ 0 → ⊥ = λ none. c.if-do_cycle-eq0.false (c.do_cycle.ensures.count ∙ none) in
    record {
      fits = c.do_cycle.ensures.fits;
      asleep = c.do_cycle.ensures.asleep;
      led = c.do_cycle.ensures.state ∙ ap (after_cycle grid) c.loop-done.invariant.led ∙ sym (cycle_more grid c.args.state.now.state c.loop-done.done);
      works = works_more grid c.args.state.now.state c.loop-done.done c.loop-done.invariant.works (λ rest. works grid here c.puzzle.ensures.grid some (subst (IsAtRest grid) (sym c.loop-done.invariant.led) rest));
      room = λ position stands. let had = c.loop-done.invariant.room position stands in let one = c.do_cycle.ensures.spares position in omega (arith, had, one);
      lowers = λ position. let had = c.loop-done.invariant.lowers position in let one = c.do_cycle.ensures.spares position in omega (arith, had, one);
    }

pub returns-else-at_rest-clause-ended : goal.returns-else-at_rest-clause-ended
returns-else-at_rest-clause-ended c =
    let grid = c.args.grid.now in
    let all : c.loop-done.done ≡ c.args.cycles = let end = c.loop-done-test.false in let within = c.loop-done.auto.done-end in omega (arith, end, within) in
    let led : c.loop-done.state.state ≡ after_cycles grid c.args.state.now.state c.args.cycles = c.loop-done.invariant.led ∙ ap (after_cycles grid c.args.state.now.state) all in (
      refl,
      led,
      works_more grid c.args.state.now.state c.args.cycles (subst (WorksBefore grid c.args.state.now.state) all c.loop-done.invariant.works)
          (λ rest. let is = c.at_rest.ensures.1 (subst (IsAtRest grid) (sym led) rest) in let no : true ≡ false = sym is ∙ c.if-at_rest.false in absurd cc),
    )
