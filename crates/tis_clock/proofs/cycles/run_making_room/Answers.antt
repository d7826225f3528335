-- Cycle after cycle.
use Rattle.std.proofs.Common.{◌≡◌, length, true, false, refl, sym, ap, subst, ◌∙◌, arith}
use Rattle.std.specs.Prelude.{IsSome, is_some}
use Rattle.tis_grid.specs.State.{State, output_taken}
use Rattle.tis_grid.specs.Orders.{IsAtRest}
use Rattle.tis_clock.specs.Cycle.{cycle_events, after_cycle, after_cycles}
use Rattle.tis_clock.specs.Runs.{WorksBefore}
use Rattle.tis_clock.proofs.Runs.{cycle_more, rests, stays, works, works_more}
use Rattle.tis_clock.proofs.cycles.run_making_room.Goals as goal

pub returns-then-do_cycle-eq0-clause-ended : goal.returns-then-do_cycle-eq0-clause-ended
returns-then-do_cycle-eq0-clause-ended c =
    let grid = c.args.grid.now in
    let here = c.keep_room.new.state.state in
    let led : here ≡ after_cycles grid c.args.state.now.state c.loop-done.done = c.keep_room.ensures.state ∙ c.loop-done.invariant.led in
    let none : length (cycle_events grid here) ≡ 0 = sym c.do_cycle.ensures.count ∙ c.if-do_cycle-eq0.true in
    let same : c.do_cycle.new.state.state ≡ here = c.do_cycle.ensures.state ∙ stays grid here none in (
      c.loop-done.auto.done-end,
      same ∙ led,
      subst (IsAtRest grid) (sym same) (rests grid here c.puzzle.ensures.grid none),
      c.loop-done.invariant.works,
    )

pub loop-done-preserved : goal.loop-done-preserved
loop-done-preserved c =
    let grid = c.args.grid.now in
    let here = c.keep_room.new.state.state in
    let led : here ≡ after_cycles grid c.args.state.now.state c.loop-done.done = c.keep_room.ensures.state ∙ c.loop-done.invariant.led in
    let some : length (cycle_events grid here) ≡ 0 → ⊥ = λ none. c.if-do_cycle-eq0.false (c.do_cycle.ensures.count ∙ none) in
    record {
      fits = c.do_cycle.ensures.fits;
      asleep = c.do_cycle.ensures.asleep;
      led = c.do_cycle.ensures.state ∙ ap (after_cycle grid) led ∙ sym (cycle_more grid c.args.state.now.state c.loop-done.done);
      works = works_more grid c.args.state.now.state c.loop-done.done c.loop-done.invariant.works (λ rest. works grid here c.puzzle.ensures.grid some (subst (IsAtRest grid) (sym led) rest));
      room = λ position stands.
          let taken : IsSome (output_taken here position) = ap (λ (s : State). is_some (output_taken s position)) c.keep_room.ensures.state ∙ c.loop-done.invariant.fits.outputs position ∙ stands in
          let had = c.in_ok-room.ensures.room position taken in
          let one = c.do_cycle.ensures.spares position in
          omega (arith, had, one);
    }

pub returns-else-at_rest-clause-ended : goal.returns-else-at_rest-clause-ended
returns-else-at_rest-clause-ended c =
    let grid = c.args.grid.now in
    let all : c.loop-done.done ≡ c.args.cycles = let end = c.loop-done-test.false in let within = c.loop-done.auto.done-end in omega (arith, end, within) in
    let led : c.loop-done.state.state ≡ after_cycles grid c.args.state.now.state c.args.cycles = c.loop-done.invariant.led ∙ ap (after_cycles grid c.args.state.now.state) all in (
      refl,
      led,
      works_more grid c.args.state.now.state c.args.cycles (subst (WorksBefore grid c.args.state.now.state) all c.loop-done.invariant.works)
          (λ rest. let is = c.at_rest.ensures.1 (subst (IsAtRest grid) (sym led) rest) in let no : true ≡ false = sym is ∙ c.if-at_rest.false in absurd cc),
    )
