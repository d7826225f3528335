-- The two halves are the cycle.
use Rattle.std.proofs.Common.{◌≡◌, ◌+◌, ◌++◌, length, List, refl, ap, ◌∙◌, arith, length-append}
use Rattle.tis_grid.specs.declared.event.Event.{Event}
use Rattle.tis_clock.specs.Cycle.{writers, reads_or_steps, gives_out, in_turn, all_tiles}
use Rattle.tis_clock.specs.Turns.{kept_at}
use Rattle.tis_clock.proofs.Same.{is_whole}
use Rattle.tis_clock.proofs.Sleeping.{asleep_by, still_asleep}
use Rattle.tis_clock.proofs.cycles.do_cycle.Goals as goal

pub second_half-second-requires-clause-few : goal.second_half-second-requires-clause-few
second_half-second-requires-clause-few c = λ kept.
    let is = ap (λ (events : List Event). length events) (c.first_half-first.ensures.trace kept) in
    let count = c.first_half-first.ensures.count in
    let few = c.first_half-first.ensures.few in
    omega (arith, is, count, few)

pub returns-clause-trace : goal.returns-clause-trace
returns-clause-trace c = λ kept.
    let grid = c.args.grid.now in
    let was = kept_at c.writers-writing.result in
    let first : List Event = in_turn grid (reads_or_steps grid was) c.args.state.now.state (all_tiles grid) in
    let second : List Event = in_turn grid (gives_out grid was) c.first_half-first.new.state.state (all_tiles grid) in
    c.second_half-second.ensures.trace kept ∙ ap (λ (events : List Event). events ++ second) (c.first_half-first.ensures.trace kept)
    ∙ (is_whole grid c.writers-writing.result c.args.state.now.state c.first_half-first.new.state.state c.second_half-second.new.state.state first (first ++ second)
    c.writers-writing.ensures refl c.first_half-first.ensures.state refl c.second_half-second.ensures.state).events

pub returns-clause-count : goal.returns-clause-count
returns-clause-count c =
    let grid = c.args.grid.now in
    let was = kept_at c.writers-writing.result in
    let first : List Event = in_turn grid (reads_or_steps grid was) c.args.state.now.state (all_tiles grid) in
    let second : List Event = in_turn grid (gives_out grid was) c.first_half-first.new.state.state (all_tiles grid) in
    let one = c.first_half-first.ensures.count in
    let other = c.second_half-second.ensures.count in
    let both = length-append first second in
    let sum : c.first_half-first.result + c.second_half-second.result ≡ length (first ++ second) = omega (arith, one, other, both) in
    sum ∙ ap (λ (events : List Event). length events)
    (is_whole grid c.writers-writing.result c.args.state.now.state c.first_half-first.new.state.state c.second_half-second.new.state.state first (first ++ second)
    c.writers-writing.ensures refl c.first_half-first.ensures.state refl c.second_half-second.ensures.state).events

pub returns-clause-state : goal.returns-clause-state
returns-clause-state c =
    let grid = c.args.grid.now in
    let was = kept_at c.writers-writing.result in
    let first : List Event = in_turn grid (reads_or_steps grid was) c.args.state.now.state (all_tiles grid) in
    let second : List Event = in_turn grid (gives_out grid was) c.first_half-first.new.state.state (all_tiles grid) in
    (is_whole grid c.writers-writing.result c.args.state.now.state c.first_half-first.new.state.state c.second_half-second.new.state.state first (first ++ second)
    c.writers-writing.ensures refl c.first_half-first.ensures.state refl c.second_half-second.ensures.state).after

pub first_half-first-requires-clause-asleep : goal.first_half-first-requires-clause-asleep
first_half-first-requires-clause-asleep c = asleep_by c.args.grid.now (writers c.args.state.now.state) (kept_at c.writers-writing.result) c.writers-writing.ensures c.args.state.now.state c.args.asleep.now c.requires.asleep

pub wake-requires : goal.wake-requires
wake-requires c = c.first_half-first.ensures.asleep.full

pub returns-clause-asleep : goal.returns-clause-asleep
returns-clause-asleep c =
    let grid = c.args.grid.now in
    record {
      full = c.wake.ensures.full;
      each = λ tile is.
          let kept = c.wake.ensures.none_begins tile is in
          still_asleep grid c.puzzle.ensures.grid c.args.state.now.state (kept_at c.writers-writing.result) c.writers-writing.ensures (all_tiles grid) c.first_half-first.new.state.state c.first_half-first.ensures.fits kept.1
          c.second_half-second.new.state.state c.second_half-second.ensures.state tile (c.first_half-first.ensures.asleep.each tile kept.0);
    }
