-- Each tile takes its turn that was writing; no other gives anything.
use Rattle.std.proofs.Common.{◌≡◌, ℕ, ◌++◌, ◌+◌, ◌<◌, ◌≤◌, Bool, List, length, refl, sym, ap, subst, ◌∙◌, arith}
use Rattle.tis_grid.specs.declared.event.Event.{Event}
use Rattle.tis_grid.specs.TileSets.{has}
use Rattle.tis_grid.specs.Events.{IsEnabled}
use Rattle.tis_grid.specs.HeldState.{HasRoom}
use Rattle.tis_clock.specs.Cycle.{gives_out, state_after}
use Rattle.tis_clock.specs.Turns.{kept_at}
use Rattle.tis_clock.proofs.Halves.{Done, none_done}
use Rattle.tis_clock.proofs.Room.{GivesBelow, IsLeft, all_left, later_left, if_chosen, gives_can, gives_below, room_below, still_left}
use Rattle.tis_clock.proofs.Visiting.{AreLeft, not_passed, is_wanted, one_less, visited, all_visited, idle_second}
use Rattle.tis_clock.proofs.cycles.give_all.Goals as goal

pub loop-tile-init : goal.loop-tile-init
loop-tile-init c =
    let grid = c.args.grid.now in
    record {
      fits = c.requires.fits;
      room = all_left grid c.args.state.now.spares;
      within = omega arith;
      few = omega arith;
      left = record {
        ahead = λ tile from. ap (λ (l : List Bool). has l tile) c.copy-left.ensures;
        behind = λ tile before. let bad : ⊥ = omega (arith, before) in absurd bad;
      };
      done = none_done grid (gives_out grid (kept_at c.args.writing.now)) c.args.kept c.args.state.now.state c.args.trace.now (length grid.puzzle.tiles.kinds);
    }

pub give_out-chosen-requires-clause-there : goal.give_out-chosen-requires-clause-there
give_out-chosen-requires-clause-there c =
    let tiles = c.tiles_of.ensures.tiles in
    let few = c.tiles_of.ensures.few in
    let within = c.in-Some.ensures.first.within in
    omega (arith, tiles, few, within)

pub give_out-chosen-requires-clause-wrote : goal.give_out-chosen-requires-clause-wrote
give_out-chosen-requires-clause-wrote c = is_wanted (kept_at c.args.writing.now) c.loop-tile.passed c.loop-tile.left c.loop-tile.invariant.left _ c.in-Some.ensures.first

pub act-requires-clause-enabled : goal.act-requires-clause-enabled
act-requires-clause-enabled c =
    let tile = c.in-Some.tile.number in
    let choice = gives_out c.args.grid.now (kept_at c.args.writing.now) c.loop-tile.state.state tile in
    if_chosen (λ (event : Event). IsEnabled c.args.grid.now c.loop-tile.state.state event) c.give_out-chosen.result choice c.give_out-chosen.ensures
    (gives_can c.args.grid.now (kept_at c.args.writing.now) c.loop-tile.state.state tile)

pub act-requires-clause-room : goal.act-requires-clause-room
act-requires-clause-room c =
    let grid = c.args.grid.now in
    let was = kept_at c.args.writing.now in
    let tile = c.in-Some.tile.number in
    let choice = gives_out grid was c.loop-tile.state.state tile in
    let from = not_passed was c.loop-tile.passed c.loop-tile.left c.loop-tile.invariant.left tile c.in-Some.ensures.first in
    if_chosen (λ (event : Event). HasRoom c.loop-tile.state.spares event) c.give_out-chosen.result choice c.give_out-chosen.ensures
    (λ event is. room_below grid c.loop-tile.state.state tile c.args.state.now.spares c.loop-tile.state.spares event c.requires.room (later_left grid c.loop-tile.passed tile c.args.state.now.spares c.loop-tile.state.spares c.loop-tile.invariant.room from)
    (gives_can grid was c.loop-tile.state.state tile event is) (gives_below grid was c.loop-tile.state.state tile event is))

pub loop-tile-preserved : goal.loop-tile-preserved
loop-tile-preserved c =
    let grid = c.args.grid.now in
    let was = kept_at c.args.writing.now in
    let tile = c.in-Some.tile.number in
    let first = c.in-Some.ensures.first in
    let within = first.within in
    let from = not_passed was c.loop-tile.passed c.loop-tile.left c.loop-tile.invariant.left tile first in
    let there : tile < length grid.puzzle.tiles.kinds = let tiles = c.tiles_of.ensures.tiles in let few = c.tiles_of.ensures.few in omega (arith, tiles, few, within) in
    let choice = gives_out grid was c.loop-tile.state.state tile in
    let gives = if_chosen (GivesBelow grid tile) c.give_out-chosen.result choice c.give_out-chosen.ensures (gives_below grid was c.loop-tile.state.state tile) in
    record {
      fits = c.act.ensures.fits;
      room = subst (IsLeft grid (tile + 1) c.args.state.now.spares) (sym c.act.ensures.spares)
          (still_left grid tile c.args.state.now.spares c.loop-tile.state.spares c.give_out-chosen.result (later_left grid c.loop-tile.passed tile c.args.state.now.spares c.loop-tile.state.spares c.loop-tile.invariant.room from) gives);
      within = omega (arith, within);
      few = let had = c.loop-tile.invariant.few in let one = c.number_of-count.ensures.one in omega (arith, had, one, from);
      left = subst (AreLeft was (tile + 1)) (sym c.in-Some.ensures.others) (one_less was c.loop-tile.passed c.loop-tile.left c.loop-tile.invariant.left tile first);
      done = visited grid (gives_out grid was) was c.args.kept c.args.state.now.state c.args.trace.now (length grid.puzzle.tiles.kinds) c.loop-tile.passed c.loop-tile.trace c.loop-tile.count c.loop-tile.state.state c.loop-tile.left c.loop-tile.invariant.done c.loop-tile.invariant.left
          (λ other inside no. idle_second grid c.puzzle.ensures.grid was c.loop-tile.state.state other inside no)
          tile c.give_out-chosen.result c.add.new.self c.number_of-count.result c.act.new.state.state first there c.give_out-chosen.ensures c.add.ensures c.number_of-count.ensures.number c.act.ensures.state;
    }

pub returns-clause-trace : goal.returns-clause-trace
returns-clause-trace c = λ kept.
    let grid = c.args.grid.now in
    let was = kept_at c.args.writing.now in
    let few : c.loop-tile.passed ≤ length grid.puzzle.tiles.kinds = let tiles = c.tiles_of.ensures.tiles in let twelve = c.tiles_of.ensures.few in let within = c.loop-tile.invariant.within in omega (arith, tiles, twelve, within) in
    let all = all_visited grid (gives_out grid was) was c.args.kept c.args.state.now.state c.args.trace.now (length grid.puzzle.tiles.kinds) c.loop-tile.passed c.loop-tile.trace c.loop-tile.count c.loop-tile.state.state c.loop-tile.left c.loop-tile.invariant.done c.loop-tile.invariant.left
    (λ other inside no. idle_second grid c.puzzle.ensures.grid was c.loop-tile.state.state other inside no) (c.in_default.ensures.none refl) few in
    c.loop-tile.invariant.done.trace_is kept ∙ ap (λ (given : List Event). c.args.trace.now ++ given) (sym all)

pub returns-clause-count : goal.returns-clause-count
returns-clause-count c =
    let grid = c.args.grid.now in
    let was = kept_at c.args.writing.now in
    let few : c.loop-tile.passed ≤ length grid.puzzle.tiles.kinds = let tiles = c.tiles_of.ensures.tiles in let twelve = c.tiles_of.ensures.few in let within = c.loop-tile.invariant.within in omega (arith, tiles, twelve, within) in
    let all = all_visited grid (gives_out grid was) was c.args.kept c.args.state.now.state c.args.trace.now (length grid.puzzle.tiles.kinds) c.loop-tile.passed c.loop-tile.trace c.loop-tile.count c.loop-tile.state.state c.loop-tile.left c.loop-tile.invariant.done c.loop-tile.invariant.left
    (λ other inside no. idle_second grid c.puzzle.ensures.grid was c.loop-tile.state.state other inside no) (c.in_default.ensures.none refl) few in
    c.loop-tile.invariant.done.counted_is ∙ ap (λ (given : List Event). length given) (sym all)

pub returns-clause-state : goal.returns-clause-state
returns-clause-state c =
    let grid = c.args.grid.now in
    let was = kept_at c.args.writing.now in
    let few : c.loop-tile.passed ≤ length grid.puzzle.tiles.kinds = let tiles = c.tiles_of.ensures.tiles in let twelve = c.tiles_of.ensures.few in let within = c.loop-tile.invariant.within in omega (arith, tiles, twelve, within) in
    let all = all_visited grid (gives_out grid was) was c.args.kept c.args.state.now.state c.args.trace.now (length grid.puzzle.tiles.kinds) c.loop-tile.passed c.loop-tile.trace c.loop-tile.count c.loop-tile.state.state c.loop-tile.left c.loop-tile.invariant.done c.loop-tile.invariant.left
    (λ other inside no. idle_second grid c.puzzle.ensures.grid was c.loop-tile.state.state other inside no) (c.in_default.ensures.none refl) few in
    c.loop-tile.invariant.done.now_is ∙ ap (state_after grid c.args.state.now.state) (sym all)
