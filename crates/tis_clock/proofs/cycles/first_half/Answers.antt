-- Each tile takes its turn that has a node with a program and wasn't writing; no other does anything.
use Rattle.std.proofs.Common.{◌≡◌, ℕ, [], ◌+◌, ◌*◌, ◌<◌, ◌≤◌, Bool, true, false, List, length, inl, inr, refl, sym, ap, subst, ◌∙◌, arith}
use Rattle.std.specs.Prelude.{◌&&◌, not, slice_set}
use Rattle.std.proofs.lemmas.Bool.{cases_eq}
use Rattle.std.proofs.lemmas.List.{get_or-set_other, get_or-set_same}
use Rattle.tis_grid.specs.declared.event.Event.{Event}
use Rattle.tis_grid.specs.State.{State}
use Rattle.tis_grid.specs.TileSets.{has}
use Rattle.tis_clock.specs.Cycle.{reads_or_steps, state_after}
use Rattle.tis_clock.specs.Sleepers.{Sleeps}
use Rattle.tis_clock.specs.Turns.{kept_at}
use Rattle.tis_clock.proofs.Halves.{Done, none_done}
use Rattle.tis_clock.proofs.Sleeping.{sleeps_on}
use Rattle.tis_clock.proofs.Visiting.{AreLeft, not_passed, is_wanted, within_left, one_less, visited, all_visited, turns_first, both_yes, not_yes, first_wants, idle_first}
use Rattle.tis_clock.proofs.cycles.first_half.Goals as goal

pub loop-tile-init : goal.loop-tile-init
loop-tile-init c =
    let grid = c.args.grid.now in
    record {
      fits = c.requires.fits;
      spares = refl;
      within = omega arith;
      few = omega arith;
      left = record {
        ahead = λ tile from. c.without-left.ensures tile ∙ ap (λ (b : Bool). b && not (kept_at c.args.asleep.now tile)) (c.without-ready.ensures tile ∙ ap (λ (b : Bool). b && not (kept_at c.args.writing.now tile)) (c.working-working.ensures tile));
        behind = λ tile before. let bad : ⊥ = omega (arith, before) in absurd bad;
      };
      asleep = c.requires.asleep;
      stay = λ tile is. is;
      awake = λ tile is. not_yes (kept_at c.args.asleep.now tile) (both_yes (has c.without-ready.result tile) (not (kept_at c.args.asleep.now tile)) (sym (c.without-left.ensures tile) ∙ is)).1;
      done = subst (λ (trace : List Event). Done grid (reads_or_steps grid (kept_at c.args.writing.now)) c.args.kept c.args.state.now.state [] (length grid.puzzle.tiles.kinds) 0 trace 0 c.args.state.now.state)
          (sym c.requires.empty) (none_done grid (reads_or_steps grid (kept_at c.args.writing.now)) c.args.kept c.args.state.now.state [] (length grid.puzzle.tiles.kinds));
    }

pub read_or_step-chosen-requires-clause-there : goal.read_or_step-chosen-requires-clause-there
read_or_step-chosen-requires-clause-there c =
    let tiles = c.tiles_of.ensures.tiles in
    let few = c.tiles_of.ensures.few in
    let within = c.in-Some.ensures.first.within in
    omega (arith, tiles, few, within)

pub read_or_step-chosen-requires-clause-ready : goal.read_or_step-chosen-requires-clause-ready
read_or_step-chosen-requires-clause-ready c =
    (first_wants c.args.grid.now (kept_at c.args.writing.now) (kept_at c.args.asleep.now) _ (is_wanted (turns_first c.args.grid.now (kept_at c.args.writing.now) (kept_at c.args.asleep.now)) c.loop-tile.passed c.loop-tile.left c.loop-tile.invariant.left _ c.in-Some.ensures.first)).1

pub read_or_step-chosen-requires-clause-computes : goal.read_or_step-chosen-requires-clause-computes
read_or_step-chosen-requires-clause-computes c =
    (first_wants c.args.grid.now (kept_at c.args.writing.now) (kept_at c.args.asleep.now) _ (is_wanted (turns_first c.args.grid.now (kept_at c.args.writing.now) (kept_at c.args.asleep.now)) c.loop-tile.passed c.loop-tile.left c.loop-tile.invariant.left _ c.in-Some.ensures.first)).0

pub read_or_step-chosen-requires-clause-full : goal.read_or_step-chosen-requires-clause-full
read_or_step-chosen-requires-clause-full c = c.loop-tile.invariant.asleep.full

pub read_or_step-chosen-requires-clause-awake : goal.read_or_step-chosen-requires-clause-awake
read_or_step-chosen-requires-clause-awake c = c.loop-tile.invariant.awake c.in-Some.tile.number c.in-Some.ensures.first.is_in

pub loop-tile-preserved : goal.loop-tile-preserved
loop-tile-preserved c =
    let grid = c.args.grid.now in
    let was = kept_at c.args.writing.now in
    let tile = c.in-Some.tile.number in
    let first = c.in-Some.ensures.first in
    let within = first.within in
    let from = not_passed (turns_first grid was (kept_at c.args.asleep.now)) c.loop-tile.passed c.loop-tile.left c.loop-tile.invariant.left tile first in
    let inside : tile < grid.puzzle.tiles.shape.columns * grid.puzzle.tiles.shape.rows = let tiles = c.tiles_of.ensures.tiles in let few = c.tiles_of.ensures.few in let filled = c.puzzle.ensures.grid.puzzle.tiles.filled in omega (arith, tiles, few, within, filled) in
    let there : tile < length grid.puzzle.tiles.kinds = let tiles = c.tiles_of.ensures.tiles in let few = c.tiles_of.ensures.few in omega (arith, tiles, few, within) in
    record {
      fits = c.read_or_step-chosen.ensures.fits;
      spares = c.read_or_step-chosen.ensures.spares ∙ c.loop-tile.invariant.spares;
      within = omega (arith, within);
      few = let had = c.loop-tile.invariant.few in let one = c.number_of-count.ensures.one in omega (arith, had, one, from);
      left = subst (AreLeft (turns_first grid was (kept_at c.args.asleep.now)) (tile + 1)) (sym c.in-Some.ensures.others) (one_less (turns_first grid was (kept_at c.args.asleep.now)) c.loop-tile.passed c.loop-tile.left c.loop-tile.invariant.left tile first);
      asleep = record {
        full = c.read_or_step-chosen.ensures.full;
        each = λ other is. elim (cases_eq other tile) [
          | inl same ↦ subst (λ (t : ℕ). Sleeps grid was c.read_or_step-chosen.new.state.state t) (sym same) (c.read_or_step-chosen.ensures.asleep (ap (λ (t : ℕ). kept_at c.read_or_step-chosen.new.asleep t) (sym same) ∙ is))
          | inr apart ↦
              subst (λ (s : State). Sleeps grid was s other) (sym c.read_or_step-chosen.ensures.state)
              (sleeps_on grid c.puzzle.ensures.grid c.args.state.now.state was c.requires.keeps c.loop-tile.state.state c.loop-tile.invariant.fits tile inside c.read_or_step-chosen.result c.read_or_step-chosen.ensures.chosen other apart
              (c.loop-tile.invariant.asleep.each other (sym (c.read_or_step-chosen.ensures.others other apart) ∙ is)))
        ];
      };
      stay = λ other is. elim (cases_eq other tile) [
        | inl same ↦ let no : true ≡ false = sym (c.loop-tile.invariant.stay other is) ∙ ap (λ (t : ℕ). has c.loop-tile.asleep t) same ∙ c.loop-tile.invariant.awake tile first.is_in in absurd cc
        | inr apart ↦ c.read_or_step-chosen.ensures.others other apart ∙ c.loop-tile.invariant.stay other is
      ];
      awake = λ other is. elim (cases_eq other tile) [
        | inl same ↦ let no : true ≡ false = sym is ∙ ap (λ (l : List Bool). has l other) c.in-Some.ensures.others ∙ ap (λ (t : ℕ). has (slice_set c.loop-tile.left tile false) t) same ∙ get_or-set_same c.loop-tile.left tile false false (within_left (turns_first grid was (kept_at c.args.asleep.now)) c.loop-tile.passed c.loop-tile.left c.loop-tile.invariant.left tile first) in absurd cc
        | inr apart ↦ c.read_or_step-chosen.ensures.others other apart ∙ c.loop-tile.invariant.awake other (sym (ap (λ (l : List Bool). has l other) c.in-Some.ensures.others ∙ get_or-set_other c.loop-tile.left tile other false false apart) ∙ is)
      ];
      done = visited grid (reads_or_steps grid was) (turns_first grid was (kept_at c.args.asleep.now)) c.args.kept c.args.state.now.state [] (length grid.puzzle.tiles.kinds) c.loop-tile.passed c.loop-tile.trace c.loop-tile.count c.loop-tile.state.state c.loop-tile.left c.loop-tile.invariant.done c.loop-tile.invariant.left
          (λ other inside no. idle_first grid c.puzzle.ensures.grid was c.loop-tile.state.state other inside (kept_at c.args.asleep.now) (λ is. c.loop-tile.invariant.asleep.each other (c.loop-tile.invariant.stay other is)) no)
          tile c.read_or_step-chosen.result c.add.new.self c.number_of-count.result c.read_or_step-chosen.new.state.state first there c.read_or_step-chosen.ensures.chosen c.add.ensures c.number_of-count.ensures.number c.read_or_step-chosen.ensures.state;
    }

pub returns-clause-trace : goal.returns-clause-trace
returns-clause-trace c = λ kept.
    let grid = c.args.grid.now in
    let was = kept_at c.args.writing.now in
    let few : c.loop-tile.passed ≤ length grid.puzzle.tiles.kinds = let tiles = c.tiles_of.ensures.tiles in let twelve = c.tiles_of.ensures.few in let within = c.loop-tile.invariant.within in omega (arith, tiles, twelve, within) in
    let all = all_visited grid (reads_or_steps grid was) (turns_first grid was (kept_at c.args.asleep.now)) c.args.kept c.args.state.now.state [] (length grid.puzzle.tiles.kinds) c.loop-tile.passed c.loop-tile.trace c.loop-tile.count c.loop-tile.state.state c.loop-tile.left c.loop-tile.invariant.done c.loop-tile.invariant.left
    (λ other inside no. idle_first grid c.puzzle.ensures.grid was c.loop-tile.state.state other inside (kept_at c.args.asleep.now) (λ is. c.loop-tile.invariant.asleep.each other (c.loop-tile.invariant.stay other is)) no) (c.in_default.ensures.none refl) few in
    c.loop-tile.invariant.done.trace_is kept ∙ sym all

pub returns-clause-count : goal.returns-clause-count
returns-clause-count c =
    let grid = c.args.grid.now in
    let was = kept_at c.args.writing.now in
    let few : c.loop-tile.passed ≤ length grid.puzzle.tiles.kinds = let tiles = c.tiles_of.ensures.tiles in let twelve = c.tiles_of.ensures.few in let within = c.loop-tile.invariant.within in omega (arith, tiles, twelve, within) in
    let all = all_visited grid (reads_or_steps grid was) (turns_first grid was (kept_at c.args.asleep.now)) c.args.kept c.args.state.now.state [] (length grid.puzzle.tiles.kinds) c.loop-tile.passed c.loop-tile.trace c.loop-tile.count c.loop-tile.state.state c.loop-tile.left c.loop-tile.invariant.done c.loop-tile.invariant.left
    (λ other inside no. idle_first grid c.puzzle.ensures.grid was c.loop-tile.state.state other inside (kept_at c.args.asleep.now) (λ is. c.loop-tile.invariant.asleep.each other (c.loop-tile.invariant.stay other is)) no) (c.in_default.ensures.none refl) few in
    c.loop-tile.invariant.done.counted_is ∙ ap (λ (given : List Event). length given) (sym all)

pub returns-clause-state : goal.returns-clause-state
returns-clause-state c =
    let grid = c.args.grid.now in
    let was = kept_at c.args.writing.now in
    let few : c.loop-tile.passed ≤ length grid.puzzle.tiles.kinds = let tiles = c.tiles_of.ensures.tiles in let twelve = c.tiles_of.ensures.few in let within = c.loop-tile.invariant.within in omega (arith, tiles, twelve, within) in
    let all = all_visited grid (reads_or_steps grid was) (turns_first grid was (kept_at c.args.asleep.now)) c.args.kept c.args.state.now.state [] (length grid.puzzle.tiles.kinds) c.loop-tile.passed c.loop-tile.trace c.loop-tile.count c.loop-tile.state.state c.loop-tile.left c.loop-tile.invariant.done c.loop-tile.invariant.left
    (λ other inside no. idle_first grid c.puzzle.ensures.grid was c.loop-tile.state.state other inside (kept_at c.args.asleep.now) (λ is. c.loop-tile.invariant.asleep.each other (c.loop-tile.invariant.stay other is)) no) (c.in_default.ensures.none refl) few in
    c.loop-tile.invariant.done.now_is ∙ ap (state_after grid c.args.state.now.state) (sym all)
