-- In this direction, or else in those behind it.
use Rattle.std.proofs.Common.{List, sym, ap, ◌∙◌, Bool}
use Rattle.std.specs.Prelude.{flat_map}
use Rattle.std.specs.List.{find}
use Rattle.tis_base.specs.declared.tiles.Dir.{Dir}
use Rattle.tis_grid.specs.declared.event.Event.{Event}
use Rattle.tis_grid.specs.Events.{is_enabled}
use Rattle.tis_clock.specs.Cycle as cycle
use Rattle.tis_clock.proofs.Ways.{found_first, found_later}
use Rattle.tis_clock.proofs.turns.+give_any.Goals as goal

pub returns-in-Some-give_toward : goal.returns-in-Some-give_toward
returns-in-Some-give_toward depth c =
    let test : Event → Bool = is_enabled c.args.grid.now c.args.state.now.state in
    let ways : Dir → List Event = cycle.ways_to_give c.args.grid.now c.args.tile.number in
    sym (ap (λ (dirs : List Dir). find test (flat_map ways dirs)) c.in-Some.ensures.cases.0
    ∙ found_first test (ways c.in-Some.dir.now) (flat_map ways c.in-Some.rest.now) c.in-Some-give_toward.given (sym c.give_toward.ensures ∙ c.in-Some-give_toward.is))

pub returns-in-None-give_toward : goal.returns-in-None-give_toward
returns-in-None-give_toward depth c =
    let test : Event → Bool = is_enabled c.args.grid.now c.args.state.now.state in
    let ways : Dir → List Event = cycle.ways_to_give c.args.grid.now c.args.tile.number in
    c.give_any.ensures
    ∙ sym (ap (λ (dirs : List Dir). find test (flat_map ways dirs)) c.in-Some.ensures.cases.0
    ∙ found_later test (ways c.in-Some.dir.now) (flat_map ways c.in-Some.rest.now) (sym c.give_toward.ensures ∙ c.in-None-give_toward.is))
