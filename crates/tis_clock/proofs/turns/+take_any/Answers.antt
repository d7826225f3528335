-- In this direction, or else in those behind it.
use Rattle.std.proofs.Common.{List, sym, ap, ◌∙◌, Bool}
use Rattle.std.specs.Prelude.{◌&&◌, flat_map}
use Rattle.tis_base.specs.declared.tiles.Dir.{Dir}
use Rattle.tis_grid.specs.declared.event.Event.{Event}
use Rattle.tis_grid.specs.Events.{is_enabled}
use Rattle.tis_clock.specs.Cycle as cycle
use Rattle.tis_clock.specs.Turns.{kept_at}
use Rattle.tis_clock.proofs.Ways.{found_first, found_later}
use Rattle.tis_clock.proofs.turns.+take_any.Goals as goal

pub returns-in-Some-take_from : goal.returns-in-Some-take_from
returns-in-Some-take_from depth c =
    let test : Event → Bool = λ event. cycle.gives_old (kept_at c.args.writing.now) event && is_enabled c.args.grid.now c.args.state.now.state event in
    let ways : Dir → List Event = cycle.ways_to_take c.args.grid.now c.args.tile.number in
    sym (ap (λ (dirs : List Dir). cycle.first_way c.args.grid.now (kept_at c.args.writing.now) c.args.state.now.state (flat_map ways dirs)) c.in-Some.ensures.cases.0
    ∙ found_first test (ways c.in-Some.dir.now) (flat_map ways c.in-Some.rest.now) c.in-Some-take_from.taken (sym c.take_from.ensures ∙ c.in-Some-take_from.is))

pub returns-in-None-take_from : goal.returns-in-None-take_from
returns-in-None-take_from depth c =
    let test : Event → Bool = λ event. cycle.gives_old (kept_at c.args.writing.now) event && is_enabled c.args.grid.now c.args.state.now.state event in
    let ways : Dir → List Event = cycle.ways_to_take c.args.grid.now c.args.tile.number in
    c.take_any.ensures
    ∙ sym (ap (λ (dirs : List Dir). cycle.first_way c.args.grid.now (kept_at c.args.writing.now) c.args.state.now.state (flat_map ways dirs)) c.in-Some.ensures.cases.0
    ∙ found_later test (ways c.in-Some.dir.now) (flat_map ways c.in-Some.rest.now) (sym c.take_from.ensures ∙ c.in-None-take_from.is))
