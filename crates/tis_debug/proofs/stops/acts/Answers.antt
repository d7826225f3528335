-- The node takes part in one of the events, or in none.
use Rattle.std.proofs.Common.{◌≤◌, length, get_or, sym, ap, ◌∙◌, arith}
use Rattle.std.specs.Prelude.{Bool, ◌||◌}
use Rattle.std.specs.List.{list_any}
use Rattle.std.proofs.lemmas.Option.{slice_get_within, get_or_from_slice_get}
use Rattle.std.proofs.lemmas.List.Folds.{list_any_at, list_any_more}
use Rattle.std.proofs.lemmas.List.{take_all}
use Rattle.tis_grid.specs.declared.event.Event.{Event}
use Rattle.tis_debug.specs.Held.{takes_part}
use Rattle.tis_debug.proofs.stops.acts.Goals as goal

pub returns-then-is_part : goal.returns-then-is_part
returns-then-is_part c =
    let part = λ (event : Event). takes_part c.args.grid.now event c.args.tile.number in
    let here = get_or_from_slice_get c.args.trace.now c.loop-index.index c.at.result c.at.result c.at.ensures in
    sym (list_any_at part c.args.trace.now c.loop-index.index c.at.result (slice_get_within c.args.trace.now c.loop-index.index c.at.result c.at.ensures) (ap part here ∙ sym c.is_part.ensures ∙ c.if-is_part.true))

pub loop-index-preserved : goal.loop-index-preserved
loop-index-preserved c =
    let part = λ (event : Event). takes_part c.args.grid.now event c.args.tile.number in
    let here = get_or_from_slice_get c.args.trace.now c.loop-index.index c.at.result c.at.result c.at.ensures in
    list_any_more part c.args.trace.now c.loop-index.index c.at.result (slice_get_within c.args.trace.now c.loop-index.index c.at.result c.at.ensures)
    ∙ ap (λ (b : Bool). b || part (get_or c.args.trace.now c.loop-index.index c.at.result)) c.loop-index.invariant ∙ ap part here ∙ sym c.is_part.ensures ∙ c.if-is_part.false

pub returns : goal.returns
returns c =
    let part = λ (event : Event). takes_part c.args.grid.now event c.args.tile.number in
    let past : length c.args.trace.now ≤ c.loop-index.index = omega (arith, c.loop-index-test.false, c.len-index-end.ensures) in
    sym (sym (ap (list_any part) (take_all c.loop-index.index c.args.trace.now past)) ∙ c.loop-index.invariant)
