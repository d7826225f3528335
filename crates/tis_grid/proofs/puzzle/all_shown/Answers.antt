use Rattle.std.proofs.Common.{◌<◌, length, arith, sym, ap, ◌∙◌, pos}
use Rattle.std.proofs.lemmas.Bool.{and_from}
use Rattle.std.proofs.lemmas.List.Folds.{list_all_at, list_all_more}
use Rattle.std.proofs.lemmas.Option.{get_or_from_slice_get}
use Rattle.tis_grid.specs.Puzzle.{is_colour}
use Rattle.tis_grid.proofs.puzzle.all_shown.Goals as goal

pub returns-then-not-is_shown : goal.returns-then-not-is_shown
returns-then-not-is_shown c =
    let here = get_or_from_slice_get c.args.values.now.items c.loop-index.index c.at.result (pos 0) c.at.ensures.value in
    let within : c.loop-index.index < length c.args.values.now.items = omega (arith, c.len-index-end.ensures.len) in
    sym (list_all_at is_colour c.args.values.now.items c.loop-index.index (pos 0) within (ap is_colour here ∙ sym c.is_shown.ensures ∙ c.if-not-is_shown.true))

pub loop-index-preserved : goal.loop-index-preserved
loop-index-preserved c =
    let here = get_or_from_slice_get c.args.values.now.items c.loop-index.index c.at.result (pos 0) c.at.ensures.value in
    let within : c.loop-index.index < length c.args.values.now.items = omega (arith, c.len-index-end.ensures.len) in
    list_all_more is_colour c.args.values.now.items c.loop-index.index (pos 0) within
    ∙ and_from _ _ c.loop-index.invariant (ap is_colour here ∙ sym c.is_shown.ensures ∙ c.if-not-is_shown.false)
