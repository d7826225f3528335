-- Each tile has the marks of its program.
use Rattle.std.proofs.Common.{◌≡◌, ◌≢◌, ◌<◌, [], length, map, sym, ap, ◌∙◌, arith, below_more, get_or-set_same, get_or-set_other}
use Rattle.std.proofs.lemmas.List.{same_lists, get_or_default, get_or-map, length-map, length-set}
use Rattle.std.proofs.lemmas.Option.{get_or_from_slice_get}
use Rattle.tis_debug.specs.Sessions.{marks_in}
use Rattle.tis_debug.proofs.marks.first_marks.Goals as goal

pub loop-tile-preserved : goal.loop-tile-preserved
loop-tile-preserved c =
    let marks = c.loop-tile.marks in
    let tile = c.loop-tile.tile in
    let programs = c.args.programs.now.programs in (
      length-set marks tile c.marks_of.result ∙ c.loop-tile.invariant.0,
      below_more _ _
          (λ k less. let elsewhere : k ≢ tile = omega (arith, less) in get_or-set_other marks tile k c.marks_of.result [] elsewhere ∙ c.loop-tile.invariant.1 k less)
          (get_or-set_same marks tile c.marks_of.result [] (omega (arith, c.loop-tile.invariant.0, c.loop-tile-test.true))
          ∙ c.marks_of.ensures ∙ ap marks_in (sym (get_or_from_slice_get programs tile c.of.result.now [] c.of.ensures))),
    )

pub returns : goal.returns
returns c =
    let marks = c.loop-tile.marks in
    let programs = c.args.programs.now.programs in
    let tiles = ap (λ (t : _). length t.kinds) c.tiles.ensures.tiles in
    let all : length programs ≡ 12 = c.tiles.ensures.programs.one_each ∙ sym tiles ∙ c.shape.ensures.tiles.filled ∙ omega (arith, c.shape.ensures.tiles.allowed.0, c.shape.ensures.tiles.allowed.1) in
    same_lists marks (map marks_in programs) (c.loop-tile.invariant.0 ∙ sym all ∙ sym (length-map programs marks_in))
    (λ k d within.
    let inside : k < length programs = omega (arith, within, all, c.loop-tile.invariant.0) in
    let past : k < c.loop-tile.tile = omega (arith, within, c.loop-tile.invariant.0, c.loop-tile-test.false) in
    get_or_default marks k d [] within ∙ c.loop-tile.invariant.1 k past ∙ sym (get_or-map marks_in programs k [] d inside))
