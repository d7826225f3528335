use Rattle.std.proofs.Common.{◌≡◌, ℕ, ◌+◌, ◌*◌, ◌<◌, ◌≤◌, cond, List, length, sym, ap, subst, ◌∙◌, arith}
use Rattle.std.proofs.lemmas.Option.{slice_get_within}
use Rattle.tis_base.specs.declared.tiles.Shape.{Shape}
use Rattle.tis_base.specs.Tiles.{Tiles, is_compute}
use Rattle.tis_asm.specs.declared.program.MarkedInstr.{MarkedInstr}
use Rattle.tis_asm.specs.Programs.{Programs}
use Rattle.tis_save.specs.Reading.{program_in}
use Rattle.tis_save.specs.Blocks.{blocks_view}
use Rattle.tis_save.proofs.Blocks.{block_of-next, at_most_one_more}
use Rattle.tis_save.proofs.Placed.{ArePlaced, with_block_at, length-with_block_at, placed_more, placed_all}
use Rattle.tis_save.proofs.block.placed.Goals as goal

pub loop-number-preserved : goal.loop-number-preserved
loop-number-preserved c =
    let tiles = c.args.tiles in
    let number = c.loop-number.number in
    let blocks = blocks_view c.args.blocks.now in
    let old = c.loop-number.programs in
    let program = program_in blocks c.loop-number.block in
    let here : c.place_block.new.programs.programs ≡ with_block_at tiles number program old.programs =
    ap (λ (p : Programs). p.programs) c.place_block.ensures ∙ ap (λ (t : _). with_block_at t number program old.programs) c.loop-number.invariant.tiles in
    let inside : number < length old.programs = omega (arith, slice_get_within tiles.kinds number c.kind.result c.kind.ensures, c.loop-number.invariant.one_each) in
    record {
      tiles = ap (λ (p : Programs). p.tiles) c.place_block.ensures ∙ c.loop-number.invariant.tiles;
      one_each = ap (λ (l : List (List MarkedInstr)). length l) here ∙ length-with_block_at tiles number program old.programs ∙ c.loop-number.invariant.one_each;
      placed = subst (λ (l : List (List MarkedInstr)). ArePlaced tiles blocks (number + 1) l) (sym here) (placed_more tiles blocks number c.loop-number.block old.programs inside c.loop-number.invariant.block c.loop-number.invariant.placed);
      block = c.block_after-block.ensures ∙ ap (λ (block : ℕ). block + cond (is_compute c.kind.result) 1 0) c.loop-number.invariant.block ∙ sym (block_of-next tiles number c.kind.result c.kind.ensures);
      small = at_most_one_more (is_compute c.kind.result) _ _ _ c.block_after-block.ensures c.loop-number.invariant.small;
    }

-- all tiles are behind us
all : (tiles : Tiles) (shape : Shape) (number : ℕ) → shape ≡ tiles.shape → length tiles.kinds ≡ tiles.shape.columns * tiles.shape.rows → shape.columns * shape.rows ≤ number → length tiles.kinds ≤ number
all tiles shape number same filled past = subst (λ (s : Shape). s.columns * s.rows ≤ number → length tiles.kinds ≤ number) (sym same) (λ le. omega (arith, filled, le)) past

pub returns : goal.returns
returns c = placed_all c.args.tiles (blocks_view c.args.blocks.now) c.loop-number.number c.loop-number.programs c.loop-number.invariant.tiles c.loop-number.invariant.one_each (all c.args.tiles c.shape-shape.result c.loop-number.number c.shape-shape.ensures.shape c.shape-shape.ensures.tiles.filled c.loop-number-test.false) c.loop-number.invariant.placed
