use Rattle.std.proofs.Common.{◌≡◌, ℕ, ◌+◌, ◌*◌, ◌≤◌, cond, List, ◌++◌, ◌∷◌, length, Some, ◌∙◌, ap, sym, subst, le_antisymm}
use Rattle.std.specs.Prelude.{flat_map, slice_get, decimal}
use Rattle.std.specs.List.{range_with_len}
use Rattle.tis_base.specs.declared.tiles.Shape.{Shape}
use Rattle.tis_base.specs.Tiles.{Tiles, AreTiles, is_compute}
use Rattle.tis_save.specs.Writing.{block_text, tile_text, save_text}
use Rattle.tis_save.specs.Reading.{save_of}
use Rattle.tis_save.proofs.SavesReadBack.{saves_read_back}
use Rattle.tis_save.proofs.Blocks.{flat_map-range_more, block_of-next, written_block, at_most_one_more}
use Rattle.tis_save.proofs.write.write_save.Goals as goal

pub loop-number-preserved : goal.loop-number-preserved
loop-number-preserved c =
    let programs = c.args.programs.now in
    let tile = c.loop-number.number in
    let kind : slice_get programs.tiles.kinds tile ≡ Some c.kind.result = rw (← c.tiles-tiles.ensures.tiles) c.kind.ensures in
    record {
      written =
          c.in_ok-push_block.ensures
          ∙ ap (λ (text : List ℕ). text ++ block_text (64 ∷ decimal c.loop-number.block) c.of.result.now) c.loop-number.invariant.written
          ∙ ap (λ (text : List ℕ). flat_map (tile_text programs) (range_with_len 0 tile) ++ text) (written_block programs tile c.loop-number.block c.of.result.now c.of.ensures c.loop-number.invariant.block)
          ∙ sym (flat_map-range_more (tile_text programs) tile);
      block =
          c.block_after-block.ensures
          ∙ ap (λ (block : ℕ). block + cond (is_compute c.kind.result) 1 0) c.loop-number.invariant.block
          ∙ sym (block_of-next programs.tiles tile c.kind.result kind);
      small = at_most_one_more (is_compute c.kind.result) _ _ _ c.block_after-block.ensures c.loop-number.invariant.small;
    }

-- the loop has gone over all tiles
all : (tiles given : Tiles) (shape : Shape) (number : ℕ) → given ≡ tiles → shape ≡ given.shape → AreTiles given.shape given.kinds → number ≤ shape.columns * shape.rows → shape.columns * shape.rows ≤ number → number ≡ length tiles.kinds
all tiles given shape number given_is shape_is are low high =
    le_antisymm low high ∙ ap (λ (s : Shape). s.columns * s.rows) shape_is ∙ sym are.filled ∙ ap (λ (t : Tiles). length t.kinds) given_is

pub returns-clause-reads_back : goal.returns-clause-reads_back
returns-clause-reads_back c sound =
    let programs = c.args.programs.now in
    let number_is = all programs.tiles c.tiles-tiles.result c.shape-shape.result c.loop-number.number c.tiles-tiles.ensures.tiles c.shape-shape.ensures.shape c.shape-shape.ensures.tiles c.loop-number.auto.number-end c.loop-number-test.false in
    let written : c.loop-number.out.items ≡ save_text programs = c.loop-number.invariant.written ∙ ap (λ (n : ℕ). flat_map (tile_text programs) (range_with_len 0 n)) number_is in
    ap (λ (text : List ℕ). save_of text programs.tiles) written
    ∙ saves_read_back programs (subst (λ (t : Tiles). AreTiles t.shape t.kinds) c.tiles-tiles.ensures.tiles c.shape-shape.ensures.tiles) c.tiles-tiles.ensures.programs sound
