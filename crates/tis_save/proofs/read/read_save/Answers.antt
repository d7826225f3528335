use Rattle.std.proofs.Common.{Ok, List, map, length, ap, ◌∙◌}
use Rattle.std.proofs.lemmas.Result.{err_from_is_err_and}
use Rattle.tis_base.specs.Lines.{text_lines}
use Rattle.tis_asm.specs.Programs.{Programs}
use Rattle.tis_save.specs.declared.block.ReadBlock.{ReadBlock}
use Rattle.std.specs.List.{range_with_len}
use Rattle.tis_save.specs.Reading.{program_on}
use Rattle.tis_save.specs.Blocks.{blocks_view}
use Rattle.tis_save.proofs.HeadLines.{right_are_small}
use Rattle.tis_save.proofs.Answering.{lines_refused, blocks_refused, blocks_placed}
use Rattle.tis_save.proofs.Sound.{saves_are_sound}
use Rattle.tis_save.proofs.read.read_save.Goals as goal

pub returns-in_err-check_lines-clause-answer : goal.returns-in_err-check_lines-clause-answer
returns-in_err-check_lines-clause-answer c =
    let p = err_from_is_err_and c.from_residual.result c.from_residual.ensures.1 in
    rw (p.1, p.2) (lines_refused c.in_err-check_lines.field-0.0 c.args.text.now c.args.tiles c.block_count.result c.block_count.ensures.count c.in_err-check_lines.ensures)

pub read_blocks-requires : goal.read_blocks-requires
read_blocks-requires c = right_are_small c.block_count.result 1 _ (text_lines c.args.text.now) c.block_count.ensures.few c.in_ok-check_lines.ensures

pub returns-in_err-blocks-clause-answer : goal.returns-in_err-blocks-clause-answer
returns-in_err-blocks-clause-answer c =
    let p = err_from_is_err_and c.from_residual-in_err-blocks.result c.from_residual-in_err-blocks.ensures.1 in
    rw (p.1, p.2) (blocks_refused c.in_err-blocks.field-0.0 c.args.text.now c.args.tiles c.block_count.result c.block_count.ensures.count c.in_ok-check_lines.ensures c.in_err-blocks.ensures)

pub returns-clause-answer : goal.returns-clause-answer
returns-clause-answer c = blocks_placed c.args.text.now c.args.tiles c.block_count.result (blocks_view c.in_ok-blocks.blocks.items) c.in_ok-placed.field-0 c.block_count.ensures.count c.in_ok-check_lines.ensures c.in_ok-blocks.ensures (ap (λ (p : Programs). Ok p) (c.in_ok-placed.ensures ∙ ap (λ (l : List ReadBlock). record { tiles = c.args.tiles; programs = map (program_on c.args.tiles (blocks_view l)) (range_with_len 0 (length c.args.tiles.kinds)) }) c.deref.ensures.value))

pub returns-clause-sound : goal.returns-clause-sound
returns-clause-sound c = saves_are_sound c.args.text.now c.args.tiles c.in_ok-placed.field-0 (returns-clause-answer c)
