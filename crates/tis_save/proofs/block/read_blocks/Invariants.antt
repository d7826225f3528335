-- What was read, the block that has begun, and what is left are the blocks of all lines.
use Rattle.std.proofs.Common.{◌≡◌}
use Rattle.std.specs.List.{take_while}
use Rattle.tis_base.specs.Lines.{text_lines}
use Rattle.tis_asm.specs.Gathering.{assembled_with}
use Rattle.tis_save.specs.Reading.{is_code, block_programs, blocks_of}
use Rattle.tis_save.specs.Heads.{HaveSmallHeads}
use Rattle.tis_save.specs.Blocks.{blocks_view}
use Rattle.tis_save.proofs.ReadBlocks.{blocks_read}
use Rattle.tis_save.proofs.block.read_blocks.Given as goal

abbrev pub invariant-loop-line : goal.invariant-loop-line
invariant-loop-line l = (goal.iterator-loop-line).can_next l.line-iterator × (goal.iterator-loop-line).is_finite l.line-iterator × HaveSmallHeads l.line-iterator × (blocks_read (blocks_view l.blocks.items) l.begun (assembled_with l.code (take_while is_code l.line-iterator)) l.line-iterator ≡ block_programs (blocks_of (text_lines l.text)))
