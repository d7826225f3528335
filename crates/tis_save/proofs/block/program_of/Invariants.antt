use Rattle.std.proofs.Common.{◌≡◌, drop}
use Rattle.tis_save.specs.Reading.{program_in}
use Rattle.tis_save.specs.Blocks.{blocks_view}
use Rattle.tis_save.proofs.block.program_of.Given as goal

abbrev pub invariant-loop-block : goal.invariant-loop-block
invariant-loop-block l = program_in (blocks_view (drop l.block-index l.blocks)) l.number ≡ program_in (blocks_view l.blocks) l.number
