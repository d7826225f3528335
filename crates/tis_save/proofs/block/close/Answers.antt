use Rattle.std.proofs.Common.{[]}
use Rattle.tis_asm.specs.Gathering.{assembled_with}
use Rattle.tis_save.specs.Blocks.{blocks_view}
use Rattle.tis_save.proofs.ReadBlocks.{close_refused}
use Rattle.tis_save.proofs.block.close.Goals as goal

pub returns-in-Err : goal.returns-in-Err
returns-in-Err c =
    rw (c.block_error.ensures, c.in-Some.is) (close_refused (blocks_view c.args.blocks.now.items) c.in-Some.number c.in-Err.error (assembled_with c.args.code.now []) c.in-Err.ensures.answer)
