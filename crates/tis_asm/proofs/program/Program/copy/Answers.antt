use Rattle.tis_asm.proofs.Values.{copied_more}
use Rattle.tis_asm.proofs.program.Program.copy.Goals as goal

pub loop-index-preserved : goal.loop-index-preserved
loop-index-preserved c =
    copied_more c.push.result c.args.self.now c.loop-index.copy c.push.new.self c.loop-index.index c.marked_instr-marked.result c.marked_instr-marked.ensures c.len-index-end.ensures.short c.loop-index.invariant c.push.ensures.full c.push.ensures.pushed
