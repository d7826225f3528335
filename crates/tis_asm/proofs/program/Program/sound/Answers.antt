use Rattle.std.proofs.Common.{add-one}
use Rattle.tis_asm.proofs.Values.{jump_within_more, ends_outside, stays_inside}
use Rattle.tis_asm.proofs.program.Program.sound.Goals as goal

pub returns-then-not-jumps_within : goal.returns-then-not-jumps_within
returns-then-not-jumps_within c =
    ends_outside c.jumps_within.result c.len-count.result c.args.self.now c.loop-index.index c.marked_instr-marked.result c.if-not-jumps_within.true c.len-count.ensures.len c.marked_instr-marked.ensures c.jumps_within.ensures

pub loop-index-preserved : goal.loop-index-preserved
loop-index-preserved c =
    let inside = stays_inside c.jumps_within.result c.len-count.result c.args.self.now c.marked_instr-marked.result c.if-not-jumps_within.false c.len-count.ensures.len c.jumps_within.ensures in
    rw add-one (jump_within_more _ c.args.self.now c.loop-index.index c.marked_instr-marked.result c.marked_instr-marked.ensures c.loop-index.invariant inside)
