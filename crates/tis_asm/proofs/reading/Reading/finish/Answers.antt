use Rattle.std.proofs.Common.{arith}
use Rattle.std.proofs.lemmas.Result.{err_from_is_err_and}
use Rattle.tis_asm.specs.ReadCode.{program_read}
use Rattle.tis_asm.specs.ReadingView.{labels_view, reading_view}
use Rattle.tis_asm.proofs.Steps.{jump_refused}
use Rattle.tis_asm.proofs.reading.Reading.finish.Goals as goal

pub returns-in_err-set_jump : goal.returns-in_err-set_jump
returns-in_err-set_jump c =
    let self = c.args.self.now in
    let p = err_from_is_err_and c.from_residual.result c.from_residual.ensures.1 in
    rw (p.1, p.2) (jump_refused (labels_view self.labels.entries) self.jumps.items c.deref-jump-items.result.now c.loop-jump.jump-index _ c.loop-jump.program (program_read (reading_view self)) c.in_err-set_jump.field-0.0 c.deref-jump-items.ensures.value (omega (arith, c.deref-jump-items.ensures.len, c.loop-jump-test.true)) c.loop-jump.invariant c.in_err-set_jump.ensures)
