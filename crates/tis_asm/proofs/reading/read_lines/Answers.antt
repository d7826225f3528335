use Rattle.std.proofs.Common.{map}
use Rattle.std.specs.Prelude.{Ok}
use Rattle.std.proofs.lemmas.Result.{err_from_is_err_and}
use Rattle.tis_asm.specs.LineView.{source_view}
use Rattle.tis_asm.specs.ReadCode.{nothing_read, code_read}
use Rattle.tis_asm.specs.ReadingView.{reading_view}
use Rattle.tis_asm.proofs.Steps.{line_refused}
use Rattle.tis_asm.proofs.reading.read_lines.Goals as goal

pub returns-in_err-add : goal.returns-in_err-add
returns-in_err-add c =
    let p = err_from_is_err_and c.from_residual.result c.from_residual.ensures.1 in
    rw (p.1, p.2) (line_refused c.args.sources.now c.loop-index.index c.index-sources-index.result (reading_view c.loop-index.reading) (code_read 1 (Ok nothing_read) (map source_view c.args.sources.now)) c.in_err-add.field-0.0 c.loop-index-test.true c.index-sources-index.is c.loop-index.invariant.same c.in_err-add.ensures.line)
