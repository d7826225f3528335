use Rattle.std.proofs.Common.{◌≡◌, List, take, length, ap, arith}
use Rattle.std.specs.Prelude.{min}
use Rattle.std.proofs.lemmas.Result.{err_from_is_err_and}
use Rattle.tis_asm.specs.declared.source_line.SourceLine.{SourceLine as HeldSource}
use Rattle.tis_asm.specs.Gathering.{assembled_with}
use Rattle.tis_asm.proofs.Wholes.{too_many, lines_refused, lines_assembled}
use Rattle.tis_asm.proofs.assembler.Assembler.finish.Goals as goal

pub returns-then-self-gt-MOST : goal.returns-then-self-gt-MOST
unfolding assembled_with
returns-then-self-gt-MOST c = record { answer = too_many _ _ c.if-self-gt-MOST.true }

pub returns-in_err-reading : goal.returns-in_err-reading
unfolding assembled_with
returns-in_err-reading c =
    let p = err_from_is_err_and c.from_residual.result c.from_residual.ensures.1 in
    let count = c.args.self.now.count in
    let items = c.args.self.now.sources.items in
    let n_is : c.min.result ≡ min count (length items) = omega arith in
    rw (p.1, p.2) (record { answer = lines_refused count c.min.result items (take c.min.result c.deref.result.now) c.in_err-reading.field-0.0 (omega arith) n_is (ap (λ (l : List HeldSource). take c.min.result l) c.deref.ensures.value) c.in_err-reading.ensures })

pub returns : goal.returns
unfolding assembled_with
returns c =
    let count = c.args.self.now.count in
    let items = c.args.self.now.sources.items in
    let n_is : c.min.result ≡ min count (length items) = omega arith in
    record { answer = lines_assembled count c.min.result items (take c.min.result c.deref.result.now) _ c.finish.result (omega arith) n_is (ap (λ (l : List HeldSource). take c.min.result l) c.deref.ensures.value) c.in_ok-reading.ensures c.finish.ensures }
