use Rattle.std.proofs.Common.{true, false, ap, sym, ◌∙◌}
use Rattle.tis_asm.specs.Gathering.{Gathered, assembled_with, gathered, program_behind}
use Rattle.tis_asm.proofs.Sources.{line_gathered, err_kept}
use Rattle.tis_asm.proofs.assembler.Assembler.push.Goals as goal

pub returns-in_err-keep-clause-unchanged : goal.returns-in_err-keep-clause-unchanged
unfolding assembled_with
returns-in_err-keep-clause-unchanged c = err_kept c.from_residual.result (λ lines. ap (λ (g : Gathered). program_behind g lines) c.in_err-keep.ensures.unchanged)

pub returns-then-not-is_blank_line-clause-taken : goal.returns-then-not-is_blank_line-clause-taken
unfolding assembled_with
returns-then-not-is_blank_line-clause-taken c lines = ap (λ (g : Gathered). program_behind g lines) (line_gathered (gathered c.args.self.now) (gathered c.keep.new.self) c.args.line.now false c.min.result c.in_ok-keep.ensures.kept (sym c.if-not-is_blank_line.true ∙ c.is_blank_line.ensures) c.min.ensures)

pub returns-else-not-is_blank_line-clause-taken : goal.returns-else-not-is_blank_line-clause-taken
unfolding assembled_with
returns-else-not-is_blank_line-clause-taken c lines = ap (λ (g : Gathered). program_behind g lines) (line_gathered (gathered c.args.self.now) (gathered c.keep.new.self) c.args.line.now true c.min.result c.in_ok-keep.ensures.kept (sym c.if-not-is_blank_line.false ∙ c.is_blank_line.ensures) c.min.ensures)
