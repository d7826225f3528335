use Rattle.std.proofs.Common.{ℕ, List, [], ◌∷◌, ◌++◌, sym, ap, ◌∙◌}
use Rattle.tis_asm.specs.Code.{line_text}
use Rattle.tis_asm.proofs.Texts.{code_text-take}
use Rattle.tis_asm.proofs.text.print.Goals as goal

pub loop-index-preserved : goal.loop-index-preserved
loop-index-preserved c =
    c.in_ok-push.ensures.items
    ∙ ap (λ (text : List ℕ). text ++ 10 ∷ []) (c.in_ok-push_line.ensures ∙ ap (λ (text : List ℕ). text ++ line_text c.args.program.now c.loop-index.index c.marked_instr.result) c.loop-index.invariant)
    ∙ sym (code_text-take c.args.program.now c.loop-index.index c.marked_instr.result c.marked_instr.ensures)
