use Rattle.std.proofs.Common.{ℕ, List, ap, subst, sym, ◌∙◌}
use Rattle.std.specs.Prelude.{Result}
use Rattle.tis_base.specs.Lines.{text_lines}
use Rattle.tis_asm.specs.declared.program.MarkedInstr.{MarkedInstr}
use Rattle.tis_asm.specs.Assembling.{AsmRefusal}
use Rattle.tis_asm.specs.Gathering.{assembled_with}
use Rattle.tis_asm.specs.Held.{Answers}
use Rattle.tis_asm.proofs.Wholes.{answer_sound}
use Rattle.tis_asm.proofs.assembler.assemble.Goals as goal

pub returns-clause-answer : goal.returns-clause-answer
returns-clause-answer c =
    subst (λ (r : Result (List MarkedInstr) AsmRefusal). Answers (λ p. p) c.finish.result r)
    (ap (λ (lines : List (List ℕ)). assembled_with c.loop-line.assembler lines) (sym c.in-None.ensures.steps.0) ∙ c.loop-line.invariant.2)
    c.finish.ensures.answer

pub returns-clause-sound : goal.returns-clause-sound
returns-clause-sound c = answer_sound (text_lines c.args.text.now) c.finish.result (returns-clause-answer c)
