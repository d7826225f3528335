use Rattle.std.proofs.Common.{List, length, ap, sym, subst, ◌∙◌}
use Rattle.std.proofs.lemmas.List.{length-set}
use Rattle.std.specs.Prelude.{slice_set}
use Rattle.tis_asm.specs.declared.instr.Instr.TheVariants.{Jump}
use Rattle.tis_asm.specs.declared.program.MarkedInstr.{MarkedInstr}
use Rattle.tis_asm.specs.Programs.{HasValues}
use Rattle.tis_asm.proofs.Values.{refill_same, values_with_jump}
use Rattle.tis_asm.proofs.program.Program.set_jump.Goals as goal

pub invariant_of-self : goal.invariant_of-self
invariant_of-self c =
    let items = c.self.inside.instrs.items in
    let now = c.deref_mut.result.now in
    let set = slice_set now c.args.place (record { instr = Jump c.args.jump c.args.number; mark = c.args.mark }) in
    subst HasValues (sym (refill_same items set (length-set now c.args.place _ ∙ ap (λ (l : List MarkedInstr). length l) c.deref_mut.ensures.value)))
    (values_with_jump now c.args.place c.args.jump c.args.number c.args.mark (subst HasValues (sym c.deref_mut.ensures.value) c.self.invariant))
