-- What a step leads to is a node of the program, and so is a node that stays.
use Rattle.std.proofs.Common.{◌≡◌, true, false, Option, refl, sym, ap, subst, ◌∙◌}
use Rattle.tis_asm.specs.declared.instr.Instr.{Instr}
use Rattle.tis_asm.specs.Node.{Node, Mode, Ready, FitsProgram, source_of, instr_at, is_local_with, can_local_in, can_local, local_by_instr, local_step}
use Rattle.tis_asm.specs.PortRuns.{Local}
use Rattle.tis_asm.proofs.Progress.{steps_keep_fitting}
use Rattle.tis_node.specs.NodeView.{node_view}
use Rattle.tis_node.proofs.LocalSteps.{stays_by}
use Rattle.tis_node.proofs.node.Node.advance_here.Goals as goal

pub returns-in-Some-clause-fits : goal.returns-in-Some-clause-fits
returns-in-Some-clause-fits c =
    let program = c.args.program.now in
    let node = node_view c.args.self.now in
    let source = source_of c.in-Some.instr in
    let ready : node.mode ≡ Ready = c.requires.ready in
    let local : can_local program node ≡ is_local_with source node =
    ap (λ (m : Mode). can_local_in m (instr_at program node.pc) node) ready ∙ ap (λ (o : Option Instr). can_local_in Ready o node) (sym c.in-Some.ensures.instr) in
    let step : local_step program node ≡ node_view c.advance_by.new.self = ap (λ (o : Option Instr). local_by_instr o program node) (sym c.in-Some.ensures.instr) ∙ sym c.advance_by.ensures.step in
    elim (is_local_with source node) as (λ b. is_local_with source node ≡ b → FitsProgram program (node_view c.advance_by.new.self)) [
      | true ↦ λ is. subst (λ (n : Node). FitsProgram program n) step (steps_keep_fitting program node Local c.in-Some.ensures.values c.requires.sound c.requires.fits (local ∙ is))
      | false ↦ λ is. subst (λ (n : Node). FitsProgram program n) (sym (c.advance_by.ensures.step ∙ stays_by source c.in-Some.instr program node is)) c.requires.fits
    ] refl
