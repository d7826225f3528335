-- What a local step leads to is a node of the program.
use Rattle.std.proofs.Common.{◌≡◌, Option, sym, ap, subst, ◌∙◌}
use Rattle.tis_asm.specs.declared.instr.Instr.{Instr}
use Rattle.tis_asm.specs.Node.{Node, FitsProgram, local_by_instr, local_step}
use Rattle.tis_asm.specs.PortRuns.{Local}
use Rattle.tis_asm.proofs.Progress.{steps_keep_fitting}
use Rattle.tis_node.specs.NodeView.{node_view}
use Rattle.tis_node.proofs.node.Node.local.Goals as goal

pub returns-in-Some-clause-fits : goal.returns-in-Some-clause-fits
returns-in-Some-clause-fits c =
    let program = c.args.program.now in
    let node = node_view c.args.self.now in
    let step : local_step program node ≡ node_view c.do_local.new.self = ap (λ (o : Option Instr). local_by_instr o program node) (sym c.in-Some.ensures.instr) ∙ sym c.do_local.ensures in
    subst (λ (n : Node). FitsProgram program n) step (steps_keep_fitting program node Local c.in-Some.ensures.values c.requires.sound c.requires.fits c.requires.can)
