-- What a value leads to is a node of the program.
use Rattle.std.proofs.Common.{◌≡◌, Option, sym, ap, subst, ◌∙◌}
use Rattle.tis_asm.specs.declared.instr.Instr.{Instr}
use Rattle.tis_asm.specs.Node.{Node, FitsProgram, take_by_instr, take_value}
use Rattle.tis_asm.specs.PortRuns.{Took}
use Rattle.tis_asm.proofs.Progress.{steps_keep_fitting}
use Rattle.tis_node.specs.NodeView.{node_view}
use Rattle.tis_node.proofs.node.Node.take.Goals as goal

pub returns-in-Some-clause-fits : goal.returns-in-Some-clause-fits
returns-in-Some-clause-fits c =
    let program = c.args.program.now in
    let node = node_view c.args.self.now in
    let step : take_value program node c.args.dir c.args.value ≡ node_view c.take_by.new.self = ap (λ (o : Option Instr). take_by_instr o program node c.args.dir c.args.value) (sym c.in-Some.ensures.instr) ∙ sym c.take_by.ensures in
    subst (λ (n : Node). FitsProgram program n) step (steps_keep_fitting program node (Took c.args.dir c.args.value) c.in-Some.ensures.values c.requires.sound c.requires.fits (c.requires.wants, c.get.ensures.held))
