-- Steps of one node, and the node that they lead to.
use Rattle.std.proofs.Common.{◌≡◌, List, [], ◌∷◌, ◌++◌, refl, sym, subst}
use Rattle.tis_asm.specs.declared.program.MarkedInstr.{MarkedInstr}
use Rattle.tis_asm.specs.Programs.{HasValues, IsSound}
use Rattle.tis_asm.specs.Node.{Node, FitsProgram}
use Rattle.tis_asm.specs.PortRuns.{Step, IsStep, after_step, IsPortRun, after_steps}
use Rattle.tis_asm.proofs.Progress.{steps_keep_fitting}

-- the node can make these steps, and they lead to that node
pub record Does (program : List MarkedInstr) (node : Node) (steps : List Step) (after : Node) : Type 0 where
  pub run : IsPortRun program node steps
  pub leads : after_steps program node steps ≡ after

-- no step leads nowhere else
pub does_nothing : (program : List MarkedInstr) (node : Node) → Does program node [] node
does_nothing program node = record { run = tt; leads = refl }

-- one step that the node can make
pub does_one : (program : List MarkedInstr) (node : Node) (step : Step) → IsStep program node step → Does program node (step ∷ []) (after_step program node step)
does_one program node step is = record { run = (is, tt); leads = refl }

-- steps, and then more steps
pub does_then : (program : List MarkedInstr) (node : Node) (steps more : List Step) (middle after : Node) → Does program node steps middle → Does program middle more after → Does program node (steps ++ more) after
does_then program node [] more middle after first second = subst (λ from. Does program from more after) (sym first.leads) second
does_then program node (step ∷ steps) more middle after first second =
    let rest = does_then program (after_step program node step) steps more middle after (record { run = first.run.1; leads = first.leads }) second in
    record { run = (first.run.0, rest.run); leads = rest.leads }

-- ---- a node of its program stays one

-- after each of several steps the node is still one of its program
steps_fit : (program : List MarkedInstr) (node : Node) (steps : List Step) → HasValues program → IsSound program → FitsProgram program node → IsPortRun program node steps → FitsProgram program (after_steps program node steps)
steps_fit program node [] are sound fits run = fits
steps_fit program node (step ∷ steps) are sound fits run = steps_fit program (after_step program node step) steps are sound (steps_keep_fitting program node step are sound fits run.0) run.1

-- the node that steps lead to is one of the program
pub does_fit : (program : List MarkedInstr) (node : Node) (steps : List Step) (after : Node) → HasValues program → IsSound program → FitsProgram program node → Does program node steps after → FitsProgram program after
does_fit program node steps after are sound fits does = subst (λ end. FitsProgram program end) does.leads (steps_fit program node steps are sound fits does.run)
