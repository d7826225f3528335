-- What a node of a program comes to: it stays one, and it is never stuck by itself.
use Rattle.std.specs.Prelude.{◌≡◌, ◌<◌, ℤ, List, length, Some, IsTrue}
use Rattle.tis_base.specs.declared.tiles.Dir.{Dir}
use Rattle.tis_asm.specs.declared.program.MarkedInstr.{MarkedInstr}
use Rattle.tis_asm.specs.Programs.{HasValues, IsSound}
use Rattle.tis_asm.specs.Node.{Node, FitsProgram, fresh, can_local, wants, offers}
use Rattle.tis_asm.specs.PortRuns.{Step, IsStep, after_step}

-- what a node can do next: a local step, or take a value from a port, or give one to a port
pub data CanGoOn (program : List MarkedInstr) (node : Node) : Type 0 where
  ByItself : IsTrue (can_local program node) → CanGoOn program node
  Wanting : (dir : Dir) → IsTrue (wants program node dir) → CanGoOn program node
  Offering : (dir : Dir) → (value : ℤ) → offers node dir ≡ Some value → CanGoOn program node

-- a node of a program with an instruction can always do a local step, wants a port, or offers a value to one
abbrev pub NodesGoOn : Type 0
NodesGoOn = (program : List MarkedInstr) (node : Node) → 0 < length program → FitsProgram program node → CanGoOn program node

-- a fresh node is one of each program
abbrev pub FreshFits : Type 0
FreshFits = (program : List MarkedInstr) → FitsProgram program fresh

-- a step leads from a node of a program to one of it, where each jump goes to an instruction of the program
abbrev pub StepsKeepFitting : Type 0
StepsKeepFitting = (program : List MarkedInstr) (node : Node) (step : Step) → HasValues program → IsSound program → FitsProgram program node → IsStep program node step → FitsProgram program (after_step program node step)
