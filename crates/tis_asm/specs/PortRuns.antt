-- What one node does by itself, seen from its ports.
use Rattle.std.specs.Prelude.{◌≡◌, ℕ, ◌+◌, ℤ, List, [], ◌∷◌, ◌++◌, Some, IsTrue, if◌then◌else◌}
use Rattle.tis_base.specs.Saturation.{IsValue}
use Rattle.tis_base.specs.declared.tiles.Dir.{Dir}
use Rattle.tis_asm.specs.declared.program.MarkedInstr.{MarkedInstr}
use Rattle.tis_asm.specs.Node.{Node, is_same_dir, can_local, local_step, wants, take_value, offers, gave}

-- one step of a node: a local one, or a value that it took from a port or gave to one
pub data Step : Type 0 where
  Local : Step
  Took : (dir : Dir) → (value : ℤ) → Step
  Gave : (dir : Dir) → (value : ℤ) → Step

-- the node can make this step; what it takes is a value of the machine
abbrev pub IsStep : List MarkedInstr → Node → Step → Type 0
IsStep program node Local = IsTrue (can_local program node)
IsStep program node (Took dir value) = IsTrue (wants program node dir) × IsValue value
IsStep program node (Gave dir value) = offers node dir ≡ Some value

-- the node after this step
abbrev pub after_step : List MarkedInstr → Node → Step → Node
after_step program node Local = local_step program node
after_step program node (Took dir value) = take_value program node dir value
after_step program node (Gave dir value) = gave program node dir

-- the node after these steps, one after the other
abbrev pub after_steps : List MarkedInstr → Node → List Step → Node
after_steps program node [] = node
after_steps program node (step ∷ steps) = after_steps program (after_step program node step) steps

-- the node can make each of these steps in its turn
abbrev pub IsPortRun : List MarkedInstr → Node → List Step → Type 0
IsPortRun program node [] = Unit {0}
IsPortRun program node (step ∷ steps) = IsStep program node step × IsPortRun program (after_step program node step) steps

-- the value of a step that took one from this port
abbrev pub taken_by : Dir → Step → List ℤ
taken_by dir Local = []
taken_by dir (Took port value) = if is_same_dir port dir then value ∷ [] else []
taken_by dir (Gave port value) = []

-- the value of a step that gave one to this port
abbrev pub given_by : Dir → Step → List ℤ
given_by dir Local = []
given_by dir (Took port value) = []
given_by dir (Gave port value) = if is_same_dir port dir then value ∷ [] else []

-- the values that these steps took from a port, first to last
abbrev pub taken_from : Dir → List Step → List ℤ
taken_from dir [] = []
taken_from dir (step ∷ steps) = taken_by dir step ++ taken_from dir steps

-- the values that these steps gave to a port, first to last
abbrev pub given_to : Dir → List Step → List ℤ
given_to dir [] = []
given_to dir (step ∷ steps) = given_by dir step ++ given_to dir steps

abbrev pub local_by : Step → ℕ
local_by Local = 1
local_by (Took dir value) = 0
local_by (Gave dir value) = 0

-- how many of these steps are local
abbrev pub local_count : List Step → ℕ
local_count [] = 0
local_count (step ∷ steps) = local_by step + local_count steps
