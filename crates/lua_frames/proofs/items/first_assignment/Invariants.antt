use Rattle.std.proofs.Common.{◌≡◌, length}
use Rattle.lua_machine.specs.Tree.{items_of}
use Rattle.lua_frames.specs.Assignments.{first_assignment}
use Rattle.lua_frames.proofs.items.first_assignment.Given as goal

abbrev pub invariant-loop-item : goal.invariant-loop-item
invariant-loop-item l = first_assignment (items_of l.left) ≡ first_assignment (items_of l.fn.items)

abbrev pub decreases-loop-item : goal.decreases-loop-item
decreases-loop-item l = length l.left
