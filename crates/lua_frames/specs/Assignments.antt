-- The assignments of a chunk.
use Rattle.std.specs.Prelude.{ℕ, List, [], ◌∷◌, Option, Some, None}
use Rattle.lua_machine.specs.Tree as t
use Rattle.lua_machine.specs.Tree.{Node, node_of, ItemNode, items_of}
use Rattle.lua_frames.specs.declared.items.Assignment.{Assignment}

-- an assignment, and the items behind it
pub record Assigned : Type 0 where
  pub called : List ℕ
  pub of : Node
  pub others : List ItemNode

abbrev pub assignment_in : Assignment → Assigned
assignment_in a = record { called = a.name.now; of = node_of a.value.now; others = items_of a.others.now }

-- the first one among items
abbrev pub first_assignment : List ItemNode → Option Assigned
first_assignment [] = None
first_assignment (t.Function called params body ∷ more) = first_assignment more
first_assignment (t.Set called of ∷ more) = Some (record { called = called; of = of; others = more })
