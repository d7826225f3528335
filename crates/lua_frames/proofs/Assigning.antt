-- The assignments of a chunk, one after the other.
use Rattle.std.proofs.Common.{◌≡◌, ℕ, List, [], ◌∷◌, refl, Option, Some, None}
use Rattle.lua_machine.specs.Tree as t
use Rattle.lua_machine.specs.Tree.{ItemNode}
use Rattle.lua_machine.specs.Functions.{Function}
use Rattle.lua_machine.specs.State.{State, entered}
use Rattle.lua_machine.specs.Machine.{Turned, Next, Execute, Items}
use Rattle.lua_machine.specs.Turn.{assigning, running}
use Rattle.lua_frames.specs.Assignments.{Assigned, first_assignment}

-- the first assignment, or the function where there is none
abbrev pub assigning_first : Function → Option Assigned → State → ℕ → Turned
assigning_first main None state cost = running main.body [] 1 (entered main.params [] state) cost
assigning_first main (Some a) state cost = Next (record { control = Execute (t.Assign a.called a.of); frames = Items a.others ∷ []; calls = 0; state = state; cost = cost })

pub first_comes : (main : Function) (items : List ItemNode) (state : State) (cost : ℕ) → assigning_first main (first_assignment items) state cost ≡ assigning main items state cost
first_comes main [] state cost = refl
first_comes main (t.Function called params body ∷ more) state cost = first_comes main more state cost
first_comes main (t.Set called of ∷ more) state cost = refl
