-- Parameters become locals.
use Rattle.std.proofs.Common.{List, [], ◌∷◌, arith}
use Rattle.std.specs.List.{All}
use Rattle.lua_state.specs.Stacks.{top}
use Rattle.lua_state.proofs.Growing.{first_of_all}

pub all_top : {X : Type 0} (P : X → Type 0) (lists : List (List X)) → All (All P) lists → All P (top [] lists)
all_top P [] all = λ k d h. absurd (omega (arith, h))
all_top P (first ∷ more) all = first_of_all (All P) first more all
