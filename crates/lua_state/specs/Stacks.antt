-- Stacks, as lists whose first element is the top.
use Rattle.std.specs.Prelude.{List, [], ◌∷◌}

-- the top, or what is given where the stack is empty
abbrev pub top : {T : Type 0} → T → List T → T
top otherwise [] = otherwise
top otherwise (item ∷ items) = item

-- what is below the top
abbrev pub below : {T : Type 0} → List T → List T
below [] = []
below (item ∷ items) = items
