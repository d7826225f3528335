-- How many steps there are.
use Rattle.std.specs.Prelude.{◌≡◌, ℕ, ◌+◌, List, length}
use Rattle.tis_base.specs.declared.tiles.Dir.TheVariants.{Left, Right, Up, Down}
use Rattle.tis_asm.specs.PortRuns.{Step, taken_from, given_to, local_count}

-- how many values these steps took
abbrev pub taken_count : List Step → ℕ
taken_count steps = length (taken_from Left steps) + length (taken_from Right steps) + length (taken_from Up steps) + length (taken_from Down steps)

-- how many values these steps gave
abbrev pub given_count : List Step → ℕ
given_count steps = length (given_to Left steps) + length (given_to Right steps) + length (given_to Up steps) + length (given_to Down steps)

-- each step is local, or takes a value, or gives one
abbrev pub StepsAddUp : Type 0
StepsAddUp = (steps : List Step) → length steps ≡ local_count steps + taken_count steps + given_count steps
