-- The steps of a node, counted.
use Rattle.std.proofs.Common.{[], ◌∷◌, refl, arith}
use Rattle.tis_base.specs.declared.tiles.Dir.TheVariants.{Left, Right, Up, Down}
use Rattle.tis_asm.specs.PortRuns.{Local, Took, Gave}
use Rattle.tis_asm.specs.Counting.{StepsAddUp}

-- each step is local, or takes a value, or gives one
pub steps_add_up : StepsAddUp
steps_add_up [] = refl
steps_add_up (Local ∷ steps) = omega (arith, steps_add_up steps)
steps_add_up (Took Left value ∷ steps) = omega (arith, steps_add_up steps)
steps_add_up (Took Right value ∷ steps) = omega (arith, steps_add_up steps)
steps_add_up (Took Up value ∷ steps) = omega (arith, steps_add_up steps)
steps_add_up (Took Down value ∷ steps) = omega (arith, steps_add_up steps)
steps_add_up (Gave Left value ∷ steps) = omega (arith, steps_add_up steps)
steps_add_up (Gave Right value ∷ steps) = omega (arith, steps_add_up steps)
steps_add_up (Gave Up value ∷ steps) = omega (arith, steps_add_up steps)
steps_add_up (Gave Down value ∷ steps) = omega (arith, steps_add_up steps)
