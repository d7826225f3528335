use Rattle.std.proofs.Common.{take}
use Rattle.std.specs.Prelude.{All}
use Rattle.tis_base.specs.Saturation.{IsValue}
use Rattle.tis_grid.proofs.grid.are_values.Given as goal

abbrev pub invariant-loop-input : goal.invariant-loop-input
invariant-loop-input l = All (λ input. All IsValue input.values.items) (take l.input-index l.inputs)
