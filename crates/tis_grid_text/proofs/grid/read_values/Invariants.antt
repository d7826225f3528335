use Rattle.std.proofs.Common.{◌≡◌, ◌++◌, option_map, length}
use Rattle.tis_grid_text.specs.GridText.{values_of}
use Rattle.tis_grid_text.proofs.grid.read_values.Given as goal

abbrev pub invariant-words : goal.invariant-words
invariant-words l = option_map (λ more. l.values.items ++ more) (values_of l.words) ≡ values_of l.fn.words

abbrev pub decreases-words : goal.decreases-words
decreases-words l = length l.words
