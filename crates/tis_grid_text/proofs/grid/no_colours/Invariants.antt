use Rattle.std.proofs.Common.{◌≡◌, replicate, pos}
use Rattle.tis_grid_text.proofs.grid.no_colours.Given as goal

abbrev pub invariant-loop-point : goal.invariant-loop-point
invariant-loop-point l = l.values.items ≡ replicate l._point (pos 0)
