use Rattle.std.proofs.Common.{◌≡◌, take, true}
use Rattle.std.specs.List.{list_all}
use Rattle.tis_grid.specs.Puzzle.{is_colour}
use Rattle.tis_grid.proofs.puzzle.all_shown.Given as goal

abbrev pub invariant-loop-index : goal.invariant-loop-index
invariant-loop-index l = list_all is_colour (take l.index l.values.items) ≡ true
