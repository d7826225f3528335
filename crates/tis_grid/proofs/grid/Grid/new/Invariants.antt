use Rattle.std.proofs.Common.{◌≡◌, ℕ, ◌<◌, get_or, None, length}
use Rattle.tis_grid.specs.HeldGrid.{place_of}
use Rattle.tis_grid.proofs.grid.Grid.new.Given as goal

abbrev pub invariant-loop-position : goal.invariant-loop-position
invariant-loop-position l = (length l.input_at ≡ 4) × ((at : ℕ) → at < l.position → get_or l.input_at at None ≡ place_of l.puzzle.inputs.items at)
