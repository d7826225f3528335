use Rattle.std.proofs.Common.{◌≡◌, ℕ, ◌<◌, [], get_or, length}
use Rattle.tis_grid.proofs.state.copy_stacks.Given as goal

abbrev pub invariant-loop-tile : goal.invariant-loop-tile
invariant-loop-tile l = (length l.all ≡ 12) × ((k : ℕ) → k < l.tile → get_or l.all k [] ≡ get_or l.stacks k [])
