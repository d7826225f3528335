use Rattle.std.proofs.Common.{◌≡◌, ℕ, ◌<◌, length, get_or, map}
use Rattle.std.specs.Prelude.{false}
use Rattle.tis_node.specs.NodeView.{node_view}
use Rattle.tis_grid.specs.HeldState.{writes}
use Rattle.tis_grid.proofs.nodes.writers_of.Given as goal

abbrev pub invariant-loop-number : goal.invariant-loop-number
invariant-loop-number l = (length l.writing ≡ 12) × ((k : ℕ) → k < l.number → get_or l.writing k false ≡ get_or (map writes (map node_view l.nodes)) k false)
