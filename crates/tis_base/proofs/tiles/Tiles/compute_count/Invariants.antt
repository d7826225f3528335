use Rattle.std.proofs.Common.{◌≡◌, ◌≤◌, count_by, take}
use Rattle.tis_base.specs.Tiles.{is_compute}
use Rattle.tis_base.proofs.tiles.Tiles.compute_count.Given as goal

abbrev pub invariant-loop-kind : goal.invariant-loop-kind
invariant-loop-kind l = (l.count ≡ count_by is_compute (take l.kind-index l.kind-items)) × (l.count ≤ l.kind-index)
