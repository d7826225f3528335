use Rattle.std.proofs.Common.{◌≡◌, drop}
use Rattle.net_column.specs.Emission.{with_passes}
use Rattle.net_column.proofs.emitting.place_passes.Given as goal

abbrev pub invariant-loop-index : goal.invariant-loop-index
invariant-loop-index l =
    record {
      tiles : l.programs.tiles ≡ l.initial.programs.tiles;
      same : with_passes l.path l.initial.programs.programs ≡ with_passes (drop l.index l.path) l.programs.programs;
    }
