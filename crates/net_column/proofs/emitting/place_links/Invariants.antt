use Rattle.std.proofs.Common.{◌≡◌, drop, map}
use Rattle.net_column.specs.Emission.{with_links}
use Rattle.net_tree.specs.View.{port_view}
use Rattle.net_column.proofs.emitting.place_links.Given as goal

abbrev pub invariant-loop-port : goal.invariant-loop-port
invariant-loop-port l =
    record {
      tiles : l.programs.tiles ≡ l.initial.programs.tiles;
      same : with_links (map port_view l.ports) l.initial.programs.programs ≡ with_links (map port_view (drop l.port-index l.ports)) l.programs.programs;
    }
