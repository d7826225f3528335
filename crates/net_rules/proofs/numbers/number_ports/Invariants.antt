-- The names so far have their numbers.
use Rattle.std.proofs.Common.{◌≡◌, ◌+◌, List, ℕ, drop, map}
use Rattle.std.specs.List.{position_from}
use Rattle.std.specs.Option.{option_or}
use Rattle.std.specs.Str.{bytes_eq}
use Rattle.net_tree.specs.View.{port_view}
use Rattle.net_rules.specs.Tables.{value_of}
use Rattle.net_rules.proofs.numbers.number_ports.Given as goal

abbrev pub invariant-ports : goal.invariant-ports
invariant-ports l =
    record {
      counts : l.number ≡ l.fn.first + l.port-index;
      same : (name : List ℕ) → option_or (value_of l.initial.numbers name) (position_from (bytes_eq name) l.fn.first (map (λ p. p.name) (map port_view l.ports))) ≡ option_or (value_of l.numbers name) (position_from (bytes_eq name) l.number (map (λ p. p.name) (map port_view (drop l.port-index l.ports))));
    }
