-- The names so far have their numbers.
use Rattle.std.proofs.Common.{◌≡◌, ◌+◌, List, ℕ, drop, map}
use Rattle.std.specs.List.{position_from}
use Rattle.std.specs.Option.{option_or}
use Rattle.std.specs.Str.{bytes_eq}
use Rattle.net_tree.specs.View.{channel_view}
use Rattle.net_rules.specs.Tables.{value_of}
use Rattle.net_rules.proofs.numbers.number_channels.Given as goal

abbrev pub invariant-channels : goal.invariant-channels
invariant-channels l =
    record {
      counts : l.number ≡ l.fn.first + l.channel-index;
      same : (name : List ℕ) → option_or (value_of l.initial.numbers name) (position_from (bytes_eq name) l.fn.first (map (λ p. p.name) (map channel_view l.channels))) ≡ option_or (value_of l.numbers name) (position_from (bytes_eq name) l.number (map (λ p. p.name) (map channel_view (drop l.channel-index l.channels))));
    }
