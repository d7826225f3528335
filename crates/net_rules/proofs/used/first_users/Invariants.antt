-- The tables have the first users so far.
use Rattle.std.proofs.Common.{◌≡◌, List, ℕ, drop, map}
use Rattle.std.specs.Option.{option_or}
use Rattle.net_rules.specs.Tables.{value_of}
use Rattle.net_rules.specs.Found.{use_view}
use Rattle.net_rules.specs.Known.{first_user}
use Rattle.net_rules.proofs.used.first_users.Given as goal

abbrev pub invariant-uses : goal.invariant-uses
invariant-uses l =
    record {
      reads : (name : List ℕ) → first_user (λ found. found.read) (map use_view l.uses) name ≡ option_or (value_of l.readers name) (first_user (λ found. found.read) (map use_view (drop l.found-index l.uses)) name);
      writes : (name : List ℕ) → first_user (λ found. found.written) (map use_view l.uses) name ≡ option_or (value_of l.writers name) (first_user (λ found. found.written) (map use_view (drop l.found-index l.uses)) name);
    }
