-- The numbers of the statements so far were found.
use Rattle.std.proofs.Common.{◌≡◌, ◌++◌, drop, map}
use Rattle.net_rules.specs.Found.{use_view}
use Rattle.net_rules.specs.Known.{number_by, names_used}
use Rattle.net_rules.proofs.joins.numbers_of.Given as goal

abbrev pub invariant-uses : goal.invariant-uses
invariant-uses l =
    record {
      read : map (number_by l.numbers.table.now l.numbers.other) (names_used (λ found. found.read) (map use_view l.uses)) ≡ l.reads.items ++ map (number_by l.numbers.table.now l.numbers.other) (names_used (λ found. found.read) (map use_view (drop l.found-index l.uses)));
      written : map (number_by l.numbers.table.now l.numbers.other) (names_used (λ found. found.written) (map use_view l.uses)) ≡ l.writes.items ++ map (number_by l.numbers.table.now l.numbers.other) (names_used (λ found. found.written) (map use_view (drop l.found-index l.uses)));
    }
