-- The declarations so far keep the rule.
use Rattle.std.proofs.Common.{◌≡◌, List, [], drop, map}
use Rattle.net_rules.specs.Rules.{Declaration, first_among}
use Rattle.net_rules.specs.Known.{declaration_view, unused_fault_by}
use Rattle.net_rules.proofs.used.check_used.Given as goal

abbrev pub invariant-declared : goal.invariant-declared
invariant-declared l =
    record {
      earlier : List Declaration;
      same : first_among (unused_fault_by l.users.readers l.users.writers) [] (map declaration_view l.declared) ≡ first_among (unused_fault_by l.users.readers l.users.writers) earlier (map declaration_view (drop l.declaration-index l.declared));
    }
