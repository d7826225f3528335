-- The statements so far keep the rule, and the tables know their users.
use Rattle.std.proofs.Common.{◌≡◌, List, [], drop, map}
use Rattle.net_rules.specs.Rules.{first_among}
use Rattle.net_rules.specs.Found.{Use, use_view}
use Rattle.net_rules.specs.Known.{KnowsUsers, can_read, can_write, use_fault_among}
use Rattle.net_rules.proofs.known.check_statements.Given as goal

abbrev pub invariant-uses : goal.invariant-uses
invariant-uses l =
    record {
      earlier : List Use;
      knows : KnowsUsers l.users.readers l.users.writers earlier;
      same : first_among (use_fault_among (can_read l.numbers) (can_write l.numbers)) [] (map use_view l.uses) ≡ first_among (use_fault_among (can_read l.numbers) (can_write l.numbers)) earlier (map use_view (drop l.found-index l.uses));
    }
