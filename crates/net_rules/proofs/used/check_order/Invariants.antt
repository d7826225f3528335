-- The statements so far keep the rule.
use Rattle.std.proofs.Common.{◌≡◌, List, [], drop, map}
use Rattle.net_rules.specs.Rules.{first_among}
use Rattle.net_rules.specs.Found.{Use, use_view}
use Rattle.net_rules.specs.Known.{names_channel, order_fault_by}
use Rattle.net_rules.proofs.used.check_order.Given as goal

abbrev pub invariant-uses : goal.invariant-uses
invariant-uses l =
    record {
      earlier : List Use;
      same : first_among (order_fault_by (names_channel l.numbers) l.writers) [] (map use_view l.uses) ≡ first_among (order_fault_by (names_channel l.numbers) l.writers) earlier (map use_view (drop l.found-index l.uses));
    }
