-- The declarations so far keep the rule, and the tables know them.
use Rattle.std.proofs.Common.{◌≡◌, List, [], drop, map}
use Rattle.net_rules.specs.Rules.{Declaration, first_among, declaration_fault}
use Rattle.net_rules.specs.Known.{declaration_view, KnowsDeclared}
use Rattle.net_rules.proofs.declarations.check_declarations.Given as goal

abbrev pub invariant-declared : goal.invariant-declared
invariant-declared l =
    record {
      earlier : List Declaration;
      knows : KnowsDeclared l.before.names l.before.processes l.before.inputs l.before.outputs earlier;
      same : first_among declaration_fault [] (map declaration_view l.declared) ≡ first_among declaration_fault earlier (map declaration_view (drop l.declaration-index l.declared));
    }
