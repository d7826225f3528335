use Rattle.std.proofs.Common.{nat_eq, ap, ◌∙◌}
use Rattle.std.specs.List.{list_any}
use Rattle.indexmap.specs.IndexSet.{contains}
use Rattle.net_rules.specs.Rules.{has_two}
use Rattle.net_rules.proofs.Joining.{joins_both, joins_none}
use Rattle.net_rules.proofs.joins.joins.Goals as goal

pub returns-then-reads_spread : goal.returns-then-reads_spread
returns-then-reads_spread c = λ body is.
    joins_both (contains nat_eq c.args.spread.now) body c.args.used.now.reads.items _ _ (c.any_among-reads_spread.ensures ∙ ap (list_any (contains nat_eq c.args.spread.now)) c.as_slice.ensures.value) (c.has_two-reads_two.ensures ∙ ap has_two c.as_slice-2.ensures.value) c.if-reads_spread.true is

pub returns-else-reads_spread : goal.returns-else-reads_spread
returns-else-reads_spread c = λ body is.
    joins_none (contains nat_eq c.args.spread.now) body c.args.used.now.reads.items _ (c.any_among-reads_spread.ensures ∙ ap (list_any (contains nat_eq c.args.spread.now)) c.as_slice.ensures.value) c.if-reads_spread.false is
