use Rattle.std.proofs.Common.{◌<◌, ◌++◌, ℕ, map, ap, subst}
use Rattle.net_tree.specs.View.{block_view, statement_view}
use Rattle.net_rules.specs.Found.{use_view}
use Rattle.net_rules.specs.Sizes.{block_size, statement_size}
use Rattle.net_rules.proofs.Walks.{smaller}
use Rattle.net_rules.proofs.Finding.{all_of, found_next}
use Rattle.net_rules.proofs.statements.+statements.Goals as goal

pub find_in_block-statements-init : goal.find_in_block-statements-init
find_in_block-statements-init t c = ap (λ l. map use_view c.args.found.now.items ++ l) (all_of c.args.place.process c.args.place.in_x c.args.place.in_y (block_view c.args.block.now))

pub find_in_block-find_inside-requires : goal.find_in_block-find_inside-requires
find_in_block-find_inside-requires t c =
    let below : statement_size (statement_view c.at-statement.result.now) < block_size (block_view c.args.block.now) = smaller (block_view c.args.block.now) c.statements.index (statement_view c.at-statement.result.now) c.at-statement.ensures in
    (subst (λ (n : ℕ). statement_size (statement_view c.at-statement.result.now) < n) c.decreases below, tt)

pub find_in_block-statements-preserved : goal.find_in_block-statements-preserved
find_in_block-statements-preserved t c =
    found_next c.args.place.process c.args.place.in_x c.args.place.in_y (block_view c.args.block.now) c.statements.index c.line.result (statement_view c.at-statement.result.now) _
    (map use_view c.push.new.self.items) (map use_view c.find_inside.new.found.items) c.statements.found.items c.use_of.result
    c.statements.invariant c.at-statement.ensures c.line.ensures c.use_of.ensures (ap (map use_view) c.in_ok-push.ensures.items) c.in_ok-find_inside.ensures
