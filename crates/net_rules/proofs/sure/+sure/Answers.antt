use Rattle.std.proofs.Common.{◌<◌, ℕ, subst, sym, inl, inr, ◌∙◌}
use Rattle.net_tree.specs.View.{block_view, statement_view}
use Rattle.net_rules.specs.Sizes.{block_size, statement_size}
use Rattle.net_rules.specs.Uses.{reads_itself, reads_either_way}
use Rattle.net_rules.proofs.Walks.{smaller, any_of, found_read, passed_read, either_is, neither_is}
use Rattle.net_rules.proofs.sure.+sure.Goals.{surely_reads-then-itself-via-then-itself, surely_reads-then-itself-via-else-itself+then-either_way}
use Rattle.net_rules.proofs.sure.+sure.Goals as goal

pub surely_reads-reads_either_way-either_way-requires : goal.surely_reads-reads_either_way-either_way-requires
surely_reads-reads_either_way-either_way-requires t c =
    let below : statement_size (statement_view c.at-statement.result.now) < block_size (block_view c.args.block.now) = smaller (block_view c.args.block.now) c.statements.index (statement_view c.at-statement.result.now) c.at-statement.ensures in
    (subst (λ (n : ℕ). statement_size (statement_view c.at-statement.result.now) < n) c.decreases below, tt)

pub surely_reads-statements-init : goal.surely_reads-statements-init
surely_reads-statements-init t c = any_of (block_view c.args.block.now)

pub surely_reads-returns-then-itself : goal.surely_reads-returns-then-itself
surely_reads-returns-then-itself t c =
    let statement = statement_view c.at-statement.result.now in
    found_read (block_view c.args.block.now) c.statements.index statement c.statements.invariant c.at-statement.ensures
    (either_is (reads_itself statement) (reads_either_way statement) (elim c.then-itself.branch [
      | surely_reads-then-itself-via-then-itself w ↦ inl (sym c.reads_itself-itself.ensures ∙ w.if-itself.true)
      | surely_reads-then-itself-via-else-itself+then-either_way w ↦ inr (sym c.reads_either_way-either_way.ensures ∙ w.if-either_way.true)
    ]))

pub surely_reads-statements-preserved : goal.surely_reads-statements-preserved
surely_reads-statements-preserved t c =
    let statement = statement_view c.at-statement.result.now in
    passed_read (block_view c.args.block.now) c.statements.index statement c.statements.invariant c.at-statement.ensures
    (neither_is (reads_itself statement) (reads_either_way statement) (sym c.reads_itself-itself.ensures ∙ c.if-itself.false) (sym c.reads_either_way-either_way.ensures ∙ c.if-either_way.false))
