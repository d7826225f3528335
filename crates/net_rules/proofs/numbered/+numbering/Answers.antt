use Rattle.std.proofs.Common.{◌<◌, ◌≤◌, ℕ, length, sym, ap, subst, ◌∙◌}
use Rattle.net_tree.specs.Tree.{joined, statements_of}
use Rattle.net_tree.specs.View.{block_view, statement_view, block_with as block_of}
use Rattle.net_numbered.specs.View.{numbered_block, numbered_statement}
use Rattle.net_rules.specs.Numbers.{block_with}
use Rattle.net_rules.specs.Sizes.{block_size, statement_size}
use Rattle.net_rules.specs.Sure.{HasValues}
use Rattle.net_rules.specs.Known.{number_by}
use Rattle.net_rules.proofs.Walks.{smaller}
use Rattle.net_rules.proofs.NumberingBlocks.{whole_block, numbered_next, values_next, numbered_all}
use Rattle.net_rules.proofs.numbered.+numbering.Goals as goal

pub number_block-statements-init : goal.number_block-statements-init
number_block-statements-init t c =
    let f = number_by c.args.numbers.table.now c.args.numbers.other in
    let block = block_view c.args.block.now in
    record {
      seen = ap (block_with f) (sym (whole_block block)) ∙ ap (λ b. joined b (block_with f (block_of (statements_of block)))) (sym c.new-numbered.ensures);
      values = λ has. subst HasValues (whole_block block) has;
    }

pub number_block-number_statement-requires : goal.number_block-number_statement-requires
number_block-number_statement-requires t c =
    let below : statement_size (statement_view c.at.result.now) < block_size (block_view c.args.block.now) = smaller (block_view c.args.block.now) c.statements.index (statement_view c.at.result.now) c.at.ensures in
    (subst (λ (n : ℕ). statement_size (statement_view c.at.result.now) < n) c.decreases below, tt)

pub number_block-statements-preserved : goal.number_block-statements-preserved
number_block-statements-preserved t c =
    let f = number_by c.args.numbers.table.now c.args.numbers.other in
    let block = block_view c.args.block.now in
    record {
      seen = numbered_next f block c.statements.index c.line.result (statement_view c.at.result.now) c.at.ensures c.line.ensures _ (numbered_block c.statements.numbered) _ (numbered_statement c.in_ok-statement.statement) c.statements.invariant.seen c.in_ok-statement.ensures.seen c.in_ok-push.ensures.ok;
      values = λ more. values_next f block c.statements.index c.line.result (statement_view c.at.result.now) c.at.ensures c.line.ensures c.statements.invariant.values c.in_ok-statement.ensures.values more;
    }

pub number_block-returns-clause-seen : goal.number_block-returns-clause-seen
number_block-returns-clause-seen t c =
    let past : length (statements_of (block_view c.args.block.now)) ≤ c.statements.index = subst (λ (n : ℕ). n ≤ c.statements.index) c.len-index-end.ensures c.statements-test.false in
    numbered_all (number_by c.args.numbers.table.now c.args.numbers.other) (block_view c.args.block.now) c.statements.index _ (numbered_block c.statements.numbered) c.statements.invariant.seen past
