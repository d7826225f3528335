use Rattle.std.proofs.Common.{◌≡◌, drop}
use Rattle.net_tree.specs.Tree.{joined, statements_of}
use Rattle.net_tree.specs.View.{block_view, statement_view, block_with as block_of}
use Rattle.net_numbered.specs.View.{numbered_block}
use Rattle.net_rules.specs.Numbers.{block_with}
use Rattle.net_rules.specs.Sizes.{block_size, statement_size}
use Rattle.net_rules.specs.Sure.{HasValues}
use Rattle.net_rules.specs.Known.{number_by}
use Rattle.net_rules.proofs.numbered.+numbering.Given as goal

abbrev pub decreases-number_block : goal.decreases-number_block
decreases-number_block l = block_size (block_view l.block.now)

abbrev pub decreases-number_statement : goal.decreases-number_statement
decreases-number_statement l = statement_size (statement_view l.statement.now)

abbrev pub invariant-number_block-statements : goal.invariant-number_block-statements
invariant-number_block-statements l =
    record {
      seen : block_with (number_by l.numbers.table.now l.numbers.other) (block_view l.block) ≡ joined (numbered_block l.numbered) (block_with (number_by l.numbers.table.now l.numbers.other) (block_of (drop l.index (statements_of (block_view l.block)))));
      values : HasValues (block_of (drop l.index (statements_of (block_view l.block)))) → HasValues (block_view l.block);
    }
