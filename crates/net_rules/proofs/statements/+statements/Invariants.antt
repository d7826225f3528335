use Rattle.std.proofs.Common.{◌≡◌, ◌++◌, drop, map}
use Rattle.net_tree.specs.Tree.{statements_of}
use Rattle.net_tree.specs.View.{block_view, statement_view}
use Rattle.net_rules.specs.Found.{use_view, uses_in}
use Rattle.net_rules.specs.Sizes.{block_size, statement_size}
use Rattle.net_rules.proofs.Finding.{uses_of}
use Rattle.net_rules.proofs.statements.+statements.Given as goal

abbrev pub decreases-find_in_block : goal.decreases-find_in_block
decreases-find_in_block l = block_size (block_view l.block.now)

abbrev pub decreases-find_inside : goal.decreases-find_inside
decreases-find_inside l = statement_size (statement_view l.statement.now)

abbrev pub invariant-find_in_block-statements : goal.invariant-find_in_block-statements
invariant-find_in_block-statements l =
    map use_view l.initial.found.items ++ uses_in l.place.process l.place.in_x l.place.in_y (block_view l.block) ≡ map use_view l.found.items ++ uses_of l.place.process l.place.in_x l.place.in_y (drop l.index (statements_of (block_view l.block)))
