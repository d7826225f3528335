use Rattle.std.proofs.Common.{◌≡◌, map, take}
use Rattle.net_tree.specs.View.{block_view, block_with}
use Rattle.net_tree.proofs.Views.{numbered_view}
use Rattle.net_tree.proofs.tree.+copy.Given as goal

abbrev pub invariant-Block::copy-statements : goal.invariant-Block::copy-statements
invariant-Block::copy-statements l = block_view l.copy ≡ block_with (map numbered_view (take l.numbered-index l.numbered-items))
