use Rattle.std.proofs.Common.{◌≡◌, ◌++◌, map, take}
use Rattle.net_tree.specs.NetText.{lines_text, block_lines}
use Rattle.net_tree.specs.View.{block_with}
use Rattle.net_tree.proofs.Views.{numbered_view}
use Rattle.net_tree.proofs.write.+write.Given as goal

abbrev pub invariant-push_block-statements : goal.invariant-push_block-statements
invariant-push_block-statements l = l.out.items ≡ l.fn.out.items ++ lines_text (block_lines (block_with (map numbered_view (take l.numbered-index l.numbered-items))))
