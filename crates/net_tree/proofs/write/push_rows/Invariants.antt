use Rattle.std.proofs.Common.{◌≡◌, ◌-◌, ◌*◌, ◌++◌, drop}
use Rattle.net_tree.specs.NetText.{row_words, words_behind}
use Rattle.net_tree.proofs.write.push_rows.Given as goal

abbrev pub invariant-rows : goal.invariant-rows
invariant-rows l =
    l.out.items ++ words_behind (row_words l.tiles.shape.columns (l.tiles.shape.rows - l.row) (drop (l.row * l.tiles.shape.columns) l.tiles.kinds))
    ≡ l.fn.out.items ++ words_behind (row_words l.tiles.shape.columns l.tiles.shape.rows l.tiles.kinds)
