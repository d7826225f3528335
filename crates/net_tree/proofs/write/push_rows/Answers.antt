use Rattle.std.proofs.Common.{◌≡◌, ◌++◌, ap, arith}
use Rattle.tis_base.specs.declared.tiles.Shape.{Shape}
use Rattle.net_tree.specs.NetText.{row_words, words_behind}
use Rattle.net_tree.proofs.Writing.{row_written}
use Rattle.net_tree.proofs.write.push_rows.Goals as goal

pub rows-preserved : goal.rows-preserved
rows-preserved c =
    let rows : c.shape-row-end.result.rows ≡ c.args.tiles.now.shape.rows = ap (λ (s : Shape). s.rows) c.shape-row-end.ensures.shape in
    let test = c.rows-test.true in
    row_written c.args.tiles.now.shape.columns c.args.tiles.now.shape.rows c.rows.row c.args.tiles.now.kinds c.rows.out.items c.push_row.new.out.items (c.args.out.now.items ++ words_behind (row_words c.args.tiles.now.shape.columns c.args.tiles.now.shape.rows c.args.tiles.now.kinds))
    (omega (arith, rows, test)) c.in_ok-push_row.ensures c.rows.invariant
