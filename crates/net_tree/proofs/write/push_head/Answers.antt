use Rattle.std.proofs.Common.{decimal}
use Rattle.std.specs.Prelude.{codes}
use Rattle.net_tree.specs.NetText.{row_words}
use Rattle.net_tree.proofs.Writing.{head_is}
use Rattle.net_tree.proofs.write.push_head.Goals as goal

pub returns : goal.returns
returns c =
    head_is c.args.out.now.items c.extend_from_slice.new.self.items c.push_blank_and_number.new.out.items c.extend_from_slice-2.new.self.items c.push_rows.new.out.items c.push.new.self.items
    (codes "net") (decimal c.args.version) (codes "tiles") (row_words c.args.tiles.now.shape.columns c.args.tiles.now.shape.rows c.args.tiles.now.kinds)
    c.in_ok-extend_from_slice.ensures.items c.in_ok-push_blank_and_number.ensures c.in_ok-extend_from_slice-2.ensures.items c.in_ok-push_rows.ensures c.in_ok-push.ensures.items
