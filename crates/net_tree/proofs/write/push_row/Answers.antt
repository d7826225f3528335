use Rattle.std.proofs.Common.{◌*◌, ap}
use Rattle.tis_base.specs.declared.tiles.Shape.{Shape}
use Rattle.net_tree.proofs.Writing.{letter_written}
use Rattle.net_tree.proofs.write.push_row.Goals as goal

pub letters-preserved : goal.letters-preserved
letters-preserved c =
    letter_written c.args.tiles.now.kinds (c.args.row * c.args.tiles.now.shape.columns) (c.args.row * c.shape-columns.result.columns) c.letters.column c.kind.result c.kind_letter.result c.args.out.now.items c.letters.out.items c.push-in-letters.new.self.items
    (ap (λ (s : Shape). c.args.row * s.columns) c.shape-columns.ensures.shape) c.kind.ensures c.kind_letter.ensures c.letters.invariant c.in_ok-push-2.ensures.items
