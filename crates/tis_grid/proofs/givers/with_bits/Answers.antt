use Rattle.tis_grid.proofs.Marked.{four_here, four_others}
use Rattle.tis_grid.proofs.givers.with_bits.Goals as goal

pub returns : goal.returns
returns c = record { here = four_here c.args.marks c.args.first c.args.bits c.requires.few c.requires.within; others = four_others c.args.marks c.args.first c.args.bits c.requires.few c.requires.within }
