use Rattle.tis_report.proofs.Growing.{drawn_more}
use Rattle.tis_report.proofs.image.drawn.Goals as goal

pub loop-index-preserved : goal.loop-index-preserved
loop-index-preserved c = drawn_more c.args.values.now.items c.loop-index.index c.at.result c.loop-index.console c.paint.new.self c.at.ensures.value c.paint.ensures c.loop-index.invariant
