use Rattle.tis_report.specs.Outputs.{value_text}
use Rattle.tis_report.proofs.Growing.{taken_more}
use Rattle.tis_debug.proofs.show.push_values.Goals as goal

pub loop-index-preserved : goal.loop-index-preserved
loop-index-preserved c = taken_more value_text c.args.out.now.items c.loop-index.out.items c.push_value.new.out.items c.args.stack.now c.loop-index.index c.at.result c.at.ensures.value c.in_ok-push_value.ensures c.loop-index.invariant
