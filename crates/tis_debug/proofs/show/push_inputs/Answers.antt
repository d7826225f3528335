use Rattle.tis_debug.specs.Shown.{left_text}
use Rattle.tis_report.proofs.Growing.{number_more}
use Rattle.tis_debug.proofs.show.push_inputs.Goals as goal

pub loop-position-preserved : goal.loop-position-preserved
loop-position-preserved c = number_more (left_text c.args.state.now.state) c.args.out.now.items c.loop-position.out.items c.push_left.new.out.items c.loop-position.position c.in_ok-push_left.ensures c.loop-position.invariant
