use Rattle.net_tree.specs.NetText.{process_lines}
use Rattle.net_tree.specs.View.{process_view}
use Rattle.net_tree.proofs.Writing.{lines_written}
use Rattle.net_tree.proofs.write.push_processes.Goals as goal

pub processes-preserved : goal.processes-preserved
processes-preserved c = lines_written process_view process_lines c.args.processes.now c.processes.process-index c.process-item.result c.args.out.now.items c.processes.out.items c.push_process.new.out.items c.processes-test.true c.process-item.is c.processes.invariant c.in_ok-push_process.ensures
