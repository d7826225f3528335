use Rattle.std.proofs.Common.{◌≡◌, ◌++◌, map, take}
use Rattle.std.specs.Prelude.{flat_map}
use Rattle.net_tree.specs.NetText.{lines_text, process_lines}
use Rattle.net_tree.specs.View.{process_view}
use Rattle.net_tree.proofs.write.push_processes.Given as goal

abbrev pub invariant-processes : goal.invariant-processes
invariant-processes l = l.out.items ≡ l.fn.out.items ++ lines_text (flat_map process_lines (map process_view (take l.process-index l.processes)))
