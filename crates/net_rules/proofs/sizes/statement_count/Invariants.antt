use Rattle.std.proofs.Common.{drop}
use Rattle.net_rules.proofs.Counting.{all_statements, Counts}
use Rattle.net_rules.proofs.sizes.statement_count.Given as goal

abbrev pub invariant-processes : goal.invariant-processes
invariant-processes l = Counts (all_statements l.processes) (all_statements (drop l.process-index l.processes)) l.count
