use Rattle.net_numbered.specs.View.{numbered_block}
use Rattle.net_kahn.proofs.Finishing.{left_of}
use Rattle.net_kahn.proofs.Walking.{RoundsSoFar}
use Rattle.net_kahn.proofs.finding.run_process.Given as goal

abbrev pub invariant-rounds : goal.invariant-rounds
invariant-rounds l = RoundsSoFar (numbered_block l.body) l.initial.machine l.machine

abbrev pub decreases-rounds : goal.decreases-rounds
decreases-rounds l = left_of l.machine
