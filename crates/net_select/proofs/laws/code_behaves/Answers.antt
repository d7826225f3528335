use Rattle.std.proofs.Common.{◌+◌, arith}
use Rattle.net_rules.specs.Numbers.{numbered}
use Rattle.net_rules.specs.Kahn.{step_limit}
use Rattle.net_select.proofs.Behaving.{process_behaves}
use Rattle.net_select.proofs.laws.code_behaves.Goals as goal

pub returns : goal.returns
returns c net body ports accepted values among distinct =
    process_behaves body ports distinct (λ streams are. (step_limit (numbered net) streams body + 1, λ fuel enough. c.processes_wait.ensures net streams body fuel accepted values are among (omega arith)))
