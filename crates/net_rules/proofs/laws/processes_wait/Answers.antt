-- The lemma that processes wait.
use Rattle.net_rules.proofs.Numbering as Numbering
use Rattle.net_rules.proofs.laws.processes_wait.Goals as goal

pub returns : goal.returns
returns c = Numbering.processes_wait
