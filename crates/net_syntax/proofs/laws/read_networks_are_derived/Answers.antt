use Rattle.net_syntax.proofs.Sound.{read_is_derived}
use Rattle.net_syntax.proofs.laws.read_networks_are_derived.Goals as goal

pub returns : goal.returns
returns c = read_is_derived
