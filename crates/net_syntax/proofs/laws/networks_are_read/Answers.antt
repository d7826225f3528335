use Rattle.net_syntax.proofs.Derived.{derived_is_read}
use Rattle.net_syntax.proofs.laws.networks_are_read.Goals as goal

pub returns : goal.returns
returns c = derived_is_read
