use Rattle.net_column.proofs.SmallNets.{nets_are_small}
use Rattle.net_column.proofs.laws.read_networks_are_small.Goals as goal

pub returns : goal.returns
returns c = λ text net given. nets_are_small text net (c.read_networks_are_derived.ensures text net given)
