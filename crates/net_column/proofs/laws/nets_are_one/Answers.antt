use Rattle.std.proofs.Common.{◌≡◌, Result, Ok}
use Rattle.net_tree.specs.Tree.{Net}
use Rattle.net_column.proofs.laws.nets_are_one.Goals as goal

same_net : {E : Type 0} (a b : Net) (given : Result Net E) → given ≡ Ok a → given ≡ Ok b → a ≡ b
same_net a b given first second = cc

pub returns : goal.returns
returns c = λ text one other first second. same_net one other _ first.gives second.gives
