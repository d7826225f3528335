use Rattle.std.proofs.Common.{subst}
use Rattle.net_tree.specs.Tree.{Net}
use Rattle.net_rules.specs.Numbers.{numbered}
use Rattle.net_column.specs.Carries.{Carries}
use Rattle.net_column.proofs.compiling.programs_of.Goals as goal

pub returns-clause-carries : goal.returns-clause-carries
returns-clause-carries c = subst (λ (n : Net). Carries c.in_ok-emit.field-0 (numbered n)) c.in_ok-checked.ensures.1 c.in_ok-emit.ensures.carries
