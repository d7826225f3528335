use Rattle.std.proofs.Common.{ap, ◌∙◌}
use Rattle.net_rules.specs.Tables.{value_of}
use Rattle.net_rules.proofs.Tables.{looked_up}
use Rattle.net_rules.proofs.names.NameTable.get.Goals as goal

pub returns : goal.returns
returns c = c.copied.ensures ∙ c.get.ensures.value ∙ looked_up c.self.inside.numbers.entries _ ∙ ap (value_of _) c.bytes.ensures.bytes ∙ ap (λ t. value_of t c.args.name.now) c.self.view_is
