-- What is answered for a text that is no network, and for a network that breaks a rule.
use Rattle.net_syntax.specs.declared.error.NetError.{NetError}
use Rattle.net_syntax.specs.declared.error.NetError.TheVariants as net
use Rattle.net_rules.specs.declared.error.RuleError.{RuleError}
use Rattle.net_rules.specs.declared.error.RuleError.TheVariants as rule
use Rattle.net_column.specs.declared.error.FormError.{FormError}
use Rattle.net_column.specs.declared.error.FormError.TheVariants.{NotThisForm, NoMemory}

-- a text that is no network isn't of the form
abbrev pub unread : NetError → FormError
unread net.NoMemory = NoMemory
unread _ = NotThisForm

-- nor is one whose network breaks a rule
abbrev pub unkept : RuleError → FormError
unkept rule.NoMemory = NoMemory
unkept _ = NotThisForm
