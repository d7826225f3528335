-- A network that was checked, and what its check says.
use Rattle.std.specs.Prelude.{◌≡◌, ◌<◌, ◌^◌, length, map, Result, Ok, Err}
use Rattle.net_tree.specs.Tree.{Name, Net}
use Rattle.net_tree.specs.View.{net_view}
use Rattle.net_numbered.specs.View.{numbered_block}
use Rattle.net_rules.specs.declared.accepted.Checked as held
use Rattle.net_rules.specs.declared.error.RuleError.{RuleError}
use Rattle.net_rules.specs.Broken.{IsBroken}
use Rattle.net_rules.specs.Laws.{NetHasValues}
use Rattle.net_rules.specs.Numbers.{number_of, numbered}
use Rattle.net_rules.specs.Rules.{IsAccepted, first_broken}
use Rattle.net_rules.specs.Tables.{value_of}
use Rattle.net_rules.specs.Known.{HasFewNames}
use Rattle.net_rules.specs.Sizes.{statement_count}

-- fewer than 2^31 names of inputs, channels and outputs, fewer than 2^31 processes, and fewer than 2^31 statements
pub record IsSmallNet (net : Net) : Type 0 where
  pub names : HasFewNames net
  pub processes : length net.processes < 2 ^ 31
  pub statements : statement_count net < 2 ^ 31

-- the network that was checked
abbrev pub net_of : held.Checked → Net
net_of checked = net_view checked.net.now

-- a network that keeps each rule, whose numbers are values of the machine, with the numbers of its names and its processes over them
pub record IsChecked (checked : held.Checked) : Type 0 where
  pub accepted : IsAccepted (net_of checked)
  pub values : NetHasValues (net_of checked)
  pub small : IsSmallNet (net_of checked)
  pub names : (name : Name) → value_of checked.numbers name ≡ number_of (net_of checked) name
  pub bodies : map numbered_block checked.processes.items ≡ (numbered (net_of checked)).processes

-- the check gives the network, or the first rule that it breaks
abbrev pub Checks : Result held.Checked RuleError → Net → Type 0
Checks (Ok checked) net = IsChecked checked × (net_of checked ≡ net)
Checks (Err error) net = IsBroken error (first_broken net)
