-- The texts that `compile` takes so far.
use Rattle.std.specs.Prelude.{◌≡◌, ℕ, List, Ok}
use Rattle.net_tree.specs.Tree.{Net}
use Rattle.net_tree.specs.NetText.{net_text}
use Rattle.net_syntax.specs.Reading.{net_of}
use Rattle.net_rules.specs.Rules.{IsAccepted}
use Rattle.net_column.specs.Column.{IsColumn}

-- a network keeps each rule and is one column
pub record KeepsForm (net : Net) : Type 0 where
  pub accepted : IsAccepted net
  pub column : IsColumn net

-- the text gives this network, which is of the form, and is its canonical text byte for byte
pub record HasForm (text : List ℕ) (net : Net) : Type 0 where
  pub gives : net_of text ≡ Ok net
  pub canonical : text ≡ net_text net
  pub form : KeepsForm net

-- a text is that of one network at most
abbrev pub TextsHaveOneNet : Type 0
TextsHaveOneNet = (text : List ℕ) (one other : Net) → HasForm text one → HasForm text other → one ≡ other
