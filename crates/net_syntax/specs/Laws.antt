-- What holds of network texts, apart from any call.
use Rattle.std.specs.Prelude.{◌≡◌, ℕ, List, Ok}
use Rattle.net_tree.specs.Tree.{Net, net_without_lines}
use Rattle.net_tree.specs.NetText.{net_text}
use Rattle.net_syntax.specs.Forms.{lines_of}
use Rattle.net_syntax.specs.Grammar.{IsNet, IsAnswer}
use Rattle.net_syntax.specs.Reading.{net_of}

-- the network that the lines of a text are is the one that the text gives
abbrev pub NetworksAreRead : Type 0
NetworksAreRead = (text : List ℕ) (net : Net) → IsNet (lines_of text) net → net_of text ≡ Ok net

-- the lines of a text that gives a network are that network
abbrev pub ReadNetworksAreDerived : Type 0
ReadNetworksAreDerived = (text : List ℕ) (net : Net) → net_of text ≡ Ok net → IsNet (lines_of text) net

-- what a text gives is what the grammar says of its lines: the network that they are, or why they are none
abbrev pub TextsAreAnswered : Type 0
TextsAreAnswered = (text : List ℕ) → IsAnswer text (net_of text)

-- the canonical text of a network that some text gives is read as this network again, with other line numbers
abbrev pub WrittenNetworksAreRead : Type 0
WrittenNetworksAreRead = (text : List ℕ) (net : Net) → net_of text ≡ Ok net → (again : Net) × (net_of (net_text net) ≡ Ok again) × (net_without_lines again ≡ net_without_lines net)
