-- The streams that were found.
use Rattle.std.specs.Prelude.{◌≡◌, ℕ, ◌+◌, ◌≤◌, ℤ, List, [], ◌∷◌, length, map, Option, Some, None, ◌==◌, if◌then◌else◌}
use Rattle.tis_grid.specs.Puzzle.{Input, values_at}
use Rattle.net_tree.specs.Tree.{Net}
use Rattle.net_tree.specs.View.{net_view}
use Rattle.net_rules.specs.Numbers.{NumberedNet, numbered, readable_count}
use Rattle.net_rules.specs.Kahn.{input_streams, streams_from, kahn_streams}
use Rattle.net_rules.specs.Process.{Streams}
use Rattle.net_kahn.specs.declared.link.Link.{Link}
use Rattle.net_kahn.specs.declared.finding.KahnStreams as held
use Rattle.net_kahn.specs.Links.{given_of, list_of}
use Rattle.net_kahn.specs.Machines.{by_number, AreLinks}

-- how many names a network has
abbrev pub name_count : NumberedNet → ℕ
name_count net = readable_count net + length net.outputs

-- the links of a network before any process runs: one for each name, and one for the number that no name has
pub record OpensLinks (net : NumberedNet) (inputs : List Input) (all : List Link) : Type 0 where
  pub links : AreLinks 0 all
  pub count : length all ≡ name_count net + 1
  pub lists : by_number list_of all ≡ input_streams net (values_at inputs)
  pub given : by_number given_of all ≡ input_streams net (values_at inputs)

-- the stream of the output at a position, where one of these stands there, of which the first has this number
abbrev pub out_from : ℕ → List ℕ → Streams → ℕ → Option (List ℤ)
out_from number [] streams at = None
out_from number (position ∷ positions) streams at = if position == at then Some (streams number) else out_from (number + 1) positions streams at

-- the stream of the output of a network at a position, where one stands there
abbrev pub out_at : NumberedNet → Streams → ℕ → Option (List ℤ)
out_at net streams at = out_from (readable_count net) net.outputs streams at

-- the network whose streams they are
abbrev pub net_in : held.KahnStreams → Net
net_in found = net_view found.net.now

-- the stream of each name
abbrev pub streams_of : held.KahnStreams → Streams
streams_of found = by_number list_of found.links.items

-- there is a link for each name, and only on inputs something comes in
pub record IsFound (found : held.KahnStreams) : Type 0 where
  pub count : length found.links.items ≡ name_count (numbered (net_in found)) + 1
  pub given : (name : ℕ) → length (numbered (net_in found)).inputs ≤ name → by_number given_of found.links.items name ≡ []

-- they are the streams of a network over these inputs
pub record Finds (found : held.KahnStreams) (net : Net) (inputs : List Input) : Type 0 where
  pub links : IsFound found
  pub same_net : net_in found ≡ net
  pub streams : streams_of found ≡ kahn_streams (numbered net) (values_at inputs)

-- links that no process has used, with these values, all of which come in
pub record AreOpened (all : List Link) (values : List (List ℤ)) : Type 0 where
  pub links : AreLinks 0 all
  pub lists : map list_of all ≡ values
  pub given : map given_of all ≡ values

-- all processes have run over these links
pub record HaveRun (net : NumberedNet) (old new : List Link) : Type 0 where
  pub count : length new ≡ length old
  pub lists : by_number list_of new ≡ streams_from net net.processes (by_number list_of old)
  pub given : by_number given_of new ≡ by_number given_of old
