-- Networks whose names are numbers: inputs, then channels, then outputs, each in the order of the text.
use Rattle.std.specs.Prelude.{ℕ, ◌+◌, List, ◌++◌, length, map, Option, unwrap_or}
use Rattle.std.specs.List.{position}
use Rattle.std.specs.Str.{bytes_eq}
use Rattle.tis_base.specs.Tiles.{Tiles}
use Rattle.net_tree.specs.Tree.{Name, Statement, Get, GetAdd, GetSub, Put, PutNumber, Move, Set, Add, Sub, Neg, Double, Copy, Swap, If, While, Count, Block, Empty, Then, Net}

-- the tiles, the positions of the inputs, how many channels there are, the positions of the outputs, and the bodies of the processes. The inputs have the first numbers, then the channels, then the outputs
pub record NumberedNet : Type 0 where
  pub tiles : Tiles
  pub inputs : List ℕ
  pub channels : ℕ
  pub outputs : List ℕ
  pub processes : List (Block ℕ)

abbrev mutual
  -- a block with other names in place of its own
  pub block_with : {N M : Type 0} → (N → M) → Block N → Block M
  block_with name Empty = Empty
  block_with name (Then line statement rest) = Then line (statement_with name statement) (block_with name rest)

  pub statement_with : {N M : Type 0} → (N → M) → Statement N → Statement M
  statement_with name (Get read var) = Get (name read) var
  statement_with name (GetAdd read var) = GetAdd (name read) var
  statement_with name (GetSub read var) = GetSub (name read) var
  statement_with name (Put written var) = Put (name written) var
  statement_with name (PutNumber written number) = PutNumber (name written) number
  statement_with name (Move read written) = Move (name read) (name written)
  statement_with name (Set var number) = Set var number
  statement_with name (Add var number) = Add var number
  statement_with name (Sub var number) = Sub var number
  statement_with name (Neg var) = Neg var
  statement_with name (Double var) = Double var
  statement_with name (Copy to from) = Copy to from
  statement_with name Swap = Swap
  statement_with name (If var test first second) = If var test (block_with name first) (block_with name second)
  statement_with name (While var test body) = While var test (block_with name body)
  statement_with name (Count var body) = Count var (block_with name body)

-- the names that can be read, those that can be written, and all, in the order of their numbers
abbrev pub readable : Net → List Name
readable net = map (λ input. input.name) net.inputs ++ map (λ channel. channel.name) net.channels

abbrev pub writable : Net → List Name
writable net = map (λ channel. channel.name) net.channels ++ map (λ output. output.name) net.outputs

abbrev pub all_names : Net → List Name
all_names net = readable net ++ map (λ output. output.name) net.outputs

-- the number of a name, where an input, a channel or an output has it
abbrev pub number_of : Net → Name → Option ℕ
number_of net name = position (bytes_eq name) (all_names net)

-- the same, with a number that no name has for one that isn't there
abbrev pub number_in : Net → Name → ℕ
number_in net name = unwrap_or (number_of net name) (length (all_names net))

-- a network with numbers in place of its names
abbrev pub numbered : Net → NumberedNet
numbered net =
    record {
      tiles = net.tiles;
      inputs = map (λ input. input.position) net.inputs;
      channels = length net.channels;
      outputs = map (λ output. output.position) net.outputs;
      processes = map (λ process. block_with (number_in net) process.body) net.processes;
    }

-- how many numbers can be read: those of the inputs and the channels
abbrev pub readable_count : NumberedNet → ℕ
readable_count net = length net.inputs + net.channels
