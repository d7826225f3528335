-- Networks of processes, joined by first-in first-out channels (Kahn 1974), as plain trees of numbers and lists.
use Rattle.std.specs.Prelude.{ℕ, ℤ, List, [], ◌∷◌, map, Option}
use Rattle.tis_base.specs.Tiles.{Tiles}
use Rattle.net_tree.specs.declared.tree.Var.{Var}
use Rattle.net_tree.specs.declared.tree.Test.{Test}

-- Statements and blocks, over any type of names: here a name is its bytes.
mutual
  -- what a process does next
  pub data Statement (N : Type 0) : Type 0 where
    -- reads a value, and puts it into a variable, or adds it, or subtracts it
    Get : (read : N) → (var : Var) → Statement N
    GetAdd : (read : N) → (var : Var) → Statement N
    GetSub : (read : N) → (var : Var) → Statement N
    -- sends the value of a variable, or a number
    Put : (written : N) → (var : Var) → Statement N
    PutNumber : (written : N) → (number : ℤ) → Statement N
    -- reads a value and sends it on
    Move : (read : N) → (written : N) → Statement N
    -- a number becomes the value of a variable, or is added to it, or subtracted from it
    Set : (var : Var) → (number : ℤ) → Statement N
    Add : (var : Var) → (number : ℤ) → Statement N
    Sub : (var : Var) → (number : ℤ) → Statement N
    -- a variable gets the other sign, or is added to itself
    Neg : (var : Var) → Statement N
    Double : (var : Var) → Statement N
    -- the first variable gets the value of the second
    Copy : (to : Var) → (from : Var) → Statement N
    -- x gets the value of y, and y that of x
    Swap : Statement N
    -- does the first block where the variable passes the test, and the second one where it doesn't
    If : (var : Var) → (test : Test) → (first : Block N) → (second : Block N) → Statement N
    -- tests, and where the variable passes does the block and tests again
    While : (var : Var) → (test : Test) → (body : Block N) → Statement N
    -- where the variable is positive does the block, takes 1 from the variable, and looks again
    Count : (var : Var) → (body : Block N) → Statement N

  -- statements in order, each with the number of its line
  pub data Block (N : Type 0) : Type 0 where
    Empty : Block N
    Then : (line : ℕ) → (statement : Statement N) → (rest : Block N) → Block N

-- the statements of one block, and then those of another
abbrev pub joined : {N : Type 0} → Block N → Block N → Block N
joined Empty after = after
joined (Then line statement rest) after = Then line statement (joined rest after)

-- one more statement at the end
abbrev pub with_last : {N : Type 0} → Block N → ℕ → Statement N → Block N
with_last block line statement = joined block (Then line statement Empty)

-- the statements of a block as a list, each with its line
abbrev pub statements_of : {N : Type 0} → Block N → List (ℕ × Statement N)
statements_of Empty = []
statements_of (Then line statement rest) = (line, statement) ∷ statements_of rest

-- a name as its bytes
abbrev pub Name : Type 0
Name = List ℕ

-- an input or an output at a position, and the tiles that its link passes: None leaves the link free, and no tiles pin it to go directly
pub record PortLine : Type 0 where
  pub name : Name
  pub position : ℕ
  pub via : Option (List ℕ)
  pub line : ℕ

-- a channel, and the tiles that its link passes, as for an input
pub record ChannelLine : Type 0 where
  pub name : Name
  pub via : Option (List ℕ)
  pub line : ℕ

-- a process, its tile, where it is pinned to one, and what it does round after round
pub record ProcessText : Type 0 where
  pub name : Name
  pub at : Option ℕ
  pub body : Block Name
  pub line : ℕ

-- a network: each list in the order of the text
pub record Net : Type 0 where
  pub version : ℕ
  pub tiles : Tiles
  pub inputs : List PortLine
  pub outputs : List PortLine
  pub channels : List ChannelLine
  pub processes : List ProcessText

-- ---- up to lines

abbrev mutual
  -- a statement without its lines
  pub statement_without_lines : {N : Type 0} → Statement N → Statement N
  statement_without_lines (Get read var) = Get read var
  statement_without_lines (GetAdd read var) = GetAdd read var
  statement_without_lines (GetSub read var) = GetSub read var
  statement_without_lines (Put written var) = Put written var
  statement_without_lines (PutNumber written number) = PutNumber written number
  statement_without_lines (Move read written) = Move read written
  statement_without_lines (Set var number) = Set var number
  statement_without_lines (Add var number) = Add var number
  statement_without_lines (Sub var number) = Sub var number
  statement_without_lines (Neg var) = Neg var
  statement_without_lines (Double var) = Double var
  statement_without_lines (Copy to from) = Copy to from
  statement_without_lines Swap = Swap
  statement_without_lines (If var test first second) = If var test (block_without_lines first) (block_without_lines second)
  statement_without_lines (While var test body) = While var test (block_without_lines body)
  statement_without_lines (Count var body) = Count var (block_without_lines body)

  -- a block with 0 in place of each line
  pub block_without_lines : {N : Type 0} → Block N → Block N
  block_without_lines Empty = Empty
  block_without_lines (Then line statement rest) = Then 0 (statement_without_lines statement) (block_without_lines rest)

-- an input or an output without its line
abbrev pub port_without_line : PortLine → PortLine
port_without_line port = record port { line = 0 }

-- a channel without its line
abbrev pub channel_without_line : ChannelLine → ChannelLine
channel_without_line channel = record channel { line = 0 }

-- a process without its lines
abbrev pub process_without_lines : ProcessText → ProcessText
process_without_lines process = record process { body = block_without_lines process.body; line = 0 }

-- a network without its lines: with 0 in place of each
abbrev pub net_without_lines : Net → Net
net_without_lines net =
    record net {
      inputs = map port_without_line net.inputs;
      outputs = map port_without_line net.outputs;
      channels = map channel_without_line net.channels;
      processes = map process_without_lines net.processes;
    }
