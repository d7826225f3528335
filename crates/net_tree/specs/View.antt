-- What contracts see of the tree of a network: the plain tree.
use Rattle.std.specs.Prelude.{ℕ, List, [], ◌∷◌, map}
use Rattle.net_tree.specs.declared.tree.Statement as held
use Rattle.net_tree.specs.declared.tree.Statement.TheOpen as level
use Rattle.net_tree.specs.declared.tree.Statement.TheFolds as folds
use Rattle.net_tree.specs.declared.tree.Block as held_block
use Rattle.net_tree.specs.declared.tree.PortLine as held_port
use Rattle.net_tree.specs.declared.tree.ChannelLine as held_channel
use Rattle.net_tree.specs.declared.tree.ProcessText as held_process
use Rattle.net_tree.specs.declared.tree.Net as held_net
use Rattle.net_tree.specs.Tree.{Name, Statement, Get, GetAdd, GetSub, Put, PutNumber, Move, Set, Add, Sub, Neg, Double, Copy, Swap, If, While, Count, Block, Empty, Then, PortLine, ChannelLine, ProcessText, Net}

-- a statement with the number of its line
abbrev pub Numbered : Type 0
Numbered = ℕ × Statement Name

-- the block of these statements
abbrev pub block_with : List Numbered → Block Name
block_with [] = Empty
block_with (first ∷ others) = Then first.0 first.1 (block_with others)

-- one level of a statement, of a block and of a statement with its line, where what they hold is seen already
abbrev pub statement_level : level.Statement-F (Statement Name) (Block Name) Numbered → Statement Name
statement_level (level.Get read var) = Get read var
statement_level (level.GetAdd read var) = GetAdd read var
statement_level (level.GetSub read var) = GetSub read var
statement_level (level.Put written var) = Put written var
statement_level (level.PutNumber written number) = PutNumber written number
statement_level (level.Move read written) = Move read written
statement_level (level.Set var number) = Set var number
statement_level (level.Add var number) = Add var number
statement_level (level.Sub var number) = Sub var number
statement_level (level.Neg var) = Neg var
statement_level (level.Double var) = Double var
statement_level (level.Copy to from) = Copy to from
statement_level level.Swap = Swap
statement_level (level.If var test first second) = If var test first second
statement_level (level.While var test body) = While var test body
statement_level (level.Count var body) = Count var body

abbrev pub block_level : level.Block-F (Statement Name) (Block Name) Numbered → Block Name
block_level block = block_with block.statements

abbrev pub numbered_level : level.Numbered-F (Statement Name) (Block Name) Numbered → Numbered
numbered_level numbered = (numbered.line, numbered.statement)

-- a statement as it is held
abbrev pub statement_view : held.Statement → Statement Name
statement_view = folds.fold-Statement (Statement Name) (Block Name) Numbered statement_level block_level numbered_level

-- a block as it is held
abbrev pub block_view : held_block.Block → Block Name
block_view = folds.fold-Block (Statement Name) (Block Name) Numbered statement_level block_level numbered_level

-- an input or an output as it is held
abbrev pub port_view : held_port.PortLine → PortLine
port_view port = record { name = port.name; position = port.position; via = port.via; line = port.line }

-- a channel as it is held
abbrev pub channel_view : held_channel.ChannelLine → ChannelLine
channel_view channel = record { name = channel.name; via = channel.via; line = channel.line }

-- a process as it is held
abbrev pub process_view : held_process.ProcessText → ProcessText
process_view process = record { name = process.name; at = process.at; body = block_view process.body; line = process.line }

-- a network as it is held
abbrev pub net_view : held_net.Net → Net
net_view net =
    record {
      version = net.version;
      tiles = net.tiles;
      inputs = map port_view net.inputs.items;
      outputs = map port_view net.outputs.items;
      channels = map channel_view net.channels.items;
      processes = map process_view net.processes.items;
    }
