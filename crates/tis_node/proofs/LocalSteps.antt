-- An instruction that needs a port leaves the node as it is, and one that needs none waits for none.
use Rattle.std.proofs.Common.{◌≡◌, true, false, List, Option, Some, None, refl}
use Rattle.tis_base.specs.declared.tiles.Dir.{Dir}
use Rattle.tis_asm.specs.declared.instr.Source.{Source}
use Rattle.tis_asm.specs.declared.instr.Instr.{Instr}
use Rattle.tis_asm.specs.declared.program.MarkedInstr.{MarkedInstr}
use Rattle.tis_asm.specs.Node.{Node, Supply, AtHand, AtPort, AtAny, supply_of, source_of, is_at_hand, is_local_with, is_local, does_at_hand, does_by, comes_through, reads_with, reads_from}

stays_at : (supply : Supply) (instr : Instr) (program : List MarkedInstr) (node : Node) → is_at_hand supply ≡ false → does_at_hand supply instr program node ≡ node
stays_at (AtHand value) instr program node is = absurd cc
stays_at (AtPort port) instr program node is = refl
stays_at AtAny instr program node is = refl

pub stays_by : (source : Option Source) (instr : Instr) (program : List MarkedInstr) (node : Node) → is_local_with source node ≡ false → does_by source instr program node ≡ node
stays_by None instr program node is = absurd cc
stays_by (Some source) instr program node is = stays_at (supply_of source node) instr program node is

-- a node that can make a local step waits for no port
at_hand_through_none : (supply : Supply) (dir : Dir) → is_at_hand supply ≡ true → comes_through supply dir ≡ false
at_hand_through_none (AtHand value) dir is = refl
at_hand_through_none (AtPort port) dir is = absurd cc
at_hand_through_none AtAny dir is = absurd cc

local_reads_none : (source : Option Source) (node : Node) (dir : Dir) → is_local_with source node ≡ true → reads_with source node dir ≡ false
local_reads_none None node dir is = refl
local_reads_none (Some source) node dir is = at_hand_through_none (supply_of source node) dir is

pub local_wants_none : (found : Option Instr) (node : Node) (dir : Dir) → is_local found node ≡ true → reads_from found node dir ≡ false
local_wants_none None node dir is = refl
local_wants_none (Some instr) node dir is = local_reads_none (source_of instr) node dir is
