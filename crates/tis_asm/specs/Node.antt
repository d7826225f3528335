-- One compute node: what it is, and each thing that it can do, by the instruction at its pc (the TIS-100 Reference Manual; what it leaves open is this project's own choice).
use Rattle.std.specs.Prelude.{◌≡◌, ℕ, ◌+◌, ◌-◌, ◌<◌, min, ℤ, pos, negsuc, ◌+ℤ◌, ◌-ℤ◌, neg_ℤ, Bool, true, false, List, [], ◌∷◌, length, Option, Some, None, option_map, slice_get, nat_lt, ◌==◌, not, if◌then◌else◌}
use Rattle.tis_base.specs.Saturation.{sat, IsValue}
use Rattle.tis_base.specs.declared.tiles.Dir.{Dir}
use Rattle.tis_base.specs.declared.tiles.Dir.TheVariants.{Left, Right, Up, Down}
use Rattle.tis_asm.specs.declared.instr.Source.{Source}
use Rattle.tis_asm.specs.declared.instr.Source.TheVariants as from
use Rattle.tis_asm.specs.declared.instr.Dest.{Dest}
use Rattle.tis_asm.specs.declared.instr.Dest.TheVariants as to
use Rattle.tis_asm.specs.declared.instr.Instr.{Instr}
use Rattle.tis_asm.specs.declared.instr.Jump.{Jump as JumpKind}
use Rattle.tis_asm.specs.declared.instr.Jump.TheVariants as jump
use Rattle.tis_asm.specs.declared.instr.Instr.TheVariants.{Nop, Mov, Swp, Sav, Add, Sub, Neg, Jump, Jro}
use Rattle.tis_asm.specs.declared.program.MarkedInstr.{MarkedInstr}

-- where a value is written to: one port, or the first neighbour that reads
pub data Toward : Type 0 where
  One : (dir : Dir) → Toward
  Any : Toward

-- a node is ready for the instruction at its pc, or it waits until a value that it writes is read
pub data Mode : Type 0 where
  Ready : Mode
  Writing : (value : ℤ) → (toward : Toward) → Mode

-- the number of the instruction, the two registers, the port last used by ANY, and the mode
pub record Node : Type 0 where
  pub pc : ℕ
  pub acc : ℤ
  pub bak : ℤ
  pub last : Option Dir
  pub mode : Mode

-- a node at the start
abbrev pub fresh : Node
fresh = record { pc = 0; acc = pos 0; bak = pos 0; last = None; mode = Ready }

abbrev pub is_same_dir : Dir → Dir → Bool
is_same_dir Left Left = true
is_same_dir Right Right = true
is_same_dir Up Up = true
is_same_dir Down Down = true
is_same_dir _ _ = false

-- the instruction at a number, where the program has one
abbrev pub instr_at : List MarkedInstr → ℕ → Option Instr
instr_at program pc = option_map (λ marked. marked.instr) (slice_get program pc)

-- the number of the next instruction: after the last one the first follows
abbrev pub next_of : List MarkedInstr → ℕ → ℕ
next_of program pc = if nat_lt (pc + 1) (length program) then pc + 1 else 0

-- ready, at the next instruction
abbrev pub goes_on : List MarkedInstr → Node → Node
goes_on program node = record node { pc = next_of program node.pc; mode = Ready }

-- the pc is the number of an instruction, and without instructions it is 0 and the node is ready
abbrev pub StandsIn : List MarkedInstr → Node → Type 0
StandsIn [] node = (node.pc ≡ 0) × (node.mode ≡ Ready)
StandsIn (marked ∷ program) node = node.pc < length (marked ∷ program)

-- the number that a node writes, if it does, is one that the machine holds
abbrev pub ModeHasValue : Mode → Type 0
ModeHasValue Ready = Unit {0}
ModeHasValue (Writing value toward) = IsValue value

-- a node of this program: it stands in it, and its numbers are values of the machine
pub record FitsProgram (program : List MarkedInstr) (node : Node) : Type 0 where
  pub stands : StandsIn program node
  pub acc : IsValue node.acc
  pub bak : IsValue node.bak
  pub mode : ModeHasValue node.mode

-- ---- sources

-- where the value of a source is: at hand, at one port, or at whichever neighbour writes first
pub data Supply : Type 0 where
  AtHand : (value : ℤ) → Supply
  AtPort : (port : Dir) → Supply
  AtAny : Supply

-- LAST is the port that ANY used last, and NIL before it used one
abbrev pub last_supply : Option Dir → Supply
last_supply None = AtHand (pos 0)
last_supply (Some port) = AtPort port

-- where the value of a source is, for a node that is ready
abbrev pub supply_of : Source → Node → Supply
supply_of (from.Number number) node = AtHand number
supply_of from.Acc node = AtHand node.acc
supply_of from.Nil node = AtHand (pos 0)
supply_of (from.Port port) node = AtPort port
supply_of from.Any node = AtAny
supply_of from.Last node = last_supply node.last

-- the source of an instruction, where it has one
abbrev pub source_of : Instr → Option Source
source_of Nop = None
source_of (Mov source dest) = Some source
source_of Swp = None
source_of Sav = None
source_of (Add source) = Some source
source_of (Sub source) = Some source
source_of Neg = None
source_of (Jump jump number) = None
source_of (Jro source) = Some source

-- ---- what instructions do

-- whether a jump is made, by the number in ACC
abbrev pub is_positive : ℤ → Bool
is_positive (pos n) = not (n == 0)
is_positive (negsuc n) = false

abbrev pub is_negative : ℤ → Bool
is_negative (pos n) = false
is_negative (negsuc n) = true

abbrev pub is_zero : ℤ → Bool
is_zero (pos n) = n == 0
is_zero (negsuc n) = false

abbrev pub jumps : JumpKind → ℤ → Bool
jumps jump.Always acc = true
jumps jump.IfZero acc = is_zero acc
jumps jump.IfNotZero acc = not (is_zero acc)
jumps jump.IfPositive acc = is_positive acc
jumps jump.IfNegative acc = is_negative acc

-- ready, at this instruction
abbrev pub goes_to : ℕ → Node → Node
goes_to number node = record node { pc = number; mode = Ready }

-- so many instructions on or back, but not before the first one nor behind the last one
abbrev pub away : List MarkedInstr → ℕ → ℤ → ℕ
away program pc (pos count) = min (pc + count) (length program - 1)
away program pc (negsuc count) = pc - (count + 1)

-- what an instruction does that has no source; one that has a source does nothing without its value
abbrev pub does : Instr → List MarkedInstr → Node → Node
does Nop program node = goes_on program node
does (Mov source dest) program node = node
does Swp program node = goes_on program (record node { acc = node.bak; bak = node.acc })
does Sav program node = goes_on program (record node { bak = node.acc })
does (Add source) program node = node
does (Sub source) program node = node
does Neg program node = goes_on program (record node { acc = sat (neg_ℤ node.acc) })
does (Jump jump number) program node = if jumps jump node.acc then goes_to number node else goes_on program node
does (Jro source) program node = node

-- the node waits, with the pc as it is, until the value is read
abbrev pub writes : ℤ → Toward → Node → Node
writes value toward node = record node { mode = Writing value toward }

-- to LAST: to the port that ANY used last, and before it used one the value is dropped
abbrev pub put_to_last : Option Dir → List MarkedInstr → Node → ℤ → Node
put_to_last None program node value = goes_on program node
put_to_last (Some port) program node value = writes value (One port) node

-- a value goes where the instruction says: into ACC or nowhere, and the node goes on, or to a port, where it waits
abbrev pub put_to : Dest → List MarkedInstr → Node → ℤ → Node
put_to to.Acc program node value = goes_on program (record node { acc = value })
put_to to.Nil program node value = goes_on program node
put_to (to.Port port) program node value = writes value (One port) node
put_to to.Any program node value = writes value Any node
put_to to.Last program node value = put_to_last node.last program node value

-- what an instruction with a source does with its value; one without a source takes none
abbrev pub does_with : Instr → List MarkedInstr → Node → ℤ → Node
does_with Nop program node value = node
does_with (Mov source dest) program node value = put_to dest program node value
does_with Swp program node value = node
does_with Sav program node value = node
does_with (Add source) program node value = goes_on program (record node { acc = sat (node.acc +ℤ value) })
does_with (Sub source) program node value = goes_on program (record node { acc = sat (node.acc -ℤ value) })
does_with Neg program node value = node
does_with (Jump jump number) program node value = node
does_with (Jro source) program node value = goes_to (away program node.pc value) node

-- ---- local steps

-- whether the value is there without a port
abbrev pub is_at_hand : Supply → Bool
is_at_hand (AtHand value) = true
is_at_hand (AtPort port) = false
is_at_hand AtAny = false

-- whether an instruction goes on without a port: it has no source, or its value is at hand
abbrev pub is_local_with : Option Source → Node → Bool
is_local_with None node = true
is_local_with (Some source) node = is_at_hand (supply_of source node)

abbrev pub is_local : Option Instr → Node → Bool
is_local None node = false
is_local (Some instr) node = is_local_with (source_of instr) node

abbrev pub can_local_in : Mode → Option Instr → Node → Bool
can_local_in Ready instr node = is_local instr node
can_local_in (Writing value toward) instr node = false

-- whether the node can make a local step
abbrev pub can_local : List MarkedInstr → Node → Bool
can_local program node = can_local_in node.mode (instr_at program node.pc) node

-- what an instruction does with a value that is at hand
abbrev pub does_at_hand : Supply → Instr → List MarkedInstr → Node → Node
does_at_hand (AtHand value) instr program node = does_with instr program node value
does_at_hand (AtPort port) instr program node = node
does_at_hand AtAny instr program node = node

abbrev pub does_by : Option Source → Instr → List MarkedInstr → Node → Node
does_by None instr program node = does instr program node
does_by (Some source) instr program node = does_at_hand (supply_of source node) instr program node

abbrev pub local_by_instr : Option Instr → List MarkedInstr → Node → Node
local_by_instr None program node = node
local_by_instr (Some instr) program node = does_by (source_of instr) instr program node

-- the node after a local step
abbrev pub local_step : List MarkedInstr → Node → Node
local_step program node = local_by_instr (instr_at program node.pc) program node

-- ---- reading from a port

-- whether the value comes through this port
abbrev pub comes_through : Supply → Dir → Bool
comes_through (AtHand value) dir = false
comes_through (AtPort port) dir = is_same_dir port dir
comes_through AtAny dir = true

abbrev pub reads_with : Option Source → Node → Dir → Bool
reads_with None node dir = false
reads_with (Some source) node dir = comes_through (supply_of source node) dir

-- whether the instruction reads from this port
abbrev pub reads_from : Option Instr → Node → Dir → Bool
reads_from None node dir = false
reads_from (Some instr) node dir = reads_with (source_of instr) node dir

abbrev pub wants_in : Mode → Option Instr → Node → Dir → Bool
wants_in Ready instr node dir = reads_from instr node dir
wants_in (Writing value toward) instr node dir = false

-- whether the node waits for a value from this port
abbrev pub wants : List MarkedInstr → Node → Dir → Bool
wants program node dir = wants_in node.mode (instr_at program node.pc) node dir

-- ANY remembers the port that it used
abbrev pub remembers : Supply → Dir → Node → Node
remembers (AtHand value) dir node = node
remembers (AtPort port) dir node = node
remembers AtAny dir node = record node { last = Some dir }

abbrev pub take_with : Option Source → Instr → List MarkedInstr → Node → Dir → ℤ → Node
take_with None instr program node dir value = node
take_with (Some source) instr program node dir value = does_with instr program (remembers (supply_of source node) dir node) value

abbrev pub take_by_instr : Option Instr → List MarkedInstr → Node → Dir → ℤ → Node
take_by_instr None program node dir value = node
take_by_instr (Some instr) program node dir value = take_with (source_of instr) instr program node dir value

-- the node after it took a value from a port: the port is remembered before the destination is looked at
abbrev pub take_value : List MarkedInstr → Node → Dir → ℤ → Node
take_value program node dir value = take_by_instr (instr_at program node.pc) program node dir value

-- ---- writing to a port

abbrev pub offers_in : Mode → Dir → Option ℤ
offers_in Ready dir = None
offers_in (Writing value (One port)) dir = if is_same_dir port dir then Some value else None
offers_in (Writing value Any) dir = Some value

-- the value that the node gives to whoever reads from this port, where it gives one
abbrev pub offers : Node → Dir → Option ℤ
offers node dir = offers_in node.mode dir

-- the port last used by ANY, once a value went this way
abbrev pub last_after : Mode → Dir → Option Dir → Option Dir
last_after Ready dir last = last
last_after (Writing value (One port)) dir last = last
last_after (Writing value Any) dir last = Some dir

-- the node after it gave its value to a port
abbrev pub gave : List MarkedInstr → Node → Dir → Node
gave program node dir = goes_on program (record node { last = last_after node.mode dir node.last })
