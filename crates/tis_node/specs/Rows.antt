-- An instruction that needs no port, as a row of numbers.
use Rattle.std.specs.Prelude.{◌≡◌, ℕ, zero, suc, ℤ, pos, negsuc, ◌+ℤ◌, ◌*ℤ◌, neg_ℤ, Bool, true, false, IsTrue, List, [], ◌∷◌, length, get_or, Option, Some, None, if◌then◌else◌}
use Rattle.tis_base.specs.Saturation.{sat, IsValue}
use Rattle.tis_base.specs.declared.tiles.Dir.{Dir}
use Rattle.tis_asm.specs.declared.instr.Source.{Source}
use Rattle.tis_asm.specs.declared.instr.Source.TheVariants as from
use Rattle.tis_asm.specs.declared.instr.Dest.{Dest}
use Rattle.tis_asm.specs.declared.instr.Dest.TheVariants as to
use Rattle.tis_asm.specs.declared.instr.Instr.{Instr}
use Rattle.tis_asm.specs.declared.instr.Instr.TheVariants.{Nop, Mov, Swp, Sav, Add, Sub, Neg, Jump, Jro}
use Rattle.tis_asm.specs.declared.instr.Jump.{Jump as JumpKind}
use Rattle.tis_asm.specs.declared.program.MarkedInstr.{MarkedInstr}
use Rattle.tis_asm.specs.Node.{Node, Ready, One, writes, is_same_dir, instr_at, next_of, away, jumps, is_local, local_by_instr, reads_from}
use Rattle.tis_node.specs.declared.row.Row.{Row}

-- ---- a step by a row

-- the place among three by the sign of a number: below 0, 0, above 0
abbrev pub sign_place : ℤ → ℕ
sign_place (negsuc n) = 0
sign_place (pos zero) = 1
sign_place (pos (suc n)) = 2

abbrev pub acc_by : Row → ℤ → ℤ → ℤ
acc_by row acc bak = sat (row.of_acc *ℤ acc +ℤ row.of_bak *ℤ bak +ℤ row.plus)

abbrev pub bak_by : Row → ℤ → ℤ → ℤ
bak_by row acc bak = if row.saves then acc else bak

abbrev pub pc_by : Row → ℤ → ℕ
pc_by row acc = get_or row.next (sign_place acc) 0

-- the node after a step by a row
abbrev pub by_row : Row → Node → Node
by_row row node = record { pc = pc_by row node.acc; acc = acc_by row node.acc node.bak; bak = bak_by row node.acc node.bak; last = node.last; mode = Ready }

-- a row tells what the instruction at a number does, if it tells anything: it needs no port, and leads where the row leads
abbrev pub Tells : Row → Option Instr → List MarkedInstr → ℕ → Type 0
Tells row instr program pc = IsTrue row.tells → (node : Node) → node.pc ≡ pc → IsValue node.acc → IsValue node.bak → IsTrue (is_local instr node) × (local_by_instr instr program node ≡ by_row row node)

-- the instruction reads from the port that the row has, if it has one
abbrev pub Waits : Option Dir → Option Instr → Type 0
Waits None instr = Unit {0}
Waits (Some port) instr = (node : Node) → (is_local instr node ≡ false) × ((dir : Dir) → reads_from instr node dir ≡ is_same_dir port dir)

-- the instruction needs no port to go on and writes to the port that the row has, if it has one, the number that would be ACC behind a step by the row
abbrev pub SendsTo : Option Dir → Row → Option Instr → List MarkedInstr → Type 0
SendsTo None row instr program = Unit {0}
SendsTo (Some port) row instr program = (node : Node) → IsValue node.acc → IsTrue (is_local instr node) × (local_by_instr instr program node ≡ writes (acc_by row node.acc node.bak) (One port) node)

abbrev pub Sends : Row → Option Instr → List MarkedInstr → Type 0
Sends row instr program = SendsTo row.sends row instr program

-- ---- the row of an instruction

-- of one of another kind
abbrev pub silent : Row
silent = record { tells = false; waits = None; sends = None; of_acc = pos 0; of_bak = pos 0; plus = pos 0; saves = false; next = 0 ∷ 0 ∷ 0 ∷ [] }

-- of one that reads from a port
abbrev pub waiting : Dir → Row
waiting port = record { tells = false; waits = Some port; sends = None; of_acc = pos 0; of_bak = pos 0; plus = pos 0; saves = false; next = 0 ∷ 0 ∷ 0 ∷ [] }

-- of one that writes so many times ACC and a number to a port
abbrev pub sending : ℤ → ℤ → Dir → Row
sending of_acc plus port = record { tells = false; waits = None; sends = Some port; of_acc = of_acc; of_bak = pos 0; plus = plus; saves = false; next = 0 ∷ 0 ∷ 0 ∷ [] }

-- of one that goes on the same whatever ACC is
abbrev pub straight : ℤ → ℤ → ℤ → Bool → ℕ → Row
straight of_acc of_bak plus saves next = record { tells = true; waits = None; sends = None; of_acc = of_acc; of_bak = of_bak; plus = plus; saves = saves; next = next ∷ next ∷ next ∷ [] }

-- of one that does nothing but go on
abbrev pub going_on : ℕ → Row
going_on next = straight (pos 1) (pos 0) (pos 0) false next

-- of one that moves a value into ACC
abbrev pub moving : Source → ℕ → Row
moving (from.Number number) next = straight (pos 0) (pos 0) number false next
moving from.Acc next = going_on next
moving from.Nil next = straight (pos 0) (pos 0) (pos 0) false next
moving (from.Port port) next = waiting port
moving from.Any next = silent
moving from.Last next = silent

-- of one that drops a value
abbrev pub dropping : Source → ℕ → Row
dropping (from.Number number) next = going_on next
dropping from.Acc next = going_on next
dropping from.Nil next = going_on next
dropping (from.Port port) next = waiting port
dropping from.Any next = silent
dropping from.Last next = silent

-- of one that moves a value to a port that is named
abbrev pub sending_to : Source → Dir → Row
sending_to (from.Number number) port = sending (pos 0) number port
sending_to from.Acc port = sending (pos 1) (pos 0) port
sending_to from.Nil port = sending (pos 0) (pos 0) port
sending_to (from.Port from_port) port = waiting from_port
sending_to from.Any port = silent
sending_to from.Last port = silent

-- of one that moves a value to ANY or LAST
abbrev pub writing : Source → Row
writing (from.Port port) = waiting port
writing (from.Number number) = silent
writing from.Acc = silent
writing from.Nil = silent
writing from.Any = silent
writing from.Last = silent

-- of one that moves a value
abbrev pub moving_to : Source → Dest → ℕ → Row
moving_to source to.Acc next = moving source next
moving_to source to.Nil next = dropping source next
moving_to source (to.Port port) next = sending_to source port
moving_to source to.Any next = writing source
moving_to source to.Last next = writing source

-- of one that adds a value
abbrev pub adding : Source → ℕ → Row
adding (from.Number number) next = straight (pos 1) (pos 0) number false next
adding from.Acc next = straight (pos 2) (pos 0) (pos 0) false next
adding from.Nil next = going_on next
adding (from.Port port) next = waiting port
adding from.Any next = silent
adding from.Last next = silent

-- of one that takes a value away
abbrev pub taking_away : Source → ℕ → Row
taking_away (from.Number number) next = straight (pos 1) (pos 0) (neg_ℤ number) false next
taking_away from.Acc next = straight (pos 0) (pos 0) (pos 0) false next
taking_away from.Nil next = going_on next
taking_away (from.Port port) next = waiting port
taking_away from.Any next = silent
taking_away from.Last next = silent

-- of one that goes so many instructions on or back
abbrev pub going_away : Source → List MarkedInstr → ℕ → Row
going_away (from.Number number) program pc = going_on (away program pc number)
going_away from.Nil program pc = going_on pc
going_away from.Acc program pc = silent
going_away (from.Port port) program pc = waiting port
going_away from.Any program pc = silent
going_away from.Last program pc = silent

-- where a jump leads with such a number in ACC
abbrev pub jump_to : JumpKind → ℤ → ℕ → ℕ → ℕ
jump_to jump acc number next = if jumps jump acc then number else next

-- of a jump
abbrev pub jumping : JumpKind → ℕ → ℕ → Row
jumping jump number next = record (going_on next) { next = jump_to jump (negsuc 0) number next ∷ jump_to jump (pos 0) number next ∷ jump_to jump (pos 1) number next ∷ [] }

-- of any instruction, at its number
abbrev pub row_of : Instr → List MarkedInstr → ℕ → Row
row_of Nop program pc = going_on (next_of program pc)
row_of Swp program pc = straight (pos 0) (pos 1) (pos 0) true (next_of program pc)
row_of Sav program pc = straight (pos 1) (pos 0) (pos 0) true (next_of program pc)
row_of Neg program pc = straight (negsuc 0) (pos 0) (pos 0) false (next_of program pc)
row_of (Mov source dest) program pc = moving_to source dest (next_of program pc)
row_of (Add source) program pc = adding source (next_of program pc)
row_of (Sub source) program pc = taking_away source (next_of program pc)
row_of (Jro source) program pc = going_away source program pc
row_of (Jump jump number) program pc = jumping jump number (next_of program pc)

-- it says what is true of the instruction at a number
abbrev pub IsTold : Row → List MarkedInstr → ℕ → Type 0
IsTold row program pc = Tells row (instr_at program pc) program pc × Waits row.waits (instr_at program pc) × Sends row (instr_at program pc) program

-- there are fifteen rows, and each says what is true of the instruction at its number
abbrev pub HasRows : List Row → List MarkedInstr → Type 0
HasRows rows program = (length rows ≡ 15) × ((pc : ℕ) → IsTold (get_or rows pc silent) program pc)
