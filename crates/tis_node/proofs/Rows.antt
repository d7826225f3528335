-- The row of an instruction tells what the instruction does.
use Rattle.std.proofs.Common.{◌≡◌, ℕ, zero, suc, ◌<◌, ℤ, pos, negsuc, Bool, true, false, List, [], ◌∷◌, length, get_or, replicate, set, length-set, Option, Some, None, inl, inr, refl, sym, ap, subst, ◌∙◌, arith}
use Rattle.std.specs.Prelude.{◌+ℤ◌, ◌-ℤ◌, ◌*ℤ◌, neg_ℤ, ◌==◌, not, IsTrue, if◌then◌else◌}
use Rattle.std.proofs.lemmas.Bool.{cases_eq, cases_lt, ne_eqb}
use Rattle.std.proofs.lemmas.Int.{ints}
use Rattle.std.proofs.lemmas.List.{get_or-set_same, get_or-set_other, set_past}
use lib.IntN.{one, zero-*ℤ, *ℤ-one, *ℤ_comm}
use Rattle.tis_base.specs.Saturation.{sat, IsValue}
use Rattle.tis_base.specs.declared.tiles.Dir.{Dir}
use Rattle.tis_base.proofs.Saturating.{sat_value}
use Rattle.tis_asm.specs.declared.instr.Source.{Source}
use Rattle.tis_asm.specs.declared.instr.Source.TheVariants as from
use Rattle.tis_asm.specs.declared.instr.Dest.{Dest}
use Rattle.tis_asm.specs.declared.instr.Dest.TheVariants as to
use Rattle.tis_asm.specs.declared.instr.Instr.{Instr}
use Rattle.tis_asm.specs.declared.instr.Instr.TheVariants.{Nop, Mov, Swp, Sav, Add, Sub, Neg, Jump, Jro}
use Rattle.tis_asm.specs.declared.instr.Jump.{Jump as JumpKind}
use Rattle.tis_asm.specs.declared.instr.Jump.TheVariants as jump
use Rattle.tis_asm.specs.declared.program.MarkedInstr.{MarkedInstr}
use Rattle.tis_asm.specs.Programs.{SourceHasValue, InstrHasValue, HasValues}
use Rattle.tis_asm.specs.Node.{Node, Ready, One, writes, instr_at, next_of, away, jumps, is_local, local_by_instr}
use Rattle.tis_node.specs.declared.row.Row.{Row}
use Rattle.tis_node.specs.Rows.{sign_place, pc_by, by_row, Tells, Waits, SendsTo, Sends, IsTold, silent, waiting, writing, sending_to, straight, going_on, moving, dropping, moving_to, adding, taking_away, going_away, jumping, row_of, HasRows}

-- ---- sums of so many times two numbers

none_of : (z : ℤ) → pos 0 *ℤ z ≡ pos 0
none_of z = zero-*ℤ z

one_of : (z : ℤ) → pos 1 *ℤ z ≡ z
unfolding one
one_of z = *ℤ_comm (pos 1) z ∙ *ℤ-one z

two_of : (z : ℤ) → pos 2 *ℤ z ≡ z +ℤ z
two_of (pos n) = ap pos (omega arith)
two_of (negsuc n) = omega (arith, ints)

minus_one_of : (z : ℤ) → negsuc 0 *ℤ z ≡ neg_ℤ z
minus_one_of (pos n) = ap (λ m. neg_ℤ (pos m)) (omega arith)
minus_one_of (negsuc n) = ap pos (omega arith)

-- the sum of what the parts are
sum_is : (x y z x' y' : ℤ) → x ≡ x' → y ≡ y' → x +ℤ y +ℤ z ≡ x' +ℤ y' +ℤ z
sum_is x y z x' y' p q = λ i. p i +ℤ q i +ℤ z

acc_alone : (acc bak plus : ℤ) → pos 1 *ℤ acc +ℤ pos 0 *ℤ bak +ℤ plus ≡ acc +ℤ plus
acc_alone acc bak plus = sum_is _ _ plus _ _ (one_of acc) (none_of bak) ∙ omega (arith, ints)

number_alone : (acc bak plus : ℤ) → pos 0 *ℤ acc +ℤ pos 0 *ℤ bak +ℤ plus ≡ plus
number_alone acc bak plus = sum_is _ _ plus _ _ (none_of acc) (none_of bak) ∙ omega (arith, ints)

acc_kept : (acc bak : ℤ) → pos 1 *ℤ acc +ℤ pos 0 *ℤ bak +ℤ pos 0 ≡ acc
acc_kept acc bak = acc_alone acc bak (pos 0) ∙ omega (arith, ints)

bak_alone : (acc bak : ℤ) → pos 0 *ℤ acc +ℤ pos 1 *ℤ bak +ℤ pos 0 ≡ bak
bak_alone acc bak = sum_is _ _ (pos 0) _ _ (none_of acc) (one_of bak) ∙ omega (arith, ints)

acc_twice : (acc bak : ℤ) → pos 2 *ℤ acc +ℤ pos 0 *ℤ bak +ℤ pos 0 ≡ acc +ℤ acc
acc_twice acc bak = sum_is _ _ (pos 0) _ _ (two_of acc) (none_of bak) ∙ omega (arith, ints)

acc_turned : (acc bak : ℤ) → negsuc 0 *ℤ acc +ℤ pos 0 *ℤ bak +ℤ pos 0 ≡ neg_ℤ acc
acc_turned acc bak = sum_is _ _ (pos 0) _ _ (minus_one_of acc) (none_of bak) ∙ omega (arith, ints)

acc_gone : (acc : ℤ) → pos 0 ≡ acc -ℤ acc
acc_gone acc = omega (arith, ints)

-- ---- a step by a row

-- three places that are alike
three_alike : (next : ℕ) (acc : ℤ) → get_or (next ∷ next ∷ next ∷ []) (sign_place acc) 0 ≡ next
three_alike next (negsuc n) = refl
three_alike next (pos zero) = refl
three_alike next (pos (suc n)) = refl

-- a node with what the row gives is the one behind a step by it
leads_straight : (of_acc of_bak plus : ℤ) (saves : Bool) (next : ℕ) (node : Node) (acc bak : ℤ) → acc ≡ sat (of_acc *ℤ node.acc +ℤ of_bak *ℤ node.bak +ℤ plus) → bak ≡ (if saves then node.acc else node.bak)
    → record { pc = next; acc = acc; bak = bak; last = node.last; mode = Ready } ≡ by_row (straight of_acc of_bak plus saves next) node
leads_straight of_acc of_bak plus saves next node acc bak acc_is bak_is = λ i. record { pc = sym (three_alike next node.acc) i; acc = acc_is i; bak = bak_is i; last = node.last; mode = Ready }

-- one that goes on, whatever its number is
leads_on : (next : ℕ) (node : Node) → IsValue node.acc → record { pc = next; acc = node.acc; bak = node.bak; last = node.last; mode = Ready } ≡ by_row (going_on next) node
leads_on next node is = leads_straight (pos 1) (pos 0) (pos 0) false next node node.acc node.bak (sym (ap sat (acc_kept node.acc node.bak) ∙ sat_value node.acc is)) refl

-- ---- each instruction

-- the instruction at the pc of a node is local, and leads where its row leads
abbrev Leads : Row → Instr → List MarkedInstr → Node → Type 0
Leads row instr program node = IsTrue row.tells → IsValue node.acc → IsValue node.bak → IsTrue (is_local (Some instr) node) × (local_by_instr (Some instr) program node ≡ by_row row node)

moving_leads : (source : Source) (program : List MarkedInstr) (node : Node) → SourceHasValue source → Leads (moving source (next_of program node.pc)) (Mov source to.Acc) program node
moving_leads (from.Number number) program node has tells acc bak = (refl, leads_straight (pos 0) (pos 0) number false (next_of program node.pc) node number node.bak (sym (ap sat (number_alone node.acc node.bak number) ∙ sat_value number has)) refl)
moving_leads from.Acc program node has tells acc bak = (refl, leads_on (next_of program node.pc) node acc)
moving_leads from.Nil program node has tells acc bak = (refl, leads_straight (pos 0) (pos 0) (pos 0) false (next_of program node.pc) node (pos 0) node.bak (sym (ap sat (number_alone node.acc node.bak (pos 0)))) refl)
moving_leads (from.Port port) program node has tells acc bak = absurd cc
moving_leads from.Any program node has tells acc bak = absurd cc
moving_leads from.Last program node has tells acc bak = absurd cc

dropping_leads : (source : Source) (program : List MarkedInstr) (node : Node) → Leads (dropping source (next_of program node.pc)) (Mov source to.Nil) program node
dropping_leads (from.Number number) program node tells acc bak = (refl, leads_on (next_of program node.pc) node acc)
dropping_leads from.Acc program node tells acc bak = (refl, leads_on (next_of program node.pc) node acc)
dropping_leads from.Nil program node tells acc bak = (refl, leads_on (next_of program node.pc) node acc)
dropping_leads (from.Port port) program node tells acc bak = absurd cc
dropping_leads from.Any program node tells acc bak = absurd cc
dropping_leads from.Last program node tells acc bak = absurd cc

writing_tells_nothing : (source : Source) → IsTrue (writing source).tells → ⊥
writing_tells_nothing (from.Number number) tells = cc
writing_tells_nothing from.Acc tells = cc
writing_tells_nothing from.Nil tells = cc
writing_tells_nothing (from.Port port) tells = cc
writing_tells_nothing from.Any tells = cc
writing_tells_nothing from.Last tells = cc

sending_tells_nothing : (source : Source) (port : Dir) → IsTrue (sending_to source port).tells → ⊥
sending_tells_nothing (from.Number number) port tells = cc
sending_tells_nothing from.Acc port tells = cc
sending_tells_nothing from.Nil port tells = cc
sending_tells_nothing (from.Port from_port) port tells = cc
sending_tells_nothing from.Any port tells = cc
sending_tells_nothing from.Last port tells = cc

moving_to_leads : (source : Source) (dest : Dest) (program : List MarkedInstr) (node : Node) → SourceHasValue source → Leads (moving_to source dest (next_of program node.pc)) (Mov source dest) program node
moving_to_leads source to.Acc program node has tells acc bak = moving_leads source program node has tells acc bak
moving_to_leads source to.Nil program node has tells acc bak = dropping_leads source program node tells acc bak
moving_to_leads source (to.Port port) program node has tells acc bak = absurd (sending_tells_nothing source port tells)
moving_to_leads source to.Any program node has tells acc bak = absurd (writing_tells_nothing source tells)
moving_to_leads source to.Last program node has tells acc bak = absurd (writing_tells_nothing source tells)

adding_leads : (source : Source) (program : List MarkedInstr) (node : Node) → Leads (adding source (next_of program node.pc)) (Add source) program node
adding_leads (from.Number number) program node tells acc bak = (refl, leads_straight (pos 1) (pos 0) number false (next_of program node.pc) node (sat (node.acc +ℤ number)) node.bak (sym (ap sat (acc_alone node.acc node.bak number))) refl)
adding_leads from.Acc program node tells acc bak = (refl, leads_straight (pos 2) (pos 0) (pos 0) false (next_of program node.pc) node (sat (node.acc +ℤ node.acc)) node.bak (sym (ap sat (acc_twice node.acc node.bak))) refl)
adding_leads from.Nil program node tells acc bak = (refl, leads_straight (pos 1) (pos 0) (pos 0) false (next_of program node.pc) node (sat (node.acc +ℤ pos 0)) node.bak (sym (ap sat (acc_alone node.acc node.bak (pos 0)))) refl)
adding_leads (from.Port port) program node tells acc bak = absurd cc
adding_leads from.Any program node tells acc bak = absurd cc
adding_leads from.Last program node tells acc bak = absurd cc

taking_away_leads : (source : Source) (program : List MarkedInstr) (node : Node) → Leads (taking_away source (next_of program node.pc)) (Sub source) program node
taking_away_leads (from.Number number) program node tells acc bak = (refl, leads_straight (pos 1) (pos 0) (neg_ℤ number) false (next_of program node.pc) node (sat (node.acc -ℤ number)) node.bak (sym (ap sat (acc_alone node.acc node.bak (neg_ℤ number)))) refl)
taking_away_leads from.Acc program node tells acc bak = (refl, leads_straight (pos 0) (pos 0) (pos 0) false (next_of program node.pc) node (sat (node.acc -ℤ node.acc)) node.bak (sym (ap sat (number_alone node.acc node.bak (pos 0) ∙ acc_gone node.acc))) refl)
taking_away_leads from.Nil program node tells acc bak = (refl, leads_straight (pos 1) (pos 0) (pos 0) false (next_of program node.pc) node (sat (node.acc -ℤ pos 0)) node.bak (sym (ap sat (acc_alone node.acc node.bak (pos 0)))) refl)
taking_away_leads (from.Port port) program node tells acc bak = absurd cc
taking_away_leads from.Any program node tells acc bak = absurd cc
taking_away_leads from.Last program node tells acc bak = absurd cc

-- no step away from an instruction leads to it
away_none : (program : List MarkedInstr) (pc : ℕ) → pc < length program → away program pc (pos 0) ≡ pc
away_none program pc below = omega arith

going_away_leads : (source : Source) (program : List MarkedInstr) (node : Node) → node.pc < length program → Leads (going_away source program node.pc) (Jro source) program node
going_away_leads (from.Number number) program node below tells acc bak = (refl, leads_on (away program node.pc number) node acc)
going_away_leads from.Nil program node below tells acc bak = (refl, ap (λ (n : ℕ). record node { pc = n; mode = Ready }) (away_none program node.pc below) ∙ leads_on node.pc node acc)
going_away_leads from.Acc program node below tells acc bak = absurd cc
going_away_leads (from.Port port) program node below tells acc bak = absurd cc
going_away_leads from.Any program node below tells acc bak = absurd cc
going_away_leads from.Last program node below tells acc bak = absurd cc

above_zero : (n : ℕ) → (suc n == 0) ≡ false
above_zero n = ne_eqb (suc n) 0 (λ same. omega arith)

-- a jump is made by the sign of ACC alone
jumps_by_sign : (kind : JumpKind) (acc : ℤ) (number next : ℕ) → (if jumps kind acc then number else next) ≡ pc_by (jumping kind number next) acc
jumps_by_sign jump.Always (negsuc n) number next = refl
jumps_by_sign jump.Always (pos zero) number next = refl
jumps_by_sign jump.Always (pos (suc n)) number next = refl
jumps_by_sign jump.IfZero (negsuc n) number next = refl
jumps_by_sign jump.IfZero (pos zero) number next = refl
jumps_by_sign jump.IfZero (pos (suc n)) number next = ap (λ (b : Bool). if b then number else next) (above_zero n)
jumps_by_sign jump.IfNotZero (negsuc n) number next = refl
jumps_by_sign jump.IfNotZero (pos zero) number next = refl
jumps_by_sign jump.IfNotZero (pos (suc n)) number next = ap (λ (b : Bool). if not b then number else next) (above_zero n)
jumps_by_sign jump.IfPositive (negsuc n) number next = refl
jumps_by_sign jump.IfPositive (pos zero) number next = refl
jumps_by_sign jump.IfPositive (pos (suc n)) number next = ap (λ (b : Bool). if not b then number else next) (above_zero n)
jumps_by_sign jump.IfNegative (negsuc n) number next = refl
jumps_by_sign jump.IfNegative (pos zero) number next = refl
jumps_by_sign jump.IfNegative (pos (suc n)) number next = refl

-- a choice between two nodes that differ in their pc
chosen_pc : (jumped : Bool) (number next : ℕ) (node : Node) → (if jumped then record node { pc = number; mode = Ready } else record node { pc = next; mode = Ready }) ≡ record node { pc = if jumped then number else next; mode = Ready }
chosen_pc true number next node = refl
chosen_pc false number next node = refl

jumping_leads : (kind : JumpKind) (number : ℕ) (program : List MarkedInstr) (node : Node) → Leads (jumping kind number (next_of program node.pc)) (Jump kind number) program node
jumping_leads kind number program node tells acc bak =
    let next = next_of program node.pc in (
      refl,
      chosen_pc (jumps kind node.acc) number next node
          ∙ (λ i. record { pc = jumps_by_sign kind node.acc number next i; acc = sym (ap sat (acc_kept node.acc node.bak) ∙ sat_value node.acc acc) i; bak = node.bak; last = node.last; mode = Ready }),
    )

leads : (instr : Instr) (program : List MarkedInstr) (node : Node) → node.pc < length program → InstrHasValue instr → Leads (row_of instr program node.pc) instr program node
leads Nop program node below has tells acc bak = (refl, leads_on (next_of program node.pc) node acc)
leads Swp program node below has tells acc bak = (refl, leads_straight (pos 0) (pos 1) (pos 0) true (next_of program node.pc) node node.bak node.acc (sym (ap sat (bak_alone node.acc node.bak) ∙ sat_value node.bak bak)) refl)
leads Sav program node below has tells acc bak = (refl, leads_straight (pos 1) (pos 0) (pos 0) true (next_of program node.pc) node node.acc node.acc (sym (ap sat (acc_kept node.acc node.bak) ∙ sat_value node.acc acc)) refl)
leads Neg program node below has tells acc bak = (refl, leads_straight (negsuc 0) (pos 0) (pos 0) false (next_of program node.pc) node (sat (neg_ℤ node.acc)) node.bak (sym (ap sat (acc_turned node.acc node.bak))) refl)
leads (Mov source dest) program node below has tells acc bak = moving_to_leads source dest program node has tells acc bak
leads (Add source) program node below has tells acc bak = adding_leads source program node tells acc bak
leads (Sub source) program node below has tells acc bak = taking_away_leads source program node tells acc bak
leads (Jro source) program node below has tells acc bak = going_away_leads source program node below tells acc bak
leads (Jump kind number) program node below has tells acc bak = jumping_leads kind number program node tells acc bak

-- the row of the instruction at a number tells what it does
pub row_tells : (instr : Instr) (program : List MarkedInstr) (pc : ℕ) → pc < length program → InstrHasValue instr → Tells (row_of instr program pc) (Some instr) program pc
row_tells instr program pc below has tells node at acc bak =
    subst (λ (p : ℕ). IsTrue (row_of instr program p).tells → IsTrue (is_local (Some instr) node) × (local_by_instr (Some instr) program node ≡ by_row (row_of instr program p) node)) at
    (λ t. leads instr program node (subst (λ (p : ℕ). p < length program) (sym at) below) has t acc bak) tells

-- ---- the port that is read

waits_moving : (source : Source) (next : ℕ) → Waits (moving source next).waits (Some (Mov source to.Acc))
waits_moving (from.Port port) next = λ node. (refl, λ dir. refl)
waits_moving (from.Number number) next = tt
waits_moving from.Acc next = tt
waits_moving from.Nil next = tt
waits_moving from.Any next = tt
waits_moving from.Last next = tt

waits_dropping : (source : Source) (next : ℕ) → Waits (dropping source next).waits (Some (Mov source to.Nil))
waits_dropping (from.Port port) next = λ node. (refl, λ dir. refl)
waits_dropping (from.Number number) next = tt
waits_dropping from.Acc next = tt
waits_dropping from.Nil next = tt
waits_dropping from.Any next = tt
waits_dropping from.Last next = tt

waits_writing : (source : Source) (dest : Dest) → Waits (writing source).waits (Some (Mov source dest))
waits_writing (from.Port port) dest = λ node. (refl, λ dir. refl)
waits_writing (from.Number number) dest = tt
waits_writing from.Acc dest = tt
waits_writing from.Nil dest = tt
waits_writing from.Any dest = tt
waits_writing from.Last dest = tt

waits_sending : (source : Source) (port : Dir) → Waits (sending_to source port).waits (Some (Mov source (to.Port port)))
waits_sending (from.Port from_port) port = λ node. (refl, λ dir. refl)
waits_sending (from.Number number) port = tt
waits_sending from.Acc port = tt
waits_sending from.Nil port = tt
waits_sending from.Any port = tt
waits_sending from.Last port = tt

waits_moving_to : (source : Source) (dest : Dest) (next : ℕ) → Waits (moving_to source dest next).waits (Some (Mov source dest))
waits_moving_to source to.Acc next = waits_moving source next
waits_moving_to source to.Nil next = waits_dropping source next
waits_moving_to source (to.Port port) next = waits_sending source port
waits_moving_to source to.Any next = waits_writing source to.Any
waits_moving_to source to.Last next = waits_writing source to.Last

waits_adding : (source : Source) (next : ℕ) → Waits (adding source next).waits (Some (Add source))
waits_adding (from.Port port) next = λ node. (refl, λ dir. refl)
waits_adding (from.Number number) next = tt
waits_adding from.Acc next = tt
waits_adding from.Nil next = tt
waits_adding from.Any next = tt
waits_adding from.Last next = tt

waits_taking_away : (source : Source) (next : ℕ) → Waits (taking_away source next).waits (Some (Sub source))
waits_taking_away (from.Port port) next = λ node. (refl, λ dir. refl)
waits_taking_away (from.Number number) next = tt
waits_taking_away from.Acc next = tt
waits_taking_away from.Nil next = tt
waits_taking_away from.Any next = tt
waits_taking_away from.Last next = tt

waits_going_away : (source : Source) (program : List MarkedInstr) (pc : ℕ) → Waits (going_away source program pc).waits (Some (Jro source))
waits_going_away (from.Port port) program pc = λ node. (refl, λ dir. refl)
waits_going_away (from.Number number) program pc = tt
waits_going_away from.Acc program pc = tt
waits_going_away from.Nil program pc = tt
waits_going_away from.Any program pc = tt
waits_going_away from.Last program pc = tt

row_waits : (instr : Instr) (program : List MarkedInstr) (pc : ℕ) → Waits (row_of instr program pc).waits (Some instr)
row_waits Nop program pc = tt
row_waits Swp program pc = tt
row_waits Sav program pc = tt
row_waits Neg program pc = tt
row_waits (Mov source dest) program pc = waits_moving_to source dest (next_of program pc)
row_waits (Add source) program pc = waits_adding source (next_of program pc)
row_waits (Sub source) program pc = waits_taking_away source (next_of program pc)
row_waits (Jro source) program pc = waits_going_away source program pc
row_waits (Jump kind number) program pc = tt

-- ---- the port that is written to

sends_to_port : (source : Source) (port : Dir) (program : List MarkedInstr) → SourceHasValue source → Sends (sending_to source port) (Some (Mov source (to.Port port))) program
sends_to_port (from.Number number) port program has = λ node acc. (refl, ap (λ (z : ℤ). writes z (One port) node) (sym (ap sat (number_alone node.acc node.bak number) ∙ sat_value number has)))
sends_to_port from.Acc port program has = λ node acc. (refl, ap (λ (z : ℤ). writes z (One port) node) (sym (ap sat (acc_kept node.acc node.bak) ∙ sat_value node.acc acc)))
sends_to_port from.Nil port program has = λ node acc. (refl, ap (λ (z : ℤ). writes z (One port) node) (sym (ap sat (number_alone node.acc node.bak (pos 0)))))
sends_to_port (from.Port from_port) port program has = tt
sends_to_port from.Any port program has = tt
sends_to_port from.Last port program has = tt

-- the rows of all others write to no port
moving_sends_none : (source : Source) (next : ℕ) → (moving source next).sends ≡ None
moving_sends_none (from.Number number) next = refl
moving_sends_none from.Acc next = refl
moving_sends_none from.Nil next = refl
moving_sends_none (from.Port port) next = refl
moving_sends_none from.Any next = refl
moving_sends_none from.Last next = refl

dropping_sends_none : (source : Source) (next : ℕ) → (dropping source next).sends ≡ None
dropping_sends_none (from.Number number) next = refl
dropping_sends_none from.Acc next = refl
dropping_sends_none from.Nil next = refl
dropping_sends_none (from.Port port) next = refl
dropping_sends_none from.Any next = refl
dropping_sends_none from.Last next = refl

writing_sends_none : (source : Source) → (writing source).sends ≡ None
writing_sends_none (from.Number number) = refl
writing_sends_none from.Acc = refl
writing_sends_none from.Nil = refl
writing_sends_none (from.Port port) = refl
writing_sends_none from.Any = refl
writing_sends_none from.Last = refl

adding_sends_none : (source : Source) (next : ℕ) → (adding source next).sends ≡ None
adding_sends_none (from.Number number) next = refl
adding_sends_none from.Acc next = refl
adding_sends_none from.Nil next = refl
adding_sends_none (from.Port port) next = refl
adding_sends_none from.Any next = refl
adding_sends_none from.Last next = refl

taking_away_sends_none : (source : Source) (next : ℕ) → (taking_away source next).sends ≡ None
taking_away_sends_none (from.Number number) next = refl
taking_away_sends_none from.Acc next = refl
taking_away_sends_none from.Nil next = refl
taking_away_sends_none (from.Port port) next = refl
taking_away_sends_none from.Any next = refl
taking_away_sends_none from.Last next = refl

going_away_sends_none : (source : Source) (program : List MarkedInstr) (pc : ℕ) → (going_away source program pc).sends ≡ None
going_away_sends_none (from.Number number) program pc = refl
going_away_sends_none from.Acc program pc = refl
going_away_sends_none from.Nil program pc = refl
going_away_sends_none (from.Port port) program pc = refl
going_away_sends_none from.Any program pc = refl
going_away_sends_none from.Last program pc = refl

-- a row without such a port says nothing of it
says_nothing : (row : Row) (instr : Option Instr) (program : List MarkedInstr) → row.sends ≡ None → Sends row instr program
says_nothing row instr program none = subst (λ (o : Option Dir). SendsTo o row instr program) (sym none) tt

row_sends : (instr : Instr) (program : List MarkedInstr) (pc : ℕ) → InstrHasValue instr → Sends (row_of instr program pc) (Some instr) program
row_sends Nop program pc has = tt
row_sends Swp program pc has = tt
row_sends Sav program pc has = tt
row_sends Neg program pc has = tt
row_sends (Mov source to.Acc) program pc has = says_nothing _ _ program (moving_sends_none source (next_of program pc))
row_sends (Mov source to.Nil) program pc has = says_nothing _ _ program (dropping_sends_none source (next_of program pc))
row_sends (Mov source (to.Port port)) program pc has = sends_to_port source port program has
row_sends (Mov source to.Any) program pc has = says_nothing _ _ program (writing_sends_none source)
row_sends (Mov source to.Last) program pc has = says_nothing _ _ program (writing_sends_none source)
row_sends (Add source) program pc has = says_nothing _ _ program (adding_sends_none source (next_of program pc))
row_sends (Sub source) program pc has = says_nothing _ _ program (taking_away_sends_none source (next_of program pc))
row_sends (Jro source) program pc has = says_nothing _ _ program (going_away_sends_none source program pc)
row_sends (Jump kind number) program pc has = tt

-- ---- all rows

-- the number of an instruction of a program is a value
instr_held : (program : List MarkedInstr) (pc : ℕ) (instr : Instr) → instr_at program pc ≡ Some instr → HasValues program → (pc < length program) × InstrHasValue instr
instr_held [] pc instr there has = absurd cc
instr_held (marked ∷ program) zero instr there has = let same : marked.instr ≡ instr = cc in (omega arith, subst InstrHasValue same has.0)
instr_held (marked ∷ program) (suc pc) instr there has = let rest = instr_held program pc instr there has.1 in (omega (arith, rest.0), rest.1)

silent_everywhere : (count index : ℕ) (row : Row) → row ≡ silent → get_or (replicate count row) index silent ≡ silent
silent_everywhere zero index row is = refl
silent_everywhere (suc count) zero row is = is
silent_everywhere (suc count) (suc index) row is = silent_everywhere count index row is

silent_tells : (row : Row) (program : List MarkedInstr) (pc : ℕ) → row ≡ silent → IsTold row program pc
silent_tells row program pc is = subst (λ (r : Row). IsTold r program pc) (sym is) (λ tells. absurd cc, tt, tt)

-- at first no row tells anything
pub no_rows : (program : List MarkedInstr) (row : Row) → row ≡ silent → HasRows (replicate 15 row) program
no_rows program row is = (refl, λ pc. silent_tells _ program pc (silent_everywhere 15 pc row is))

-- one row more
pub one_row_more : (rows : List Row) (program : List MarkedInstr) (pc : ℕ) (instr : Instr) (row : Row) → HasValues program → instr_at program pc ≡ Some instr → row ≡ row_of instr program pc → HasRows rows program → HasRows (set rows pc row) program
one_row_more rows program pc instr row has there is are = (
  length-set rows pc row ∙ are.0,
  λ at. elim (cases_eq at pc) [
    | inl here ↦ elim (cases_lt pc (length rows)) [
      | inl within ↦ subst (λ (r : Row). IsTold r program at) (sym (get_or-set_same rows pc row silent within) ∙ ap (λ (i : ℕ). get_or (set rows pc row) i silent) (sym here)) (told at here)
      | inr past ↦ subst (λ (list : List Row). IsTold (get_or list at silent) program at) (sym (set_past rows pc row past)) (are.1 at)
    ]
    | inr elsewhere ↦ subst (λ (r : Row). IsTold r program at) (sym (get_or-set_other rows pc at row silent elsewhere)) (are.1 at)
  ],
)
  where
    told : (at : ℕ) → at ≡ pc → IsTold row program at
    told at here =
        let held = instr_held program pc instr there has in
        let tells = subst (λ (r : Row). Tells r (Some instr) program pc) (sym is) (row_tells instr program pc held.0 held.1) in
        let waits = subst (λ (r : Row). Waits r.waits (Some instr)) (sym is) (row_waits instr program pc) in
        let sends = subst (λ (r : Row). Sends r (Some instr) program) (sym is) (row_sends instr program pc held.1) in
        subst (λ (p : ℕ). IsTold row program p) (sym here) (subst (λ (o : Option Instr). Tells row o program pc × Waits row.waits o × Sends row o program) (sym there) (tells, waits, sends))
