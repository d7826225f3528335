-- A node of a program stays one, and is never stuck by itself.
use Rattle.std.proofs.Common.{negsuc, ◌≡◌, ℕ, zero, suc, ◌+◌, ◌<◌, ℤ, pos, true, List, [], ◌∷◌, length, Option, Some, None, nat_lt, inl, inr, subst, refl, sym, ap, ◌∙◌, arith, ltb-true}
use Rattle.std.specs.Prelude.{◌+ℤ◌, ◌-ℤ◌, neg_ℤ, ◌⊎◌}
use Rattle.std.proofs.lemmas.Bool.{cond_both}
use Rattle.std.proofs.lemmas.Int.{ints}
use Rattle.tis_base.specs.Saturation.{IsValue}
use Rattle.tis_base.proofs.Saturating.{sat_is_value}
use Rattle.tis_base.specs.declared.tiles.Dir.{Dir}
use Rattle.tis_base.specs.declared.tiles.Dir.TheVariants.{Up}
use Rattle.tis_asm.specs.declared.instr.Source.{Source}
use Rattle.tis_asm.specs.declared.instr.Source.TheVariants as from
use Rattle.tis_asm.specs.declared.instr.Dest.{Dest}
use Rattle.tis_asm.specs.declared.instr.Dest.TheVariants as to
use Rattle.tis_asm.specs.declared.instr.Instr.{Instr}
use Rattle.tis_asm.specs.declared.instr.Instr.TheVariants.{Nop, Mov, Swp, Sav, Add, Sub, Neg, Jump, Jro}
use Rattle.tis_asm.specs.declared.program.MarkedInstr.{MarkedInstr}
use Rattle.tis_asm.specs.Programs.{SourceHasValue, InstrHasValue, HasValues, JumpsWithin, JumpWithin, IsSound}
use Rattle.tis_asm.specs.Node.{Node, Mode, Ready, Writing, Toward, One, Any, Supply, AtHand, AtPort, AtAny, ModeHasValue, FitsProgram, instr_at, next_of, goes_on, goes_to, away, writes, supply_of, last_supply, source_of, jumps, does, does_with, put_to, put_to_last, is_at_hand, is_local_with, does_at_hand, does_by, local_by_instr, can_local_in, comes_through, reads_with, reads_from, is_local, wants_in, remembers, take_with, take_by_instr, offers_in}
use Rattle.tis_asm.specs.PortRuns.{Step, Local, Took, Gave, IsStep, after_step}
use Rattle.tis_asm.specs.Progress.{CanGoOn, ByItself, Wanting, Offering, NodesGoOn, FreshFits, StepsKeepFitting}
use Rattle.tis_asm.proofs.Passing.{is_same_dir-self}

-- ---- a node of its program stays one

-- 0 is a value
zero_is_value : IsValue (pos 0)
zero_is_value = (omega (arith, ints), omega (arith, ints))

-- a fresh node is one of each program
pub fresh_fits : FreshFits
fresh_fits [] = record { stands = (refl, refl); acc = zero_is_value; bak = zero_is_value; mode = tt }
fresh_fits (marked ∷ program) = record { stands = omega arith; acc = zero_is_value; bak = zero_is_value; mode = tt }

-- a node at an instruction of its program, whose numbers are values
record IsAt (program : List MarkedInstr) (node : Node) : Type 0 where
  below : node.pc < length program
  acc : IsValue node.acc
  bak : IsValue node.bak
  mode : ModeHasValue node.mode

-- a node of a program with an instruction is at one
is_at : (program : List MarkedInstr) (node : Node) → 0 < length program → FitsProgram program node → IsAt program node
is_at [] node some fits = absurd (omega arith)
is_at (marked ∷ program) node some fits = record { below = fits.stands; acc = fits.acc; bak = fits.bak; mode = fits.mode }

-- and the other way round
fits_at : (program : List MarkedInstr) (node : Node) → IsAt program node → FitsProgram program node
fits_at [] node at = absurd (omega (arith, at.below))
fits_at (marked ∷ program) node at = record { stands = at.below; acc = at.acc; bak = at.bak; mode = at.mode }

-- the next instruction is one of the program
next_below : (program : List MarkedInstr) (pc : ℕ) → pc < length program → next_of program pc < length program
next_below program pc some = cond_both (nat_lt (pc + 1) (length program)) (pc + 1) 0 (λ next. next < length program) (λ is. ltb-true _ _ is) (λ is. omega arith)

-- going on with these numbers in the registers
goes_on_at : (program : List MarkedInstr) (node : Node) (acc bak : ℤ) → node.pc < length program → IsValue acc → IsValue bak → IsAt program (goes_on program (record node { acc = acc; bak = bak }))
goes_on_at program node acc bak below acc_is bak_is = record { below = next_below program node.pc below; acc = acc_is; bak = bak_is; mode = tt }

-- going to an instruction of the program
goes_to_at : (program : List MarkedInstr) (number : ℕ) (node : Node) → number < length program → IsAt program node → IsAt program (goes_to number node)
goes_to_at program number node below at = record { below = below; acc = at.acc; bak = at.bak; mode = tt }

-- so many instructions away is an instruction of the program
away_below : (program : List MarkedInstr) (pc : ℕ) (count : ℤ) → pc < length program → away program pc count < length program
away_below program pc (pos count) below = omega arith
away_below program pc (negsuc count) below = omega arith

-- writing a value to a port
writes_at : (value : ℤ) (toward : Toward) (program : List MarkedInstr) (node : Node) → IsAt program node → IsValue value → IsAt program (writes value toward node)
writes_at value toward program node at is = record { below = at.below; acc = at.acc; bak = at.bak; mode = is }

-- writing a value to LAST
put_last_at : (last : Option Dir) (program : List MarkedInstr) (node : Node) (value : ℤ) → IsAt program node → IsValue value → IsAt program (put_to_last last program node value)
put_last_at None program node value at is = goes_on_at program node node.acc node.bak at.below at.acc at.bak
put_last_at (Some port) program node value at is = writes_at value (One port) program node at is

-- writing a value
put_at : (dest : Dest) (program : List MarkedInstr) (node : Node) (value : ℤ) → IsAt program node → IsValue value → IsAt program (put_to dest program node value)
put_at to.Acc program node value at is = goes_on_at program node value node.bak at.below is at.bak
put_at to.Nil program node value at is = goes_on_at program node node.acc node.bak at.below at.acc at.bak
put_at (to.Port port) program node value at is = writes_at value (One port) program node at is
put_at to.Any program node value at is = writes_at value Any program node at is
put_at to.Last program node value at is = put_last_at node.last program node value at is

-- an instruction without a source
does_at : (instr : Instr) (program : List MarkedInstr) (node : Node) → JumpsWithin (length program) instr → IsAt program node → IsAt program (does instr program node)
does_at Nop program node sound at = goes_on_at program node node.acc node.bak at.below at.acc at.bak
does_at (Mov source dest) program node sound at = at
does_at Swp program node sound at = goes_on_at program node node.bak node.acc at.below at.bak at.acc
does_at Sav program node sound at = goes_on_at program node node.acc node.acc at.below at.acc at.acc
does_at (Add source) program node sound at = at
does_at (Sub source) program node sound at = at
does_at Neg program node sound at = goes_on_at program node _ node.bak at.below (sat_is_value (neg_ℤ node.acc)) at.bak
does_at (Jump jump number) program node sound at =
    cond_both (jumps jump node.acc) (goes_to number node) (goes_on program node) (λ after. IsAt program after)
    (λ made. goes_to_at program number node sound at) (λ other. goes_on_at program node node.acc node.bak at.below at.acc at.bak)
does_at (Jro source) program node sound at = at

-- an instruction with a source
does_with_at : (instr : Instr) (program : List MarkedInstr) (node : Node) (value : ℤ) → IsAt program node → IsValue value → IsAt program (does_with instr program node value)
does_with_at Nop program node value at is = at
does_with_at (Mov source dest) program node value at is = put_at dest program node value at is
does_with_at Swp program node value at is = at
does_with_at Sav program node value at is = at
does_with_at (Add source) program node value at is = goes_on_at program node _ node.bak at.below (sat_is_value (node.acc +ℤ value)) at.bak
does_with_at (Sub source) program node value at is = goes_on_at program node _ node.bak at.below (sat_is_value (node.acc -ℤ value)) at.bak
does_with_at Neg program node value at is = at
does_with_at (Jump jump number) program node value at is = at
does_with_at (Jro source) program node value at is = goes_to_at program _ node (away_below program node.pc value at.below) at

-- the number of an instruction is a value, and so is that of its source
source_held : (instr : Instr) (source : Source) → InstrHasValue instr → source_of instr ≡ Some source → SourceHasValue source
source_held Nop source has is = absurd cc
source_held (Mov from dest) source has is = let e : from ≡ source = cc in subst SourceHasValue e has
source_held Swp source has is = absurd cc
source_held Sav source has is = absurd cc
source_held (Add from) source has is = let e : from ≡ source = cc in subst SourceHasValue e has
source_held (Sub from) source has is = let e : from ≡ source = cc in subst SourceHasValue e has
source_held Neg source has is = absurd cc
source_held (Jump jump number) source has is = absurd cc
source_held (Jro from) source has is = let e : from ≡ source = cc in subst SourceHasValue e has

-- what a supply has at hand is a value
abbrev SupplyHasValue : Supply → Type 0
SupplyHasValue (AtHand value) = IsValue value
SupplyHasValue (AtPort port) = Unit {0}
SupplyHasValue AtAny = Unit {0}

-- what a source has at hand is a value
supply_held : (source : Source) (node : Node) → SourceHasValue source → IsValue node.acc → SupplyHasValue (supply_of source node)
supply_held (from.Number number) node has acc = has
supply_held from.Acc node has acc = acc
supply_held from.Nil node has acc = zero_is_value
supply_held (from.Port port) node has acc = tt
supply_held from.Any node has acc = tt
supply_held from.Last node has acc = last_held node.last
  where
    -- and what LAST has
    last_held : (last : Option Dir) → SupplyHasValue (last_supply last)
    last_held None = zero_is_value
    last_held (Some port) = tt

-- a local step
at_hand_at : (supply : Supply) (instr : Instr) (program : List MarkedInstr) (node : Node) → SupplyHasValue supply → IsAt program node → IsAt program (does_at_hand supply instr program node)
at_hand_at (AtHand value) instr program node has at = does_with_at instr program node value at has
at_hand_at (AtPort port) instr program node has at = at
at_hand_at AtAny instr program node has at = at

by_source_at : (source : Option Source) (instr : Instr) (program : List MarkedInstr) (node : Node) → source_of instr ≡ source → InstrHasValue instr → JumpsWithin (length program) instr → IsAt program node → IsAt program (does_by source instr program node)
by_source_at None instr program node is has sound at = does_at instr program node sound at
by_source_at (Some source) instr program node is has sound at = at_hand_at (supply_of source node) instr program node (supply_held source node (source_held instr source has is) at.acc) at

-- ANY remembers a port
remembers_at : (supply : Supply) (dir : Dir) (program : List MarkedInstr) (node : Node) → IsAt program node → IsAt program (remembers supply dir node)
remembers_at (AtHand value) dir program node at = at
remembers_at (AtPort port) dir program node at = at
remembers_at AtAny dir program node at = record { below = at.below; acc = at.acc; bak = at.bak; mode = at.mode }

-- a value that was taken
take_with_at : (source : Option Source) (instr : Instr) (program : List MarkedInstr) (node : Node) (dir : Dir) (value : ℤ) → IsAt program node → IsValue value → IsAt program (take_with source instr program node dir value)
take_with_at None instr program node dir value at is = at
take_with_at (Some source) instr program node dir value at is = does_with_at instr program _ value (remembers_at (supply_of source node) dir program node at) is

-- what is known of each instruction of a program
record IsGood (count : ℕ) (instr : Instr) : Type 0 where
  has : InstrHasValue instr
  sound : JumpsWithin count instr

-- is known of the one at a number
good_at : (count : ℕ) (program : List MarkedInstr) (pc : ℕ) (instr : Instr) → HasValues program → JumpWithin count program → instr_at program pc ≡ Some instr → IsGood count instr
good_at count [] pc instr are sound is = absurd cc
good_at count (marked ∷ program) zero instr are sound is = let e : marked.instr ≡ instr = cc in subst (IsGood count) e (record { has = are.0; sound = sound.0 })
good_at count (marked ∷ program) (suc pc) instr are sound is = good_at count program pc instr are.1 sound.1 is

-- a local step by the instruction
local_at : (found : Option Instr) (program : List MarkedInstr) (node : Node) → ((instr : Instr) → found ≡ Some instr → IsGood (length program) instr) → IsAt program node → IsAt program (local_by_instr found program node)
local_at None program node good at = at
local_at (Some instr) program node good at = let is = good instr refl in by_source_at (source_of instr) instr program node refl is.has is.sound at

-- a value that was taken, by the instruction
take_at : (found : Option Instr) (program : List MarkedInstr) (node : Node) (dir : Dir) (value : ℤ) → IsAt program node → IsValue value → IsAt program (take_by_instr found program node dir value)
take_at None program node dir value at is = at
take_at (Some instr) program node dir value at is = take_with_at (source_of instr) instr program node dir value at is

-- a step
step_at : (program : List MarkedInstr) (node : Node) (step : Step) → HasValues program → IsSound program → IsAt program node → IsStep program node step → IsAt program (after_step program node step)
step_at program node Local are sound at is = local_at (instr_at program node.pc) program node (λ instr found. good_at (length program) program node.pc instr are sound found) at
step_at program node (Took dir value) are sound at is = take_at (instr_at program node.pc) program node dir value at is.1
step_at program node (Gave dir value) are sound at is = record { below = next_below program node.pc at.below; acc = at.acc; bak = at.bak; mode = tt }

-- a node without instructions can make no step
no_step : (node : Node) (step : Step) → node.mode ≡ Ready → IsStep [] node step → ⊥
no_step node Local ready is = let idle : can_local_in Ready None node ≡ true = ap (λ mode. can_local_in mode None node) (sym ready) ∙ is in cc
no_step node (Took dir value) ready is = let idle : wants_in Ready None node dir ≡ true = ap (λ mode. wants_in mode None node dir) (sym ready) ∙ is.0 in cc
no_step node (Gave dir value) ready is = let idle : offers_in Ready dir ≡ Some value = ap (λ mode. offers_in mode dir) (sym ready) ∙ is in cc

-- after a step the node is still one of its program
pub steps_keep_fitting : StepsKeepFitting
steps_keep_fitting [] node step are sound fits is = absurd (no_step node step fits.stands.1 is)
steps_keep_fitting (marked ∷ program) node step are sound fits is = fits_at (marked ∷ program) _ (step_at (marked ∷ program) node step are sound (is_at (marked ∷ program) node (omega arith) fits) is)

-- ---- a node is never stuck by itself

-- the value of a source is at hand or comes through some port
supply_goes_on : (supply : Supply) → (is_at_hand supply ≡ true) ⊎ ((dir : Dir) × (comes_through supply dir ≡ true))
supply_goes_on (AtHand value) = inl refl
supply_goes_on (AtPort port) = inr (port, is_same_dir-self port)
supply_goes_on AtAny = inr (Up, refl)

-- an instruction at a node that is ready is local or waits for a port
source_goes_on : (source : Option Source) (node : Node) → (is_local_with source node ≡ true) ⊎ ((dir : Dir) × (reads_with source node dir ≡ true))
source_goes_on None node = inl refl
source_goes_on (Some source) node = supply_goes_on (supply_of source node)

-- a node by its mode and its instruction
mode_goes_on : (program : List MarkedInstr) (node : Node) (mode : Mode) (instr : Instr) → node.mode ≡ mode → instr_at program node.pc ≡ Some instr → CanGoOn program node
mode_goes_on program node Ready instr is_mode is_instr =
    elim (source_goes_on (source_of instr) node) [
      | inl local ↦ ByItself (ap (λ (m : Mode). can_local_in m (instr_at program node.pc) node) is_mode ∙ ap (λ (i : Option Instr). is_local i node) is_instr ∙ local)
      | inr waits ↦ Wanting waits.0 (ap (λ (m : Mode). wants_in m (instr_at program node.pc) node waits.0) is_mode ∙ ap (λ (i : Option Instr). reads_from i node waits.0) is_instr ∙ waits.1)
    ]
mode_goes_on program node (Writing value (One dir)) instr is_mode is_instr = Offering dir value (rw (is_mode, is_same_dir-self dir) refl)
mode_goes_on program node (Writing value Any) instr is_mode is_instr = Offering Up value (rw is_mode refl)

-- there is an instruction at a number below their count
instr_there : (program : List MarkedInstr) (pc : ℕ) → pc < length program → (instr : Instr) × (instr_at program pc ≡ Some instr)
instr_there [] pc below = absurd (omega arith)
instr_there (marked ∷ program) zero below = (marked.instr, refl)
instr_there (marked ∷ program) (suc pc) below = instr_there program pc (omega arith)

pub nodes_go_on : NodesGoOn
nodes_go_on program node some fits =
    let there = instr_there program node.pc (is_at program node some fits).below in
    mode_goes_on program node node.mode there.0 refl there.1
