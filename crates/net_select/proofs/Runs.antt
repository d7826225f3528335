-- What a node does, instruction by instruction, with the names of what it reads and sends.
use Rattle.std.proofs.Common.{◌≡◌, ℕ, ◌+◌, ◌<◌, ℤ, Bool, true, false, cond, List, [], ◌∷◌, ◌++◌, Option, Some, None, length, refl, sym, ap, subst, ◌∙◌, arith, eqb-true}
use Rattle.std.specs.Prelude.{IsTrue, slice_get, option_map, nat_lt, ◌==◌}
use Rattle.std.proofs.lemmas.Bool.Decides.{nat_tests}
use Rattle.std.proofs.lemmas.Option.{slice_get_within}
use Rattle.tis_base.specs.declared.tiles.Dir.{Dir}
use Rattle.tis_base.specs.declared.tiles.Dir.TheVariants.{Left, Right, Up, Down}
use Rattle.tis_asm.specs.declared.instr.Source.{Source}
use Rattle.tis_asm.specs.declared.instr.Source.TheVariants as from
use Rattle.tis_asm.specs.declared.instr.Dest.TheVariants as to
use Rattle.tis_asm.specs.declared.instr.Jump.{Jump as JumpKind}
use Rattle.tis_asm.specs.declared.instr.Instr.{Instr}
use Rattle.tis_asm.specs.declared.instr.Instr.TheVariants as instr
use Rattle.tis_asm.specs.declared.program.MarkedInstr.{MarkedInstr}
use Rattle.tis_asm.specs.Node.{Node, Ready, Writing, One, is_same_dir, instr_at, goes_on, next_of, AtHand, supply_of, source_of, is_local_with, does_by, does_with, jumps, can_local, writes}
use Rattle.tis_asm.specs.PortRuns.{Step, Local, Took, Gave, after_step}
use Rattle.net_select.specs.Selection.{Ports, Code}

-- a step by itself, a value that is read under a name, and one that is sent
pub data Act : Type 0 where
  Alone : Act
  Reads : (name : ℕ) → (value : ℤ) → Act
  Sends : (name : ℕ) → (value : ℤ) → Act

-- the same at the ports of a node
abbrev pub step_of : Ports → Act → Step
step_of ports Alone = Local
step_of ports (Reads name value) = Took (ports name) value
step_of ports (Sends name value) = Gave (ports name) value

-- a node that waits for a value from this port, and can do nothing else
pub record Awaits (program : List MarkedInstr) (node : Node) (dir : Dir) : Type 0 where
  pub ready : node.mode ≡ Ready
  pub instr : Instr
  pub found : instr_at program node.pc ≡ Some instr
  pub source : source_of instr ≡ Some (from.Port dir)

-- the node can make this step and no other, whatever the value is that it takes
abbrev pub CanMake : List MarkedInstr → Node → Step → Type 0
CanMake program node Local = IsTrue (can_local program node)
CanMake program node (Took dir value) = Awaits program node dir
CanMake program node (Gave dir value) = node.mode ≡ Writing value (One dir)

pub is_same_dir_self : (dir : Dir) → is_same_dir dir dir ≡ true
is_same_dir_self Left = refl
is_same_dir_self Right = refl
is_same_dir_self Up = refl
is_same_dir_self Down = refl

-- the number of the instruction at a place: behind the last one the first follows
abbrev pub pc_of : ℕ → ℕ → ℕ
pc_of total place = cond (place == total) 0 place

-- a node that is ready at an instruction
abbrev pub ready_at : ℕ → ℤ → ℤ → Node
ready_at pc x y = record { pc = pc; acc = x; bak = y; last = None; mode = Ready }

module _ (program : List MarkedInstr) (ports : Ports) where
  -- the node can do this, one after the other, and comes to that node
  abbrev pub Run : Node → List Act → Node → Type 0
  Run node [] end = node ≡ end
  Run node (act ∷ acts) end = CanMake program node (step_of ports act) × Run (after_step program node (step_of ports act)) acts end

  pub run_then : (acts others : List Act) (node mid end : Node) → Run node acts mid → Run mid others end → Run node (acts ++ others) end
  run_then [] others node mid end here more = subst (λ (n : Node). Run n others end) (sym here) more
  run_then (act ∷ acts) others node mid end (can, rest) more = (can, run_then acts others (after_step program node (step_of ports act)) mid end rest more)

  -- a node at a place of the program, with these variables
  abbrev pub node_at : ℕ → ℤ → ℤ → Node
  node_at place x y = ready_at (pc_of (length program) place) x y

  -- this code stands at a place
  abbrev pub HoldsAt : ℕ → Code → Type 0
  HoldsAt place [] = Unit {0}
  HoldsAt place (i ∷ code) = (instr_at program place ≡ Some i) × HoldsAt (place + 1) code

  pub moved : (code : Code) (place other : ℕ) → place ≡ other → HoldsAt place code → HoldsAt other code
  moved code place other is = subst (λ (p : ℕ). HoldsAt p code) is

  -- two pieces of code stand where the code stands that is both
  pub holds_both : (first second : Code) (place : ℕ) → HoldsAt place (first ++ second) → HoldsAt place first × HoldsAt (place + length first) second
  holds_both [] second place holds = (tt, moved second place (place + 0) (omega arith) holds)
  holds_both (i ∷ first) second place (here, rest) =
      let both = holds_both first second (place + 1) rest in
      ((here, both.0), moved second (place + 1 + length first) (place + length (i ∷ first)) (omega arith) both.1)

  -- ---- one instruction

  within : (place : ℕ) (i : Instr) → instr_at program place ≡ Some i → place < length program
  within place i found = by (slice_get program place) refl
    where
      by : (at : Option MarkedInstr) → slice_get program place ≡ at → place < length program
      by None is = absurd (none (sym (ap (option_map (λ (marked : MarkedInstr). marked.instr)) is) ∙ found))
        where
          none : None ≡ Some i → ⊥
          none is = absurd cc
      by (Some marked) is = slice_get_within program place marked is

  -- a place with an instruction is its number
  pub here_is : (place : ℕ) (i : Instr) → instr_at program place ≡ Some i → pc_of (length program) place ≡ place
  here_is place i found = by (place == length program) refl
    where
      by : (b : Bool) → (place == length program) ≡ b → cond b 0 place ≡ place
      by true is = absurd (omega (arith, within place i found, eqb-true place (length program) is))
      by false is = refl

  -- behind it the next place follows
  next_is : (place : ℕ) (i : Instr) → instr_at program place ≡ Some i → next_of program place ≡ pc_of (length program) (place + 1)
  next_is place i found = by (nat_lt (place + 1) (length program)) (place + 1 == length program) refl refl
    where
      by : (b c : Bool) → nat_lt (place + 1) (length program) ≡ b → (place + 1 == length program) ≡ c → cond b (place + 1) 0 ≡ cond c 0 (place + 1)
      by true true less same = absurd (grind (arith, nat_tests, eqb-true (place + 1) (length program) same))
      by true false less same = refl
      by false true less same = refl
      by false false less same = absurd (grind (arith, nat_tests, within place i found))

  abbrev raw : ℕ → ℤ → ℤ → Node
  raw place x y = ready_at place x y

  begun : (place : ℕ) (i : Instr) → instr_at program place ≡ Some i → (x y : ℤ) (acts : List Act) (end : Node) → Run (raw place x y) acts end → Run (node_at place x y) acts end
  begun place i found x y acts end = subst (λ (p : ℕ). Run (ready_at p x y) acts end) (sym (here_is place i found))

  ended : (place : ℕ) (i : Instr) → instr_at program place ≡ Some i → (x y : ℤ) → goes_on program (raw place x y) ≡ node_at (place + 1) x y
  ended place i found x y = ap (λ (p : ℕ). ready_at p x y) (next_is place i found)

  -- an instruction that goes on by itself
  pub alone : (i : Instr) (place : ℕ) (x y x1 y1 : ℤ) → instr_at program place ≡ Some i → is_local_with (source_of i) (raw place x y) ≡ true → does_by (source_of i) i program (raw place x y) ≡ goes_on program (raw place x1 y1) → Run (node_at place x y) (Alone ∷ []) (node_at (place + 1) x1 y1)
  alone i place x y x1 y1 found local does = begun place i found x y (Alone ∷ []) (node_at (place + 1) x1 y1) (can, goes)
    where
      can : can_local program (raw place x y) ≡ true
      can = rw found local

      goes : after_step program (raw place x y) Local ≡ node_at (place + 1) x1 y1
      goes = rw found (does ∙ ended place i found x1 y1)

  -- a jump to a place, that is made, and one that isn't
  pub jump_made : (kind : JumpKind) (place target : ℕ) (x y : ℤ) → instr_at program place ≡ Some (instr.Jump kind (pc_of (length program) target)) → jumps kind x ≡ true → Run (node_at place x y) (Alone ∷ []) (node_at target x y)
  jump_made kind place target x y found made = begun place (instr.Jump kind (pc_of (length program) target)) found x y (Alone ∷ []) (node_at target x y) (can, goes)
    where
      can : can_local program (raw place x y) ≡ true
      can = rw found refl

      goes : after_step program (raw place x y) Local ≡ node_at target x y
      goes = rw found (ap (λ (b : Bool). cond b (ready_at (pc_of (length program) target) x y) (goes_on program (raw place x y))) made)

  pub jump_passed : (kind : JumpKind) (place target : ℕ) (x y : ℤ) → instr_at program place ≡ Some (instr.Jump kind (pc_of (length program) target)) → jumps kind x ≡ false → Run (node_at place x y) (Alone ∷ []) (node_at (place + 1) x y)
  jump_passed kind place target x y found passed = begun place i found x y (Alone ∷ []) (node_at (place + 1) x y) (can, goes)
    where
      i : Instr
      i = instr.Jump kind (pc_of (length program) target)

      can : can_local program (raw place x y) ≡ true
      can = rw found refl

      goes : after_step program (raw place x y) Local ≡ node_at (place + 1) x y
      goes = rw found (ap (λ (b : Bool). cond b (ready_at (pc_of (length program) target) x y) (goes_on program (raw place x y))) passed ∙ ended place i found x y)

  -- an instruction that reads a value
  pub takes : (i : Instr) (name place : ℕ) (x y x1 y1 value : ℤ) → instr_at program place ≡ Some i → source_of i ≡ Some (from.Port (ports name)) → does_with i program (raw place x y) value ≡ goes_on program (raw place x1 y1) → Run (node_at place x y) (Reads name value ∷ []) (node_at (place + 1) x1 y1)
  takes i name place x y x1 y1 value found source does = begun place i found x y (Reads name value ∷ []) (node_at (place + 1) x1 y1) (can, goes)
    where
      can : Awaits program (raw place x y) (ports name)
      can = record { ready = refl; instr = i; found = found; source = source }

      goes : after_step program (raw place x y) (Took (ports name) value) ≡ node_at (place + 1) x1 y1
      goes = rw (found, source) (does ∙ ended place i found x1 y1)

  pub awaits_at : (i : Instr) (name place : ℕ) (x y : ℤ) → instr_at program place ≡ Some i → source_of i ≡ Some (from.Port (ports name)) → Awaits program (node_at place x y) (ports name)
  awaits_at i name place x y found source = record { ready = refl; instr = i; found = ap (instr_at program) (here_is place i found) ∙ found; source = source }

  -- a value that is at hand is sent: a step by itself, and then it is given
  pub sends : (source : Source) (name place : ℕ) (x y value : ℤ) → instr_at program place ≡ Some (instr.Mov source (to.Port (ports name))) → supply_of source (raw place x y) ≡ AtHand value → Run (node_at place x y) (Alone ∷ Sends name value ∷ []) (node_at (place + 1) x y)
  sends source name place x y value found supply = begun place (instr.Mov source (to.Port (ports name))) found x y (Alone ∷ Sends name value ∷ []) (node_at (place + 1) x y) (can, subst (λ (n : Node). Run n (Sends name value ∷ []) (node_at (place + 1) x y)) (sym writing) (refl, ended place (instr.Mov source (to.Port (ports name))) found x y))
    where
      can : can_local program (raw place x y) ≡ true
      can = rw (found, supply) refl

      writing : after_step program (raw place x y) Local ≡ writes value (One (ports name)) (raw place x y)
      writing = rw (found, supply) refl

  -- a value is read and sent on
  pub moves : (name other place : ℕ) (x y value : ℤ) → instr_at program place ≡ Some (instr.Mov (from.Port (ports name)) (to.Port (ports other))) → Run (node_at place x y) (Reads name value ∷ Sends other value ∷ []) (node_at (place + 1) x y)
  moves name other place x y value found = begun place (instr.Mov (from.Port (ports name)) (to.Port (ports other))) found x y (Reads name value ∷ Sends other value ∷ []) (node_at (place + 1) x y) (can, subst (λ (n : Node). Run n (Sends other value ∷ []) (node_at (place + 1) x y)) (sym writing) (refl, ended place (instr.Mov (from.Port (ports name)) (to.Port (ports other))) found x y))
    where
      can : Awaits program (raw place x y) (ports name)
      can = record { ready = refl; instr = instr.Mov (from.Port (ports name)) (to.Port (ports other)); found = found; source = refl }

      writing : after_step program (raw place x y) (Took (ports name) value) ≡ writes value (One (ports other)) (raw place x y)
      writing = rw found refl
