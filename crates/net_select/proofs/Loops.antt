-- The code of an `if` and of a loop follows them, where that of their blocks does.
use Rattle.std.proofs.Common.{◌≡◌, ℕ, zero, suc, ◌+◌, ℤ, Bool, true, false, cond, List, [], ◌∷◌, ◌++◌, Some, length, refl, ap, subst, ◌∙◌, arith, eqb-true}
use Rattle.std.specs.Prelude.{◌==◌, not}
use Rattle.tis_asm.specs.declared.instr.Jump.{Jump as JumpKind}
use Rattle.tis_asm.specs.declared.instr.Jump.TheVariants.{Always}
use Rattle.tis_asm.specs.declared.instr.Instr.TheVariants as instr
use Rattle.tis_asm.specs.declared.program.MarkedInstr.{MarkedInstr}
use Rattle.tis_asm.specs.Node.{Node, instr_at, jumps}
use Rattle.net_tree.specs.declared.tree.Var.{Var}
use Rattle.net_tree.specs.declared.tree.Var.TheVariants.{X, Y}
use Rattle.net_rules.specs.Process.{ProcessState, Finished, Execution, ended, and_then, stepped, loop_within}
use Rattle.net_select.specs.Selection.{Ports, Code, Placed, jump_to, if_code, leaving_code, entering_code}
use Rattle.net_select.proofs.Runs.{node_at, HoldsAt, moved, holds_both}
use Rattle.net_select.proofs.Follows.{Names, Follows, then, begun}
use Rattle.net_select.proofs.Branches.{Goes, goes_then, goes_to, goes_past, goes_at, between, past_y, over_y}

-- the value of a variable
abbrev pub value_of : Var → ℤ → ℤ → ℤ
value_of X x y = x
value_of Y x y = y

module _ (program : List MarkedInstr) (ports : Ports) (names : Names) where
  -- a node at a place
  abbrev N : ℕ → ℤ → ℤ → Node
  N = node_at program ports

  -- wherever this code of so many instructions stands, a node at its begin does what an execution does, and then stands behind it
  abbrev pub Translates : Placed → ℕ → (ProcessState → Execution) → Type 0
  Translates code lines does = (place : ℕ) → HoldsAt program ports place (code place) → (state : ProcessState) → Follows program ports names (N place state.x state.y) (place + lines) state (does state)

  abbrev pub HasLines : Placed → ℕ → Type 0
  HasLines code lines = (place : ℕ) → length (code place) ≡ lines

  -- code without an instruction stands everywhere
  none_holds : (code : Code) (place : ℕ) → length code ≡ 0 → HoldsAt program ports place code
  none_holds [] place none = tt
  none_holds (i ∷ code) place none = absurd (omega (arith, none))

  -- code, and what stands behind it
  pub behind : (code : Placed) (lines : ℕ) (rest : Code) (place : ℕ) → HasLines code lines → HoldsAt program ports place (code place ++ rest) → HoldsAt program ports place (code place) × HoldsAt program ports (place + lines) rest
  behind code lines rest place has holds =
      let both = holds_both program ports (code place) rest place holds in
      let same : place + length (code place) ≡ place + lines = ap (λ (n : ℕ). place + n) (has place) in
      (both.0, moved program ports rest (place + length (code place)) (place + lines) same both.1)

  -- ---- an `if`

  module _ (kind : JumpKind) (f g : Placed) (f_lines g_lines : ℕ) (does_f does_g : ProcessState → Execution) (f_has : HasLines f f_lines) (g_has : HasLines g g_lines) (f_does : Translates f f_lines does_f) (g_does : Translates g g_lines does_g) where
    pub if_x : (none made : Bool) (place : ℕ) (state : ProcessState) → (g_lines == 0) ≡ none → jumps kind state.x ≡ made →
        HoldsAt program ports place (cond none (jump_to (length program) kind (place + 1 + f_lines) ∷ f (place + 1)) (jump_to (length program) kind (place + 2 + f_lines) ∷ (f (place + 1) ++ jump_to (length program) Always (place + 2 + f_lines + g_lines) ∷ g (place + 2 + f_lines)))) →
        Follows program ports names (N place state.x state.y) (place + (cond none 1 2 + (f_lines + g_lines))) state (cond made (does_g (stepped state)) (does_f (stepped state)))
    if_x true true place state none is (first, rest) =
        between program ports names 1 0 (N place state.x state.y) (N (place + 1 + f_lines) state.x state.y) (place + 1 + f_lines + g_lines) (place + (1 + (f_lines + g_lines))) state (does_g (stepped state)) (omega arith)
        (goes_to program ports names kind place (place + 1 + f_lines) state.x state.y first is)
        (g_does (place + 1 + f_lines) (none_holds (g (place + 1 + f_lines)) (place + 1 + f_lines) (g_has (place + 1 + f_lines) ∙ eqb-true g_lines 0 none)) (stepped state))
        (λ x y. goes_at program ports names 0 (N (place + 1 + f_lines + g_lines) x y) (place + 1 + f_lines + g_lines) (place + (1 + (f_lines + g_lines))) x y (omega arith) refl)
    if_x true false place state none is (first, rest) =
        between program ports names 1 0 (N place state.x state.y) (N (place + 1) state.x state.y) (place + 1 + f_lines) (place + (1 + (f_lines + g_lines))) state (does_f (stepped state)) (omega arith)
        (goes_past program ports names kind place (place + 1 + f_lines) state.x state.y first is)
        (f_does (place + 1) rest (stepped state))
        (λ x y. goes_at program ports names 0 (N (place + 1 + f_lines) x y) (place + 1 + f_lines) (place + (1 + (f_lines + g_lines))) x y (omega (arith, eqb-true g_lines 0 none)) refl)
    if_x false true place state some is (first, rest) =
        let both = behind f f_lines (jump_to (length program) Always (place + 2 + f_lines + g_lines) ∷ g (place + 2 + f_lines)) (place + 1) f_has rest in
        between program ports names 1 0 (N place state.x state.y) (N (place + 2 + f_lines) state.x state.y) (place + 2 + f_lines + g_lines) (place + (2 + (f_lines + g_lines))) state (does_g (stepped state)) (omega arith)
        (goes_to program ports names kind place (place + 2 + f_lines) state.x state.y first is)
        (g_does (place + 2 + f_lines) (moved program ports (g (place + 2 + f_lines)) (place + 1 + f_lines + 1) (place + 2 + f_lines) (omega arith) both.1.1) (stepped state))
        (λ x y. goes_at program ports names 0 (N (place + 2 + f_lines + g_lines) x y) (place + 2 + f_lines + g_lines) (place + (2 + (f_lines + g_lines))) x y (omega arith) refl)
    if_x false false place state some is (first, rest) =
        let both = behind f f_lines (jump_to (length program) Always (place + 2 + f_lines + g_lines) ∷ g (place + 2 + f_lines)) (place + 1) f_has rest in
        between program ports names 1 1 (N place state.x state.y) (N (place + 1) state.x state.y) (place + 1 + f_lines) (place + (2 + (f_lines + g_lines))) state (does_f (stepped state)) (omega arith)
        (goes_past program ports names kind place (place + 2 + f_lines) state.x state.y first is)
        (f_does (place + 1) both.0 (stepped state))
        (λ x y. goes_at program ports names 1 (N (place + 1 + f_lines) x y) (place + 2 + f_lines + g_lines) (place + (2 + (f_lines + g_lines))) x y (omega arith) (goes_to program ports names Always (place + 1 + f_lines) (place + 2 + f_lines + g_lines) x y both.1.0 refl))

    pub if_y : (made : Bool) (place : ℕ) (state : ProcessState) → jumps kind state.y ≡ made → HoldsAt program ports place (if_code (length program) Y kind f_lines g_lines f g place) →
        Follows program ports names (N place state.x state.y) (place + (5 + (f_lines + g_lines))) state (cond made (does_g (stepped state)) (does_f (stepped state)))
    if_y true place state is (first, (second, (third, rest))) =
        let both = behind f f_lines (jump_to (length program) Always (place + 5 + f_lines + g_lines) ∷ instr.Swp ∷ g (place + 5 + f_lines)) (place + 3) f_has (moved program ports (f (place + 3) ++ jump_to (length program) Always (place + 5 + f_lines + g_lines) ∷ instr.Swp ∷ g (place + 5 + f_lines)) (place + 1 + 1 + 1) (place + 3) (omega arith) rest) in
        let next : place + 3 + f_lines + 1 ≡ place + 4 + f_lines = omega arith in
        between program ports names 3 0 (N place state.x state.y) (N (place + 5 + f_lines) state.x state.y) (place + 5 + f_lines + g_lines) (place + (5 + (f_lines + g_lines))) state (does_g (stepped state)) (omega arith)
        (goes_at program ports names 3 (N place state.x state.y) (place + 4 + f_lines + 1) (place + 5 + f_lines) state.x state.y (omega arith) (over_y program ports names kind place (place + 4 + f_lines) state.x state.y first second (subst (λ (p : ℕ). instr_at program p ≡ Some instr.Swp) next both.1.1.0) is))
        (g_does (place + 5 + f_lines) (moved program ports (g (place + 5 + f_lines)) (place + 3 + f_lines + 1 + 1) (place + 5 + f_lines) (omega arith) both.1.1.1) (stepped state))
        (λ x y. goes_at program ports names 0 (N (place + 5 + f_lines + g_lines) x y) (place + 5 + f_lines + g_lines) (place + (5 + (f_lines + g_lines))) x y (omega arith) refl)
    if_y false place state is (first, (second, (third, rest))) =
        let both = behind f f_lines (jump_to (length program) Always (place + 5 + f_lines + g_lines) ∷ instr.Swp ∷ g (place + 5 + f_lines)) (place + 3) f_has (moved program ports (f (place + 3) ++ jump_to (length program) Always (place + 5 + f_lines + g_lines) ∷ instr.Swp ∷ g (place + 5 + f_lines)) (place + 1 + 1 + 1) (place + 3) (omega arith) rest) in
        between program ports names 3 1 (N place state.x state.y) (N (place + 3) state.x state.y) (place + 3 + f_lines) (place + (5 + (f_lines + g_lines))) state (does_f (stepped state)) (omega arith)
        (past_y program ports names kind place (place + 4 + f_lines) state.x state.y first second third is)
        (f_does (place + 3) both.0 (stepped state))
        (λ x y. goes_at program ports names 1 (N (place + 3 + f_lines) x y) (place + 5 + f_lines + g_lines) (place + (5 + (f_lines + g_lines))) x y (omega arith) (goes_to program ports names Always (place + 3 + f_lines) (place + 5 + f_lines + g_lines) x y both.1.0 refl))

  -- ---- loops

  -- turn after turn, each of which is followed
  pub loops : (top place : ℕ) (holds : ProcessState → Bool) (body : ProcessState → Execution) →
      ((state : ProcessState) → holds (stepped state) ≡ true → Follows program ports names (N top state.x state.y) top state (body (stepped state))) →
      ((state : ProcessState) → holds (stepped state) ≡ false → Follows program ports names (N top state.x state.y) place state (ended Finished (stepped state))) →
      (fuel : ℕ) (state : ProcessState) → Follows program ports names (N top state.x state.y) place state (loop_within fuel holds body state)
  loops top place holds body turns leaves zero state = tt
  loops top place holds body turns leaves (suc more) state =
      begun program ports names (N top state.x state.y) place state (λ after. cond (holds after) (and_then (body after) (loop_within more holds body)) (ended Finished after))
      (by (holds (stepped state)) refl (loops top place holds body turns leaves more))
    where
      by : (b : Bool) → holds (stepped state) ≡ b → ((after : ProcessState) → Follows program ports names (N top after.x after.y) place after (loop_within more holds body after)) →
          Follows program ports names (N top state.x state.y) place state (cond b (and_then (body (stepped state)) (loop_within more holds body)) (ended Finished (stepped state)))
      by true is again = then program ports names (N top state.x state.y) top place state (body (stepped state)) (loop_within more holds body) (turns state is) again
      by false is again = leaves state is

  -- how a node goes round a loop: into the body, out of the loop, and back to its top
  pub record GoesRound (kind : JumpKind) (var : Var) (body : Placed) (lines top end inside in_steps out_steps : ℕ) (enters : Bool) : Type 0 where
    pub into : (x y : ℤ) → jumps kind (value_of var x y) ≡ enters → Goes program ports names in_steps (N top x y) (N inside x y)
    pub out : (x y : ℤ) → jumps kind (value_of var x y) ≡ not enters → Goes program ports names out_steps (N top x y) (N end x y)
    pub stands : HoldsAt program ports inside (body inside)
    pub back : (x y : ℤ) → Goes program ports names 1 (N (inside + lines) x y) (N top x y)

  module _ (kind : JumpKind) (body : Placed) (lines : ℕ) (has : HasLines body lines) where
    pub leaves_x : (top : ℕ) → HoldsAt program ports top (leaving_code (length program) X kind lines body top) → GoesRound kind X body lines top (top + 2 + lines) (top + 1) 1 1 false
    leaves_x top (first, rest) =
        let both = behind body lines (jump_to (length program) Always top ∷ []) (top + 1) has rest in
        record {
          into = λ x y is. goes_past program ports names kind top (top + 2 + lines) x y first is;
          out = λ x y is. goes_to program ports names kind top (top + 2 + lines) x y first is;
          stands = both.0;
          back = λ x y. goes_to program ports names Always (top + 1 + lines) top x y both.1.0 refl;
        }

    pub leaves_y : (top : ℕ) → HoldsAt program ports top (leaving_code (length program) Y kind lines body top) → GoesRound kind Y body lines top (top + 4 + lines + 1) (top + 3) 3 3 false
    leaves_y top (first, (second, (third, rest))) =
        let both = behind body lines (jump_to (length program) Always top ∷ instr.Swp ∷ []) (top + 3) has (moved program ports (body (top + 3) ++ jump_to (length program) Always top ∷ instr.Swp ∷ []) (top + 1 + 1 + 1) (top + 3) (omega arith) rest) in
        let next : top + 3 + lines + 1 ≡ top + 4 + lines = omega arith in
        record {
          into = λ x y is. past_y program ports names kind top (top + 4 + lines) x y first second third is;
          out = λ x y is. over_y program ports names kind top (top + 4 + lines) x y first second (subst (λ (p : ℕ). instr_at program p ≡ Some instr.Swp) next both.1.1.0) is;
          stands = both.0;
          back = λ x y. goes_to program ports names Always (top + 3 + lines) top x y both.1.0 refl;
        }

    pub enters_x : (top : ℕ) → HoldsAt program ports top (entering_code (length program) X kind lines body top) → GoesRound kind X body lines top (top + 3 + lines) (top + 2) 1 2 true
    enters_x top (first, (second, rest)) =
        let both = behind body lines (jump_to (length program) Always top ∷ []) (top + 2) has (moved program ports (body (top + 2) ++ jump_to (length program) Always top ∷ []) (top + 1 + 1) (top + 2) (omega arith) rest) in
        record {
          into = λ x y is. goes_to program ports names kind top (top + 2) x y first is;
          out = λ x y is. goes_then program ports names 1 1 (N top x y) (N (top + 1) x y) (N (top + 3 + lines) x y) (goes_past program ports names kind top (top + 2) x y first is) (goes_to program ports names Always (top + 1) (top + 3 + lines) x y second refl);
          stands = both.0;
          back = λ x y. goes_to program ports names Always (top + 2 + lines) top x y both.1.0 refl;
        }

    pub enters_y : (top : ℕ) → HoldsAt program ports top (entering_code (length program) Y kind lines body top) → GoesRound kind Y body lines top (top + 6 + lines) (top + 5) 3 4 true
    enters_y top (first, (second, (third, (fourth, (fifth, rest))))) =
        let both = behind body lines (jump_to (length program) Always top ∷ []) (top + 5) has (moved program ports (body (top + 5) ++ jump_to (length program) Always top ∷ []) (top + 1 + 1 + 1 + 1 + 1) (top + 5) (omega arith) rest) in
        let at_three : top + 1 + 1 + 1 ≡ top + 3 = omega arith in
        let at_four : top + 1 + 1 + 1 + 1 ≡ top + 4 = omega arith in
        record {
          into = λ x y is. goes_at program ports names 3 (N top x y) (top + 4 + 1) (top + 5) x y (omega arith) (over_y program ports names kind top (top + 4) x y first second (subst (λ (p : ℕ). instr_at program p ≡ Some instr.Swp) at_four fifth) is);
          out = λ x y is. goes_then program ports names 3 1 (N top x y) (N (top + 3) x y) (N (top + 6 + lines) x y) (past_y program ports names kind top (top + 4) x y first second third is)
              (goes_to program ports names Always (top + 3) (top + 6 + lines) x y (subst (λ (p : ℕ). instr_at program p ≡ Some (jump_to (length program) Always (top + 6 + lines))) at_three fourth) refl);
          stands = both.0;
          back = λ x y. goes_to program ports names Always (top + 5 + lines) top x y both.1.0 refl;
        }
