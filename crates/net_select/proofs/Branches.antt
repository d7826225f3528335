-- The code of an `if` and of a loop follows them, where that of their blocks does.
use Rattle.std.proofs.Common.{◌≡◌, ℕ, zero, suc, ◌+◌, ◌≤◌, ℤ, pos, negsuc, Bool, true, false, cond, List, [], ◌∷◌, ◌++◌, Some, length, refl, sym, ap, subst, ◌∙◌, arith, append-nil}
use Rattle.std.specs.Prelude.{◌==◌, not}
use Rattle.tis_asm.specs.declared.instr.Jump.{Jump as JumpKind}
use Rattle.tis_asm.specs.declared.instr.Instr.TheVariants as instr
use Rattle.tis_asm.specs.declared.program.MarkedInstr.{MarkedInstr}
use Rattle.tis_asm.specs.Node.{Node, instr_at, jumps}
use Rattle.net_tree.specs.declared.tree.Test.{Test}
use Rattle.net_tree.specs.declared.tree.Test.TheVariants.{Zero, NotZero, Negative, Positive, NotPositive, NotNegative}
use Rattle.net_rules.specs.Process.{ProcessState, Outcome, Finished, WaitsOn, OutOfFuel, Execution, ended, and_then, stepped, passes}
use Rattle.net_select.specs.Selection.{Ports, jump_of, jumps_where_held, jump_to}
use Rattle.net_select.proofs.Runs.{Act, Alone, Run, run_then, node_at, jump_made, jump_passed}
use Rattle.net_select.proofs.Follows.{alone_count, alone_both, read_under, read_both, sent_under, sent_both, Names, AreNamed, named_both, FollowsTo, Follows}
use Rattle.net_select.proofs.Statements.{at_place, swapped}

-- ---- tests

-- a value is negative, or 0, or positive; the jumps and the tests see the same
pub jumps_when : (test : Test) (value : ℤ) → jumps (jump_of test) value ≡ cond (jumps_where_held test) (passes test value) (not (passes test value))
jumps_when Zero (pos n) = refl
jumps_when Zero (negsuc n) = refl
jumps_when NotZero (pos n) = twice (n == 0)
  where
    twice : (b : Bool) → b ≡ not (not b)
    twice true = refl
    twice false = refl
jumps_when NotZero (negsuc n) = refl
jumps_when Negative (pos n) = refl
jumps_when Negative (negsuc n) = refl
jumps_when Positive (pos n) = refl
jumps_when Positive (negsuc n) = refl
jumps_when NotPositive (pos n) = twice (n == 0)
  where
    twice : (b : Bool) → not b ≡ not (not (not b))
    twice true = refl
    twice false = refl
jumps_when NotPositive (negsuc n) = refl
jumps_when NotNegative (pos n) = refl
jumps_when NotNegative (negsuc n) = refl

-- ---- steps that a node takes by itself

module _ (program : List MarkedInstr) (ports : Ports) (names : Names) where
  -- so many steps by itself
  abbrev pub Alones : ℕ → List Act
  Alones zero = []
  Alones (suc n) = Alone ∷ Alones n

  alones_count : (n : ℕ) → alone_count (Alones n) ≡ n
  alones_count zero = refl
  alones_count (suc n) = omega (arith, alones_count n)

  alones_read : (n name : ℕ) → read_under name (Alones n) ≡ []
  alones_read zero name = refl
  alones_read (suc n) name = alones_read n name

  alones_sent : (n name : ℕ) → sent_under name (Alones n) ≡ []
  alones_sent zero name = refl
  alones_sent (suc n) name = alones_sent n name

  alones_named : (n : ℕ) → AreNamed names (Alones n)
  alones_named zero = tt
  alones_named (suc n) = (tt, alones_named n)

  -- a node goes from here to there by itself, in so many steps
  abbrev pub Goes : ℕ → Node → Node → Type 0
  Goes n node end = Run program ports node (Alones n) end

  alones_both : (n m : ℕ) → Alones n ++ Alones m ≡ Alones (n + m)
  alones_both zero m = let same : m ≡ 0 + m = omega arith in ap Alones same
  alones_both (suc n) m = let same : suc (n + m) ≡ suc n + m = omega arith in ap (λ (l : List Act). Alone ∷ l) (alones_both n m) ∙ ap Alones same

  pub goes_then : (n m : ℕ) (node mid end : Node) → Goes n node mid → Goes m mid end → Goes (n + m) node end
  goes_then n m node mid end first second = subst (λ (l : List Act). Run program ports node l end) (alones_both n m) (run_then program ports (Alones n) (Alones m) node mid end first second)

  -- the node goes by itself, follows an execution of which a step was begun, and goes by itself again to where the variables are changed
  pub around : (n m : ℕ) (node mid : Node) (inner place : ℕ) (state : ProcessState) (execution : Execution) (change : ProcessState → ProcessState) → n + m ≤ 8 → Goes n node mid → Follows program ports names mid inner (stepped state) execution →
      ((after : ProcessState) → (name : ℕ) → (change after).unread name ≡ after.unread name) → ((after : ProcessState) → (name : ℕ) → (change after).sent name ≡ after.sent name) → ((after : ProcessState) → (change after).steps ≡ after.steps) →
      ((after : ProcessState) → Goes m (node_at program ports inner after.x after.y) (node_at program ports place (change after).x (change after).y)) →
      Follows program ports names node place state (and_then execution (λ after. ended Finished (change after)))
  around n m node mid inner place state execution change few first follows unread sent steps last = by execution.outcome follows
    where
      by : (outcome : Outcome) → FollowsTo program ports names mid inner (stepped state) outcome execution.state → Follows program ports names node place state (and_then (record { state = execution.state; outcome = outcome }) (λ after. ended Finished (change after)))
      by Finished ran =
          let after = execution.state in
          record {
            acts = Alones n ++ (ran.acts ++ Alones m);
            run = run_then program ports (Alones n) (ran.acts ++ Alones m) node mid (node_at program ports place (change after).x (change after).y) first (run_then program ports ran.acts (Alones m) mid (node_at program ports inner after.x after.y) (node_at program ports place (change after).x (change after).y) ran.run (last after));
            unread = λ name. ran.unread name ∙ ap (λ (l : List ℤ). l ++ after.unread name) (sym (all_read name ran.acts)) ∙ ap (λ (l : List ℤ). read_under name (Alones n ++ (ran.acts ++ Alones m)) ++ l) (sym (unread after name));
            sent = λ name. sent after name ∙ ran.sent name ∙ ap (λ (l : List ℤ). state.sent name ++ l) (sym (all_sent name ran.acts));
            local = omega (arith, few, ran.local, steps after, alone_both (Alones n) (ran.acts ++ Alones m), alone_both ran.acts (Alones m), alones_count n, alones_count m);
            named = named_both names (Alones n) (ran.acts ++ Alones m) (alones_named n) (named_both names ran.acts (Alones m) ran.named (alones_named m));
          }
        where
          all_read : (name : ℕ) (acts : List Act) → read_under name (Alones n ++ (acts ++ Alones m)) ≡ read_under name acts
          all_read name acts = read_both name (Alones n) (acts ++ Alones m) ∙ ap (λ (l : List ℤ). l ++ read_under name (acts ++ Alones m)) (alones_read n name) ∙ read_both name acts (Alones m) ∙ ap (λ (l : List ℤ). read_under name acts ++ l) (alones_read m name) ∙ append-nil (read_under name acts)

          all_sent : (name : ℕ) (acts : List Act) → sent_under name (Alones n ++ (acts ++ Alones m)) ≡ sent_under name acts
          all_sent name acts = sent_both name (Alones n) (acts ++ Alones m) ∙ ap (λ (l : List ℤ). l ++ sent_under name (acts ++ Alones m)) (alones_sent n name) ∙ sent_both name acts (Alones m) ∙ ap (λ (l : List ℤ). sent_under name acts ++ l) (alones_sent m name) ∙ append-nil (sent_under name acts)
      by (WaitsOn name) ran = record {
        end = ran.end;
        ran = record {
          acts = Alones n ++ ran.ran.acts;
          run = run_then program ports (Alones n) ran.ran.acts node mid ran.end first ran.ran.run;
          unread = λ other. ran.ran.unread other ∙ ap (λ (l : List ℤ). l ++ execution.state.unread other) (sym (front_read other ran.ran.acts));
          sent = λ other. ran.ran.sent other ∙ ap (λ (l : List ℤ). state.sent other ++ l) (sym (front_sent other ran.ran.acts));
          local = omega (arith, few, ran.ran.local, alone_both (Alones n) ran.ran.acts, alones_count n);
          named = named_both names (Alones n) ran.ran.acts (alones_named n) ran.ran.named;
        };
        awaits = ran.awaits;
        empty = ran.empty;
        read = ran.read;
      }
        where
          front_read : (other : ℕ) (acts : List Act) → read_under other (Alones n ++ acts) ≡ read_under other acts
          front_read other acts = read_both other (Alones n) acts ∙ ap (λ (l : List ℤ). l ++ read_under other acts) (alones_read n other)

          front_sent : (other : ℕ) (acts : List Act) → sent_under other (Alones n ++ acts) ≡ sent_under other acts
          front_sent other acts = sent_both other (Alones n) acts ∙ ap (λ (l : List ℤ). l ++ sent_under other acts) (alones_sent n other)
      by OutOfFuel ran = tt

  -- a step is begun, and by itself the node goes where the execution has finished
  pub goes_only : (n : ℕ) (node : Node) (place : ℕ) (state : ProcessState) → n ≤ 8 → Goes n node (node_at program ports place state.x state.y) → Follows program ports names node place state (ended Finished (stepped state))
  goes_only n node place state few goes = record {
    acts = Alones n;
    run = goes;
    unread = λ name. ap (λ (l : List ℤ). l ++ state.unread name) (sym (alones_read n name));
    sent = λ name. sym (append-nil (state.sent name)) ∙ ap (λ (l : List ℤ). state.sent name ++ l) (sym (alones_sent n name));
    local = omega (arith, few, alones_count n);
    named = alones_named n;
  }

  -- the same where nothing is changed
  pub between : (n m : ℕ) (node mid : Node) (inner place : ℕ) (state : ProcessState) (execution : Execution) → n + m ≤ 8 → Goes n node mid → Follows program ports names mid inner (stepped state) execution →
      ((x y : ℤ) → Goes m (node_at program ports inner x y) (node_at program ports place x y)) → Follows program ports names node place state execution
  between n m node mid inner place state execution few first follows last =
      by execution.outcome (around n m node mid inner place state execution (λ after. after) few first follows (λ after name. refl) (λ after name. refl) (λ after. refl) (λ after. last after.x after.y))
    where
      by : (outcome : Outcome) → Follows program ports names node place state (and_then (record { state = execution.state; outcome = outcome }) (λ after. ended Finished after)) → FollowsTo program ports names node place state outcome execution.state
      by Finished ran = ran
      by (WaitsOn name) ran = ran
      by OutOfFuel ran = tt

  -- ---- one instruction, where it stands in a piece of code

  -- a jump to a place
  pub goes_to : (kind : JumpKind) (place target : ℕ) (x y : ℤ) → instr_at program place ≡ Some (jump_to (length program) kind target) → jumps kind x ≡ true → Goes 1 (node_at program ports place x y) (node_at program ports target x y)
  goes_to kind place target x y found made = jump_made program ports kind place target x y found made

  pub goes_past : (kind : JumpKind) (place target : ℕ) (x y : ℤ) → instr_at program place ≡ Some (jump_to (length program) kind target) → jumps kind x ≡ false → Goes 1 (node_at program ports place x y) (node_at program ports (place + 1) x y)
  goes_past kind place target x y found passed = jump_passed program ports kind place target x y found passed

  -- a place by another name
  pub goes_at : (n : ℕ) (node : Node) (place other : ℕ) (x y : ℤ) → place ≡ other → Goes n node (node_at program ports place x y) → Goes n node (node_at program ports other x y)
  goes_at n node place other x y is = at_place program ports names node (Alones n) place other x y is

  -- on y: SWP, a jump that isn't made, SWP
  pub past_y : (kind : JumpKind) (place target : ℕ) (x y : ℤ) → instr_at program place ≡ Some instr.Swp → instr_at program (place + 1) ≡ Some (jump_to (length program) kind target) → instr_at program (place + 1 + 1) ≡ Some instr.Swp → jumps kind y ≡ false → Goes 3 (node_at program ports place x y) (node_at program ports (place + 3) x y)
  past_y kind place target x y first second third passed =
      goes_then 2 1 (node_at program ports place x y) (node_at program ports (place + 1 + 1) y x) (node_at program ports (place + 3) x y)
      (goes_then 1 1 (node_at program ports place x y) (node_at program ports (place + 1) y x) (node_at program ports (place + 1 + 1) y x) (swapped program ports names place x y first) (goes_past kind (place + 1) target y x second passed))
      (goes_at 1 (node_at program ports (place + 1 + 1) y x) (place + 1 + 1 + 1) (place + 3) x y (omega arith) (swapped program ports names (place + 1 + 1) y x third))

  -- on y: SWP, a jump that is made, and SWP where it goes
  pub over_y : (kind : JumpKind) (place target : ℕ) (x y : ℤ) → instr_at program place ≡ Some instr.Swp → instr_at program (place + 1) ≡ Some (jump_to (length program) kind target) → instr_at program target ≡ Some instr.Swp → jumps kind y ≡ true → Goes 3 (node_at program ports place x y) (node_at program ports (target + 1) x y)
  over_y kind place target x y first second third made =
      goes_then 2 1 (node_at program ports place x y) (node_at program ports target y x) (node_at program ports (target + 1) x y)
      (goes_then 1 1 (node_at program ports place x y) (node_at program ports (place + 1) y x) (node_at program ports target y x) (swapped program ports names place x y first) (goes_to kind (place + 1) target y x second made))
      (swapped program ports names target y x third)
