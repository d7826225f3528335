-- The code of a process follows it: by recursion on its statements, and then round after round.
use Rattle.std.proofs.Common.{◌≡◌, ℕ, zero, suc, ◌+◌, ◌≤◌, ℤ, pos, negsuc, Bool, true, false, cond, List, [], ◌∷◌, ◌++◌, length, refl, sym, ap, subst, ◌∙◌, arith, append-nil, true≢false, eq-eqb}
use Rattle.std.specs.Prelude.{◌==◌, not, ◌+ℤ◌, ◌-ℤ◌, neg_ℤ}
use Rattle.tis_base.specs.Saturation.{sat}
use Rattle.tis_asm.specs.declared.instr.Source.TheVariants as from
use Rattle.tis_asm.specs.declared.instr.Dest.TheVariants as to
use Rattle.tis_asm.specs.declared.instr.Jump.{Jump as JumpKind}
use Rattle.tis_asm.specs.declared.instr.Jump.TheVariants.{IfPositive}
use Rattle.tis_asm.specs.declared.instr.Instr.TheVariants as instr
use Rattle.tis_asm.specs.declared.program.MarkedInstr.{MarkedInstr}
use Rattle.tis_asm.specs.Node.{Node, jumps}
use Rattle.net_tree.specs.declared.tree.Var.{Var}
use Rattle.net_tree.specs.declared.tree.Var.TheVariants.{X, Y}
use Rattle.net_tree.specs.declared.tree.Test.{Test}
use Rattle.net_tree.specs.Tree.{Statement, Get, GetAdd, GetSub, Put, PutNumber, Move, Set, Add, Sub, Neg, Double, Copy, Swap, If, While, Count, Block, Empty, Then}
use Rattle.net_rules.specs.Uses.{read_of, written_of, as_list, reads_in, reads_inside, writes_in, writes_inside}
use Rattle.net_rules.specs.Process.{ProcessState, Finished, Execution, ended, and_then, stepped, value_in, becomes, passes, is_positive, loop, exec, exec_statement, round, rounds_within}
use Rattle.net_select.specs.Selection.{Ports, Placed, on, jump_of, jumps_where_held, if_code, if_frame, leaving_code, entering_code, with_one_less, count_frame, while_frame, statement_lines, block_lines, statement_code, block_code}
use Rattle.net_select.proofs.Lengths.{one_less_lines, statement_has, block_has}
use Rattle.net_select.proofs.Runs.{Alone, node_at, pc_of, ready_at, HoldsAt, alone, takes}
use Rattle.net_select.proofs.Follows.{Names, Follows, then, begun}
use Rattle.net_select.proofs.Statements.{at_place, on_y, on_local, on_take, on_put, put_number, move, copy, swap}
use Rattle.net_select.proofs.Branches.{jumps_when, Goes, goes_then, goes_only, around, between}
use Rattle.net_select.proofs.Loops.{Translates, HasLines, behind, if_x, if_y, loops, value_of, GoesRound, leaves_x, leaves_y, enters_x, enters_y}

-- each of these names is one of those
abbrev pub EachIs : (ℕ → Type 0) → List ℕ → Type 0
EachIs Is [] = Unit {0}
EachIs Is (name ∷ names) = Is name × EachIs Is names

pub each_both : (Is : ℕ → Type 0) (first second : List ℕ) → EachIs Is (first ++ second) → EachIs Is first × EachIs Is second
each_both Is [] second each = (tt, each)
each_both Is (name ∷ first) second (here, rest) = let both = each_both Is first second rest in ((here, both.0), both.1)

-- ---- tests

value_is : (var : Var) (state : ProcessState) → value_of var state.x state.y ≡ value_in var state
value_is X state = refl
value_is Y state = refl

-- the jump of a test, where the test tells this
jump_tells : (test : Test) (value : ℤ) (b : Bool) → passes test value ≡ b → jumps (jump_of test) value ≡ cond b (jumps_where_held test) (not (jumps_where_held test))
jump_tells test value b is = jumps_when test value ∙ ap (λ (p : Bool). cond (jumps_where_held test) p (not p)) is ∙ either (jumps_where_held test) b
  where
    either : (h b : Bool) → cond h b (not b) ≡ cond b h (not h)
    either true true = refl
    either true false = refl
    either false true = refl
    either false false = refl

-- the jump of a `count`
positive_tells : (value : ℤ) (b : Bool) → is_positive value ≡ b → jumps IfPositive value ≡ cond b true false
positive_tells value b is = same value ∙ is ∙ itself b
  where
    same : (value : ℤ) → jumps IfPositive value ≡ is_positive value
    same (pos n) = refl
    same (negsuc n) = refl

    itself : (b : Bool) → b ≡ cond b true false
    itself true = refl
    itself false = refl

-- how many instructions a loop has besides those of its body, by what its jump does
abbrev loop_frame : Bool → Var → ℕ
loop_frame held X = cond held 3 2
loop_frame held Y = cond held 6 5

module _ (program : List MarkedInstr) (ports : Ports) (names : Names) where
  abbrev N : ℕ → ℤ → ℤ → Node
  N = node_at program ports

  follows_at : (node : Node) (place other : ℕ) (state : ProcessState) (execution : Execution) → place ≡ other → Follows program ports names node place state execution → Follows program ports names node other state execution
  follows_at node place other state execution is = subst (λ (p : ℕ). Follows program ports names node p state execution) is

  -- ---- an `if`

  if_does : (held : Bool) (kind : JumpKind) (var : Var) (passed : Bool) (first second : Block ℕ) (place : ℕ) (state : ProcessState) → jumps kind (value_in var state) ≡ cond passed held (not held) →
      Translates program ports names (block_code ports (length program) first) (block_lines first) (exec first) → Translates program ports names (block_code ports (length program) second) (block_lines second) (exec second) →
      HoldsAt program ports place (if_code (length program) var kind (cond held (block_lines second) (block_lines first)) (cond held (block_lines first) (block_lines second)) (cond held (block_code ports (length program) second) (block_code ports (length program) first)) (cond held (block_code ports (length program) first) (block_code ports (length program) second)) place) →
      Follows program ports names (N place state.x state.y) (place + (if_frame var (cond held (block_lines first) (block_lines second)) + (block_lines first + block_lines second))) state (cond passed (exec first (stepped state)) (exec second (stepped state)))
  if_does true kind X true first second place state is does_first does_second holds =
      follows_at _ (place + (if_frame X (block_lines first) + (block_lines second + block_lines first))) _ state _ (omega arith) (if_x program ports names kind (block_code ports (length program) second) (block_code ports (length program) first) (block_lines second) (block_lines first) (exec second) (exec first) (block_has ports (length program) second) (block_has ports (length program) first) does_second does_first (block_lines first == 0) true place state refl is holds)
  if_does true kind X false first second place state is does_first does_second holds =
      follows_at _ (place + (if_frame X (block_lines first) + (block_lines second + block_lines first))) _ state _ (omega arith) (if_x program ports names kind (block_code ports (length program) second) (block_code ports (length program) first) (block_lines second) (block_lines first) (exec second) (exec first) (block_has ports (length program) second) (block_has ports (length program) first) does_second does_first (block_lines first == 0) false place state refl is holds)
  if_does false kind X true first second place state is does_first does_second holds =
      if_x program ports names kind (block_code ports (length program) first) (block_code ports (length program) second) (block_lines first) (block_lines second) (exec first) (exec second) (block_has ports (length program) first) (block_has ports (length program) second) does_first does_second (block_lines second == 0) false place state refl is holds
  if_does false kind X false first second place state is does_first does_second holds =
      if_x program ports names kind (block_code ports (length program) first) (block_code ports (length program) second) (block_lines first) (block_lines second) (exec first) (exec second) (block_has ports (length program) first) (block_has ports (length program) second) does_first does_second (block_lines second == 0) true place state refl is holds
  if_does true kind Y true first second place state is does_first does_second holds =
      follows_at _ (place + (5 + (block_lines second + block_lines first))) _ state _ (omega arith) (if_y program ports names kind (block_code ports (length program) second) (block_code ports (length program) first) (block_lines second) (block_lines first) (exec second) (exec first) (block_has ports (length program) second) (block_has ports (length program) first) does_second does_first true place state is holds)
  if_does true kind Y false first second place state is does_first does_second holds =
      follows_at _ (place + (5 + (block_lines second + block_lines first))) _ state _ (omega arith) (if_y program ports names kind (block_code ports (length program) second) (block_code ports (length program) first) (block_lines second) (block_lines first) (exec second) (exec first) (block_has ports (length program) second) (block_has ports (length program) first) does_second does_first false place state is holds)
  if_does false kind Y true first second place state is does_first does_second holds =
      if_y program ports names kind (block_code ports (length program) first) (block_code ports (length program) second) (block_lines first) (block_lines second) (exec first) (exec second) (block_has ports (length program) first) (block_has ports (length program) second) does_first does_second false place state is holds
  if_does false kind Y false first second place state is does_first does_second holds =
      if_y program ports names kind (block_code ports (length program) first) (block_code ports (length program) second) (block_lines first) (block_lines second) (exec first) (exec second) (block_has ports (length program) first) (block_has ports (length program) second) does_first does_second true place state is holds

  -- ---- loops

  -- a loop whose body is all that a turn does
  while_does : (kind : JumpKind) (var : Var) (body : Placed) (lines top end inside in_steps out_steps : ℕ) (enters : Bool) (holds : ProcessState → Bool) (does : ProcessState → Execution) → GoesRound program ports names kind var body lines top end inside in_steps out_steps enters → in_steps + 1 ≤ 8 → out_steps ≤ 8 →
      ((state : ProcessState) (b : Bool) → holds state ≡ b → jumps kind (value_of var state.x state.y) ≡ cond b enters (not enters)) → Translates program ports names body lines does →
      (state : ProcessState) → Follows program ports names (N top state.x state.y) end state (loop holds does state)
  while_does kind var body lines top end inside in_steps out_steps enters holds does goes few_in few_out tells follows state =
      loops program ports names top end holds does
      (λ s is. between program ports names in_steps 1 (N top s.x s.y) (N inside s.x s.y) (inside + lines) top s (does (stepped s)) few_in (goes.into s.x s.y (tells (stepped s) true is)) (follows inside goes.stands (stepped s)) goes.back)
      (λ s is. goes_only program ports names out_steps (N top s.x s.y) end s few_out (goes.out s.x s.y (tells (stepped s) false is)))
      state.fuel state

  -- where the first jump of a `while` enters it, or leaves it
  while_at : (held : Bool) (kind : JumpKind) (var : Var) (body : Placed) (lines top : ℕ) (holds : ProcessState → Bool) (does : ProcessState → Execution) → HasLines program ports names body lines →
      ((state : ProcessState) (b : Bool) → holds state ≡ b → jumps kind (value_of var state.x state.y) ≡ cond b held (not held)) → Translates program ports names body lines does →
      HoldsAt program ports top (cond held (entering_code (length program) var kind lines body top) (leaving_code (length program) var kind lines body top)) →
      (state : ProcessState) → Follows program ports names (N top state.x state.y) (top + (loop_frame held var + lines)) state (loop holds does state)
  while_at true kind X body lines top holds does has tells follows stands state =
      follows_at _ (top + 3 + lines) _ state _ (omega arith) (while_does kind X body lines top (top + 3 + lines) (top + 2) 1 2 true holds does (enters_x program ports names kind body lines has top stands) (omega arith) (omega arith) tells follows state)
  while_at true kind Y body lines top holds does has tells follows stands state =
      follows_at _ (top + 6 + lines) _ state _ (omega arith) (while_does kind Y body lines top (top + 6 + lines) (top + 5) 3 4 true holds does (enters_y program ports names kind body lines has top stands) (omega arith) (omega arith) tells follows state)
  while_at false kind X body lines top holds does has tells follows stands state =
      follows_at _ (top + 2 + lines) _ state _ (omega arith) (while_does kind X body lines top (top + 2 + lines) (top + 1) 1 1 false holds does (leaves_x program ports names kind body lines has top stands) (omega arith) (omega arith) tells follows state)
  while_at false kind Y body lines top holds does has tells follows stands state =
      follows_at _ (top + 4 + lines + 1) _ state _ (omega arith) (while_does kind Y body lines top (top + 4 + lines + 1) (top + 3) 3 3 false holds does (leaves_y program ports names kind body lines has top stands) (omega arith) (omega arith) tells follows state)

  -- a `count`: a turn is its body, and then 1 is taken from the variable
  count_does : (var : Var) (body : Placed) (lines top end inside in_steps out_steps less_steps : ℕ) (does : ProcessState → Execution) → HasLines program ports names body lines → GoesRound program ports names IfPositive var (with_one_less var body) (lines + length (on var (instr.Nop ∷ []))) top end inside in_steps out_steps true → in_steps + (less_steps + 1) ≤ 8 → out_steps ≤ 8 →
      Translates program ports names body lines does →
      ((place : ℕ) → HoldsAt program ports place (on var (instr.Sub (from.Number (pos 1)) ∷ [])) → (after : ProcessState) → Goes program ports names less_steps (N place after.x after.y) (N (place + length (on var (instr.Nop ∷ []))) (becomes var (value_in var after -ℤ pos 1) after).x (becomes var (value_in var after -ℤ pos 1) after).y)) →
      ((after : ProcessState) → (name : ℕ) → (becomes var (value_in var after -ℤ pos 1) after).unread name ≡ after.unread name) → ((after : ProcessState) → (name : ℕ) → (becomes var (value_in var after -ℤ pos 1) after).sent name ≡ after.sent name) → ((after : ProcessState) → (becomes var (value_in var after -ℤ pos 1) after).steps ≡ after.steps) →
      (state : ProcessState) → Follows program ports names (N top state.x state.y) end state (loop (λ after. is_positive (value_in var after)) (λ after. and_then (does after) (λ done. ended Finished (becomes var (value_in var done -ℤ pos 1) done))) state)
  count_does var body lines top end inside in_steps out_steps less_steps does has goes few_in few_out follows less unread sent steps state =
      let both = behind program ports names body lines (on var (instr.Sub (from.Number (pos 1)) ∷ [])) inside has goes.stands in
      let there : inside + (lines + length (on var (instr.Nop ∷ []))) ≡ inside + lines + length (on var (instr.Nop ∷ [])) = omega arith in
      loops program ports names top end (λ after. is_positive (value_in var after)) (λ after. and_then (does after) (λ done. ended Finished (becomes var (value_in var done -ℤ pos 1) done)))
      (λ s is. around program ports names in_steps (less_steps + 1) (N top s.x s.y) (N inside s.x s.y) (inside + lines) top s (does (stepped s)) (λ done. becomes var (value_in var done -ℤ pos 1) done) few_in
      (goes.into s.x s.y (ap (jumps IfPositive) (value_is var (stepped s)) ∙ positive_tells (value_in var (stepped s)) true is)) (follows inside both.0 (stepped s)) unread sent steps
      (λ after. let done = becomes var (value_in var after -ℤ pos 1) after in
      goes_then program ports names less_steps 1 (N (inside + lines) after.x after.y) (N (inside + lines + length (on var (instr.Nop ∷ []))) done.x done.y) (N top done.x done.y) (less (inside + lines) both.1 after)
      (subst (λ (p : ℕ). Goes program ports names 1 (N p done.x done.y) (N top done.x done.y)) there (goes.back done.x done.y))))
      (λ s is. goes_only program ports names out_steps (N top s.x s.y) end s few_out (goes.out s.x s.y (ap (jumps IfPositive) (value_is var (stepped s)) ∙ positive_tells (value_in var (stepped s)) false is)))
      state.fuel state

  count_at : (var : Var) (body : Placed) (lines top : ℕ) (does : ProcessState → Execution) → HasLines program ports names body lines → Translates program ports names body lines does →
      HoldsAt program ports top (entering_code (length program) var IfPositive (lines + length (on var (instr.Nop ∷ []))) (with_one_less var body) top) →
      (state : ProcessState) → Follows program ports names (N top state.x state.y) (top + (count_frame var + lines)) state (loop (λ after. is_positive (value_in var after)) (λ after. and_then (does after) (λ done. ended Finished (becomes var (value_in var done -ℤ pos 1) done))) state)
  count_at X body lines top does has follows stands state =
      follows_at _ (top + 3 + (lines + 1)) _ state _ (omega arith)
      (count_does X body lines top (top + 3 + (lines + 1)) (top + 2) 1 2 1 does has (enters_x program ports names IfPositive (with_one_less X body) (lines + 1) (one_less_lines X body lines has) top stands) (omega arith) (omega arith) follows
      (λ place (found, _) after. alone program ports (instr.Sub (from.Number (pos 1))) place after.x after.y (sat (after.x -ℤ pos 1)) after.y found refl refl)
      (λ after name. refl) (λ after name. refl) (λ after. refl) state)
  count_at Y body lines top does has follows stands state =
      follows_at _ (top + 6 + (lines + 3)) _ state _ (omega arith)
      (count_does Y body lines top (top + 6 + (lines + 3)) (top + 5) 3 4 3 does has (enters_y program ports names IfPositive (with_one_less Y body) (lines + 3) (one_less_lines Y body lines has) top stands) (omega arith) (omega arith) follows
      (λ place less after. on_y program ports names (instr.Sub (from.Number (pos 1))) place after.x after.y (sat (after.y -ℤ pos 1)) (Alone ∷ []) less
      (λ found. alone program ports (instr.Sub (from.Number (pos 1))) (place + 1) after.y after.x (sat (after.y -ℤ pos 1)) after.x found refl refl))
      (λ after name. refl) (λ after name. refl) (λ after. refl) state)

  -- ---- statements and blocks

  mutual
    statement_does : (statement : Statement ℕ) → EachIs names.Read (as_list (read_of statement)) → EachIs names.Read (reads_inside statement) → EachIs names.Written (as_list (written_of statement)) → EachIs names.Written (writes_inside statement) →
        Translates program ports names (statement_code ports (length program) statement) (statement_lines statement) (exec_statement statement)
    statement_does (Get read var) (is, _) inside written deep place holds state =
        on_take program ports names var (instr.Mov (from.Port (ports read)) to.Acc) read (λ old value. value) place is refl holds (λ p a b value found. takes program ports (instr.Mov (from.Port (ports read)) to.Acc) read p a b value b value found refl refl) state
    statement_does (GetAdd read var) (is, _) inside written deep place holds state =
        on_take program ports names var (instr.Add (from.Port (ports read))) read (λ old value. sat (old +ℤ value)) place is refl holds (λ p a b value found. takes program ports (instr.Add (from.Port (ports read))) read p a b (sat (a +ℤ value)) b value found refl refl) state
    statement_does (GetSub read var) (is, _) inside written deep place holds state =
        on_take program ports names var (instr.Sub (from.Port (ports read))) read (λ old value. sat (old -ℤ value)) place is refl holds (λ p a b value found. takes program ports (instr.Sub (from.Port (ports read))) read p a b (sat (a -ℤ value)) b value found refl refl) state
    statement_does (Put written var) read inside (is, _) deep place holds state = on_put program ports names var written place is holds state
    statement_does (PutNumber written number) read inside (is, _) deep place holds state = put_number program ports names written place number is holds state
    statement_does (Move read written) (is, _) inside (to, _) deep place holds state = move program ports names read written place is to holds state
    statement_does (Set var number) read inside written deep place holds state =
        on_local program ports names var (instr.Mov (from.Number number) to.Acc) (λ old. number) place holds (λ p a b found. alone program ports (instr.Mov (from.Number number) to.Acc) p a b number b found refl refl) state
    statement_does (Add var number) read inside written deep place holds state =
        on_local program ports names var (instr.Add (from.Number number)) (λ old. sat (old +ℤ number)) place holds (λ p a b found. alone program ports (instr.Add (from.Number number)) p a b (sat (a +ℤ number)) b found refl refl) state
    statement_does (Sub var number) read inside written deep place holds state =
        on_local program ports names var (instr.Sub (from.Number number)) (λ old. sat (old -ℤ number)) place holds (λ p a b found. alone program ports (instr.Sub (from.Number number)) p a b (sat (a -ℤ number)) b found refl refl) state
    statement_does (Neg var) read inside written deep place holds state =
        on_local program ports names var instr.Neg (λ old. sat (neg_ℤ old)) place holds (λ p a b found. alone program ports instr.Neg p a b (sat (neg_ℤ a)) b found refl refl) state
    statement_does (Double var) read inside written deep place holds state =
        on_local program ports names var (instr.Add from.Acc) (λ old. sat (old +ℤ old)) place holds (λ p a b found. alone program ports (instr.Add from.Acc) p a b (sat (a +ℤ a)) b found refl refl) state
    statement_does (Copy v w) read inside written deep place holds state = copy program ports names v w place holds state
    statement_does Swap read inside written deep place holds state = swap program ports names place holds state
    statement_does (If var test first second) read inside written deep place holds state =
        let reads = each_both names.Read (reads_in first) (reads_in second) inside in
        let writes = each_both names.Written (writes_in first) (writes_in second) deep in
        begun program ports names (N place state.x state.y) (place + statement_lines (If var test first second)) state (λ after. cond (passes test (value_in var after)) (exec first after) (exec second after))
        (if_does (jumps_where_held test) (jump_of test) var (passes test (value_in var (stepped state))) first second place state (same_value var ∙ jump_tells test (value_in var (stepped state)) (passes test (value_in var (stepped state))) refl)
        (block_does first reads.0 writes.0) (block_does second reads.1 writes.1) holds)
      where
        same_value : (v : Var) → jumps (jump_of test) (value_in v state) ≡ jumps (jump_of test) (value_in v (stepped state))
        same_value X = refl
        same_value Y = refl
    statement_does (While var test body) read inside written deep place holds state =
        follows_at _ (place + (loop_frame (jumps_where_held test) var + block_lines body)) _ state _ (frame_is var)
        (while_at (jumps_where_held test) (jump_of test) var (block_code ports (length program) body) (block_lines body) place (λ after. passes test (value_in var after)) (exec body) (block_has ports (length program) body)
        (λ s b is. ap (jumps (jump_of test)) (value_is var s) ∙ jump_tells test (value_in var s) b is) (block_does body inside deep) holds state)
      where
        frame_is : (v : Var) → place + (loop_frame (jumps_where_held test) v + block_lines body) ≡ place + (while_frame v test + block_lines body)
        frame_is X = refl
        frame_is Y = refl
    statement_does (Count var body) read inside written deep place holds state =
        count_at var (block_code ports (length program) body) (block_lines body) place (exec body) (block_has ports (length program) body) (block_does body inside deep) holds state

    pub block_does : (block : Block ℕ) → EachIs names.Read (reads_in block) → EachIs names.Written (writes_in block) → Translates program ports names (block_code ports (length program) block) (block_lines block) (exec block)
    block_does Empty reads writes place holds state =
        record { acts = []; run = at_place program ports names (N place state.x state.y) [] place (place + 0) state.x state.y (omega arith) refl; unread = λ name. refl; sent = λ name. sym (append-nil (state.sent name)); local = omega arith; named = tt }
    block_does (Then line statement rest) reads writes place holds state =
        let read_first = each_both names.Read (as_list (read_of statement)) (reads_inside statement ++ reads_in rest) reads in
        let read_rest = each_both names.Read (reads_inside statement) (reads_in rest) read_first.1 in
        let written_first = each_both names.Written (as_list (written_of statement)) (writes_inside statement ++ writes_in rest) writes in
        let written_rest = each_both names.Written (writes_inside statement) (writes_in rest) written_first.1 in
        let both = behind program ports names (statement_code ports (length program) statement) (statement_lines statement) (block_code ports (length program) rest (place + statement_lines statement)) place (statement_has ports (length program) statement) holds in
        follows_at _ (place + statement_lines statement + block_lines rest) _ state _ (omega arith)
        (then program ports names (N place state.x state.y) (place + statement_lines statement) (place + statement_lines statement + block_lines rest) state (exec_statement statement state) (exec rest)
        (statement_does statement read_first.0 read_rest.0 written_first.0 written_rest.0 place both.0 state) (λ after. block_does rest read_rest.1 written_rest.1 (place + statement_lines statement) both.1 after))

  -- ---- rounds

  -- behind the last instruction the first follows
  wraps : (place : ℕ) → place ≡ length program → pc_of (length program) place ≡ pc_of (length program) 0
  wraps place is = by (place == length program) (0 == length program) refl refl
    where
      by : (b c : Bool) → (place == length program) ≡ b → (0 == length program) ≡ c → cond b 0 place ≡ cond c 0 0
      by true true last first = refl
      by true false last first = refl
      by false true last first = absurd (true≢false (sym (eq-eqb place (length program) is) ∙ last))
      by false false last first = absurd (true≢false (sym (eq-eqb place (length program) is) ∙ last))

  pub rounds_do : (body : Block ℕ) → EachIs names.Read (reads_in body) → EachIs names.Written (writes_in body) → HoldsAt program ports 0 (block_code ports (length program) body 0) → block_lines body ≡ length program →
      (rounds : ℕ) (state : ProcessState) → Follows program ports names (N 0 state.x state.y) 0 state (rounds_within rounds body state)
  rounds_do body reads writes holds all zero state = tt
  rounds_do body reads writes holds all (suc more) state =
      then program ports names (N 0 state.x state.y) 0 0 state (round body state) (rounds_within more body)
      (begun program ports names (N 0 state.x state.y) 0 state (exec body)
      (between program ports names 0 0 (N 0 state.x state.y) (N 0 state.x state.y) (0 + block_lines body) 0 state (exec body (stepped state)) (omega arith) refl (block_does body reads writes 0 holds (stepped state))
      (λ x y. ap (λ (p : ℕ). ready_at p x y) (wraps (0 + block_lines body) (omega (arith, all))))))
      (rounds_do body reads writes holds all more)
