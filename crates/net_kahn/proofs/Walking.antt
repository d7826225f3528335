-- A walk through the statements of a block, and the turns of a loop.
use Rattle.std.proofs.Common.{◌≡◌, ℕ, zero, suc, ◌+◌, ◌-◌, ◌<◌, ◌≤◌, true, false, Bool, ℤ, pos, negsuc, List, [], ◌∷◌, length, drop, refl, sym, ap, subst, ◌∙◌, arith}
use Rattle.std.specs.Prelude.{if◌then◌else◌, Option, Some, slice_get, option_map, Result, Ok, Err, ◌-ℤ◌}
use Rattle.std.proofs.lemmas.Int.{ints, clamps}
use Rattle.std.proofs.lemmas.List.{drop_all}
use Rattle.std.proofs.lemmas.Option.{same_Some}
use Rattle.tis_base.specs.Saturation.{sat, IsValue}
use Rattle.tis_base.proofs.Saturating.{sat_is_value}
use Rattle.net_tree.specs.declared.tree.Var.{Var}
use Rattle.net_tree.specs.declared.tree.Var.TheVariants.{X, Y}
use Rattle.net_tree.specs.declared.tree.Test.{Test}
use Rattle.net_tree.specs.Tree.{Statement, If, While, Count, Block, Empty, Then, statements_of}
use Rattle.net_numbered.specs.View.{Lined, block_of}
use Rattle.net_rules.specs.Sizes.{block_size, statement_size}
use Rattle.net_rules.specs.Sure.{changes_in, IsSureBlock, IsSure}
use Rattle.net_rules.specs.Process.{ProcessState, Outcome, Finished, WaitsOn, OutOfFuel, Execution, ended, followed, and_then, becomes, value_in, is_positive, passes, exec_statement, exec, loop, rounds}
use Rattle.net_kahn.specs.declared.machine.Machine.{Machine}
use Rattle.net_kahn.specs.declared.machine.Stop.{Stop}
use Rattle.net_kahn.specs.declared.machine.Stop.TheVariants.{Waits, NoMemory}
use Rattle.net_kahn.specs.Machines.{state_of, value_of, with_value, IsReady, IsAfter, Kept, Comes, Did}
use Rattle.net_kahn.specs.Written.{WritesBelow, StatementWritesBelow}
use Rattle.net_kahn.proofs.Coming.{comes_then, comes_stopped, comes_begun, comes_done, LoopComes, one_turn, stopped_turn, no_turn, RoundsCome, one_round, stopped_round}
use Rattle.net_kahn.proofs.Leaves.{value_seen, set_seen, same_links, after_both, set_after}
use Rattle.net_kahn.proofs.Finishing.{falls, finishes}

abbrev Outcomes : Type 0
Outcomes = Result (Unit {0}) Stop

abbrev found : List Lined → ℕ → Option (Statement ℕ)
found statements index = option_map (λ s. s.1) (slice_get statements index)

-- ---- the statement at an index

nothing : (index : ℕ) (statement : Statement ℕ) → found [] index ≡ Some statement → ⊥
nothing zero statement is = cc
nothing (suc index) statement is = cc

-- the statement at an index, and those behind it
pub next_at : (statements : List Lined) (index : ℕ) (statement : Statement ℕ) → found statements index ≡ Some statement → (line : ℕ) × (drop index statements ≡ (line, statement) ∷ drop (index + 1) statements)
next_at [] index statement is = absurd (nothing index statement is)
next_at (s ∷ statements) zero statement is = (s.0, ap (λ (st : Statement ℕ). (s.0, st) ∷ statements) (same_Some s.1 statement is))
next_at (s ∷ statements) (suc index) statement is =
    let rest = next_at statements index statement is in
    (rest.0, rest.1 ∙ ap (λ n. (rest.0, statement) ∷ drop n (s ∷ statements)) (more index))
  where
    more : (n : ℕ) → suc (n + 1) ≡ suc n + 1
    more n = omega arith

pub sure_at : (CanRead : ℕ → Type 0) (block : Block ℕ) (index : ℕ) (statement : Statement ℕ) → found (statements_of block) index ≡ Some statement → IsSureBlock CanRead block → IsSure CanRead statement
sure_at CanRead Empty index statement is sure = absurd (nothing index statement is)
sure_at CanRead (Then line first rest) zero statement is sure = subst (λ (s : Statement ℕ). IsSure CanRead s) (same_Some first statement is) sure.0
sure_at CanRead (Then line first rest) (suc index) statement is sure = sure_at CanRead rest index statement is sure.1

pub written_at : (count : ℕ) (block : Block ℕ) (index : ℕ) (statement : Statement ℕ) → found (statements_of block) index ≡ Some statement → WritesBelow count block → StatementWritesBelow count statement
written_at count Empty index statement is written = absurd (nothing index statement is)
written_at count (Then line first rest) zero statement is written = subst (λ (s : Statement ℕ). StatementWritesBelow count s) (same_Some first statement is) written.0
written_at count (Then line first rest) (suc index) statement is written = written_at count rest index statement is written.1

block_positive : (block : Block ℕ) → 1 ≤ block_size block
block_positive Empty = omega arith
block_positive (Then line statement rest) = let more = block_positive rest in omega (arith, more)

-- a statement of a block is smaller than the block
pub smaller : (block : Block ℕ) (index : ℕ) (statement : Statement ℕ) → found (statements_of block) index ≡ Some statement → statement_size statement < block_size block
smaller Empty index statement is = absurd (nothing index statement is)
smaller (Then line first rest) zero statement is =
    let positive = block_positive rest in
    subst (λ (s : Statement ℕ). statement_size s < statement_size first + block_size rest) (same_Some first statement is) (omega (arith, positive))
smaller (Then line first rest) (suc index) statement is = let more = smaller rest index statement is in omega (arith, more)

pub whole_block : (block : Block ℕ) → block_of (statements_of block) ≡ block
whole_block Empty = refl
whole_block (Then line statement rest) = ap (Then line statement) (whole_block rest)

-- ---- a walk

kept_after : (old middle : Machine) (result : Outcomes) (new : Machine) → IsAfter old middle → Kept middle result new → Kept old result new
kept_after old middle (Ok done) new after kept = after_both old middle new after kept
kept_after old middle (Err Waits) new after kept = after_both old middle new after kept
kept_after old middle (Err NoMemory) new after kept = tt

-- the statements before an index were done: what comes of the others comes of the whole block
pub record Walks (block : Block ℕ) (index : ℕ) (start now : Machine) : Type 0 where
  pub ready : IsReady now
  pub after : IsAfter start now
  pub whole : (result : Outcomes) (new : Machine) → ((steps fuel : ℕ) → Comes (exec (block_of (drop index (statements_of block))) (state_of now steps fuel)) result new) → (steps fuel : ℕ) → Comes (exec block (state_of start steps fuel)) result new

pub walk_begins : (block : Block ℕ) (start : Machine) → IsReady start → Walks block 0 start start
walk_begins block start ready =
    record {
      ready = ready;
      after = same_links start ready.links;
      whole = λ result new came steps fuel. subst (λ b. Comes (exec b (state_of start steps fuel)) result new) (whole_block block) (came steps fuel);
    }

module _ (block : Block ℕ) (index : ℕ) (statement : Statement ℕ) (start now : Machine) (is : found (statements_of block) index ≡ Some statement) (walks : Walks block index start now) where
  abbrev rest : Block ℕ
  rest = block_of (drop (index + 1) (statements_of block))

  next_block : (line : ℕ) × (block_of (drop index (statements_of block)) ≡ Then line statement rest)
  next_block = let next = next_at (statements_of block) index statement is in (next.0, ap block_of next.1)

  pub walk_next : (middle : Machine) → Did (exec_statement statement) now (Ok tt) middle → IsReady middle → Walks block (index + 1) start middle
  walk_next middle did ready =
      record {
        ready = ready;
        after = after_both start now middle walks.after did.kept;
        whole = λ result new came. walks.whole result new (λ steps fuel.
            subst (λ b. Comes (exec b (state_of now steps fuel)) result new) (sym next_block.1)
            (comes_then (exec_statement statement (state_of now steps fuel)) (exec rest) middle result new (did.comes steps fuel)
            (came (exec_statement statement (state_of now steps fuel)).state.steps (exec_statement statement (state_of now steps fuel)).state.fuel)));
      }

  pub walk_stops : (stop : Stop) (new : Machine) → Did (exec_statement statement) now (Err stop) new → Did (exec block) start (Err stop) new
  walk_stops stop new did =
      record {
        kept = kept_after start now (Err stop) new walks.after did.kept;
        comes = walks.whole (Err stop) new (λ steps fuel.
            subst (λ b. Comes (exec b (state_of now steps fuel)) (Err stop) new) (sym next_block.1)
            (comes_stopped (exec_statement statement (state_of now steps fuel)) (exec rest) stop new (did.comes steps fuel)));
      }

pub walk_ends : (block : Block ℕ) (index : ℕ) (start now : Machine) → length (statements_of block) ≤ index → Walks block index start now → Did (exec block) start (Ok tt) now
walk_ends block index start now past walks =
    record {
      kept = walks.after;
      comes = walks.whole (Ok tt) now (λ steps fuel.
          subst (λ (l : List Lined). Comes (exec (block_of l) (state_of now steps fuel)) (Ok tt) now) (sym (drop_all index (statements_of block) past)) (comes_done now steps fuel));
    }

-- a statement that was done leaves the process ready
pub ready_after : (statement : Statement ℕ) (old new : Machine) → IsReady old → IsSure (λ name. name < length old.links.items) statement → Did (exec_statement statement) old (Ok tt) new → IsReady new
ready_after statement old new ready sure did =
    (finishes (Then 0 statement Empty) old ready (sure, tt) new (record {
      kept = did.kept;
      comes = λ steps fuel. comes_then (exec_statement statement (state_of old steps fuel)) (exec Empty) new (Ok tt) new (did.comes steps fuel) (comes_done new _ _);
    })).ready

-- what is sure, and written, over links that are as many
pub sure_again : (block : Block ℕ) (old new : Machine) → IsAfter old new → IsSureBlock (λ name. name < length old.links.items) block → IsSureBlock (λ name. name < length new.links.items) block
sure_again block old new after sure = subst (λ n. IsSureBlock (λ name. name < n) block) (sym after.links.count) sure

pub written_again : (block : Block ℕ) (old new : Machine) → IsAfter old new → WritesBelow (length old.links.items) block → WritesBelow (length new.links.items) block
written_again block old new after written = subst (λ n. WritesBelow n block) (sym after.links.count) written

-- ---- turns

-- some turns were done: what comes of the loop from here comes of it from its start
pub record Turns (holds : ProcessState → Bool) (body : ProcessState → Execution) (start now : Machine) : Type 0 where
  pub ready : IsReady now
  pub after : IsAfter start now
  pub whole : (result : Outcomes) (new : Machine) → LoopComes holds body now result new → LoopComes holds body start result new

module _ (holds : ProcessState → Bool) (body : ProcessState → Execution) where
  pub turns_begin : (start : Machine) → IsReady start → Turns holds body start start
  turns_begin start ready = record { ready = ready; after = same_links start ready.links; whole = λ result new came. came }

  module _ (start now : Machine) (turns : Turns holds body start now) where
    turns_next : (middle : Machine) → IsReady middle → IsAfter now middle → ((steps fuel : ℕ) → holds (state_of now steps fuel) ≡ true) → ((steps fuel : ℕ) → (body (state_of now steps fuel)).state.fuel ≤ fuel) →
        ((steps fuel : ℕ) → Comes (body (state_of now steps fuel)) (Ok tt) middle) → Turns holds body start middle
    turns_next middle ready after passes falls did =
        record {
          ready = ready;
          after = after_both start now middle turns.after after;
          whole = λ result new came. turns.whole result new (one_turn holds body now middle result new passes falls did came);
        }

    turns_stop : (run : ProcessState → Execution) → ((state : ProcessState) → run state ≡ loop holds body state) → (stop : Stop) (new : Machine) → Kept now (Err stop) new → ((steps fuel : ℕ) → holds (state_of now steps fuel) ≡ true) → ((steps fuel : ℕ) → Comes (body (state_of now steps fuel)) (Err stop) new) → Did run start (Err stop) new
    turns_stop run same stop new kept passes did =
        record {
          kept = kept_after start now (Err stop) new turns.after kept;
          comes = λ steps fuel. subst (λ e. Comes e (Err stop) new) (sym (same (state_of start steps fuel))) (turns.whole (Err stop) new (stopped_turn holds body now stop new passes did) steps fuel fuel (omega arith));
        }

    turns_end : (run : ProcessState → Execution) → ((state : ProcessState) → run state ≡ loop holds body state) → ((steps fuel : ℕ) → holds (state_of now steps fuel) ≡ false) → Did run start (Ok tt) now
    turns_end run same fails =
        record {
          kept = turns.after;
          comes = λ steps fuel. subst (λ e. Comes e (Ok tt) now) (sym (same (state_of start steps fuel))) (turns.whole (Ok tt) now (no_turn holds body now fails) steps fuel fuel (omega arith));
        }

-- ---- while

module _ (var : Var) (test : Test) (body : Block ℕ) where
  abbrev holds_while : ProcessState → Bool
  holds_while state = passes test (value_in var state)

  abbrev pub WhileTurns : Machine → Machine → Type 0
  WhileTurns start now = Turns holds_while (exec body) start now

  tested : (now : Machine) (b : Bool) → passes test (value_of var now) ≡ b → (steps fuel : ℕ) → holds_while (state_of now steps fuel) ≡ b
  tested now b is steps fuel = ap (passes test) (value_seen var now steps fuel) ∙ is

  pub while_next : (start now middle : Machine) → IsSureBlock (λ name. name < length now.links.items) body → passes test (value_of var now) ≡ true → Did (exec body) now (Ok tt) middle → WhileTurns start now → WhileTurns start middle
  while_next start now middle sure is did turns =
      turns_next holds_while (exec body) start now turns middle (finishes body now turns.ready sure middle did).ready did.kept (tested now true is) (falls body now turns.ready sure) did.comes

  pub while_stops : (start now : Machine) (stop : Stop) (new : Machine) → passes test (value_of var now) ≡ true → Did (exec body) now (Err stop) new → WhileTurns start now → Did (exec_statement (While var test body)) start (Err stop) new
  while_stops start now stop new is did turns = turns_stop holds_while (exec body) start now turns (exec_statement (While var test body)) (λ state. refl) stop new did.kept (tested now true is) did.comes

  pub while_ends : (start now : Machine) → passes test (value_of var now) ≡ false → WhileTurns start now → Did (exec_statement (While var test body)) start (Ok tt) now
  while_ends start now is turns = turns_end holds_while (exec body) start now turns (exec_statement (While var test body)) (λ state. refl) (tested now false is)

-- ---- count

-- how many turns of a `count` may come
abbrev pub natural : ℤ → ℕ
natural (pos n) = n
natural (negsuc n) = 0

fewer_turns : (value : ℤ) → IsValue value → is_positive value ≡ true → natural (sat (value -ℤ pos 1)) < natural value
fewer_turns (pos zero) is positive = absurd cc
fewer_turns (pos (suc n)) is positive = let same : sat (pos (suc n) -ℤ pos 1) ≡ pos n = omega (arith, ints, clamps, is.1) in subst (λ v. natural v < suc n) (sym same) (omega arith)
fewer_turns (negsuc n) is positive = absurd cc

ready_set : (var : Var) (value : ℤ) (machine : Machine) → IsReady machine → IsValue value → IsReady (with_value var value machine)
ready_set X value machine ready is = record { links = ready.links; x = is; y = ready.y }
ready_set Y value machine ready is = record { links = ready.links; x = ready.x; y = is }

pub value_set : (var : Var) (value : ℤ) (machine : Machine) → value_of var (with_value var value machine) ≡ value
value_set X value machine = refl
value_set Y value machine = refl

module _ (var : Var) (body : Block ℕ) where
  abbrev holds_count : ProcessState → Bool
  holds_count state = is_positive (value_in var state)

  abbrev down : ProcessState → Execution
  down state = ended Finished (becomes var (value_in var state -ℤ pos 1) state)

  abbrev counted : ProcessState → Execution
  counted state = and_then (exec body state) down

  abbrev pub CountTurns : Machine → Machine → Type 0
  CountTurns start now = Turns holds_count counted start now

  positive : (now : Machine) (b : Bool) → is_positive (value_of var now) ≡ b → (steps fuel : ℕ) → holds_count (state_of now steps fuel) ≡ b
  positive now b is steps fuel = ap is_positive (value_seen var now steps fuel) ∙ is

  same_fuel : (v : Var) (value : ℤ) (state : ProcessState) → (becomes v value state).fuel ≡ state.fuel
  same_fuel X value state = refl
  same_fuel Y value state = refl

  down_fuel : (outcome : Outcome) (state : ProcessState) → (followed outcome state down).state.fuel ≡ state.fuel
  down_fuel Finished state = same_fuel var (value_in var state -ℤ pos 1) state
  down_fuel (WaitsOn name) state = refl
  down_fuel OutOfFuel state = refl

  down_seen : (middle : Machine) (steps fuel : ℕ) → down (state_of middle steps fuel) ≡ ended Finished (state_of (with_value var (sat (value_of var middle -ℤ pos 1)) middle) steps fuel)
  down_seen middle steps fuel =
      ap (λ v. ended Finished (becomes var (v -ℤ pos 1) (state_of middle steps fuel))) (value_seen var middle steps fuel) ∙ ap (ended Finished) (set_seen var (sat (value_of var middle -ℤ pos 1)) middle steps fuel)

  pub count_next : (start now middle : Machine) → IsSureBlock (λ name. name < length now.links.items) body → is_positive (value_of var now) ≡ true → Did (exec body) now (Ok tt) middle → CountTurns start now → CountTurns start (with_value var (sat (value_of var middle -ℤ pos 1)) middle)
  count_next start now middle sure is did turns =
      let next : Machine = with_value var (sat (value_of var middle -ℤ pos 1)) middle in
      let ready : IsReady next = ready_set var (sat (value_of var middle -ℤ pos 1)) middle (finishes body now turns.ready sure middle did).ready (sat_is_value (value_of var middle -ℤ pos 1)) in
      turns_next holds_count counted start now turns next ready (set_after now middle var (sat (value_of var middle -ℤ pos 1)) did.kept) (positive now true is)
      (λ steps fuel. omega (arith, down_fuel (exec body (state_of now steps fuel)).outcome (exec body (state_of now steps fuel)).state, falls body now turns.ready sure steps fuel))
      (λ steps fuel. comes_then (exec body (state_of now steps fuel)) down middle (Ok tt) next (did.comes steps fuel)
      (subst (λ e. Comes e (Ok tt) next) (sym (down_seen middle _ _)) (comes_done next _ _)))

  pub count_stops : (start now : Machine) (stop : Stop) (new : Machine) → is_positive (value_of var now) ≡ true → Did (exec body) now (Err stop) new → CountTurns start now → Did (exec_statement (Count var body)) start (Err stop) new
  count_stops start now stop new is did turns =
      turns_stop holds_count counted start now turns (exec_statement (Count var body)) (λ state. refl) stop new did.kept (positive now true is) (λ steps fuel. comes_stopped (exec body (state_of now steps fuel)) down stop new (did.comes steps fuel))

  pub count_ends : (start now : Machine) → is_positive (value_of var now) ≡ false → CountTurns start now → Did (exec_statement (Count var body)) start (Ok tt) now
  count_ends start now is turns = turns_end holds_count counted start now turns (exec_statement (Count var body)) (λ state. refl) (positive now false is)

  -- a turn of a `count` takes 1 from its variable
  pub count_falls : (now middle : Machine) → IsReady now → IsSureBlock (λ name. name < length now.links.items) body → changes_in var body ≡ false → is_positive (value_of var now) ≡ true → Did (exec body) now (Ok tt) middle →
      natural (sat (value_of var middle -ℤ pos 1)) < natural (value_of var now)
  count_falls now middle ready sure same is did =
      let kept = (finishes body now ready sure middle did).keeps var same in
      subst (λ v. natural (sat (v -ℤ pos 1)) < natural (value_of var now)) (sym kept) (fewer_turns (value_of var now) (is_value now var ready) is)
    where
      is_value : (machine : Machine) (v : Var) → IsReady machine → IsValue (value_of v machine)
      is_value machine X r = r.x
      is_value machine Y r = r.y

-- ---- if

pub chosen : (var : Var) (test : Test) (first second : Block ℕ) (old : Machine) (b : Bool) (result : Outcomes) (new : Machine) → passes test (value_of var old) ≡ b → Did (exec (if b then first else second)) old result new → Did (exec_statement (If var test first second)) old result new
chosen var test first second old b result new is did =
    record {
      kept = did.kept;
      comes = λ steps fuel. comes_begun old steps fuel (λ after. if passes test (value_in var after) then exec first after else exec second after) result new
          (subst (λ (c : Bool). Comes (if c then exec first (state_of old (steps + 1) (fuel - 1)) else exec second (state_of old (steps + 1) (fuel - 1))) result new) (sym (ap (passes test) (value_seen var old (steps + 1) (fuel - 1)) ∙ is))
          (by b did.comes (steps + 1) (fuel - 1)));
    }
  where
    by : (c : Bool) → ((steps fuel : ℕ) → Comes (exec (if c then first else second) (state_of old steps fuel)) result new) → (steps fuel : ℕ) → Comes (if c then exec first (state_of old steps fuel) else exec second (state_of old steps fuel)) result new
    by true comes steps fuel = comes steps fuel
    by false comes steps fuel = comes steps fuel

-- ---- rounds

-- some rounds were done: what comes of the rounds from here comes of them from the start
pub record RoundsSoFar (body : Block ℕ) (start now : Machine) : Type 0 where
  pub ready : IsReady now
  pub after : IsAfter start now
  pub whole : (result : Outcomes) (new : Machine) → RoundsCome body now result new → RoundsCome body start result new

module _ (body : Block ℕ) where
  pub rounds_begin : (start : Machine) → IsReady start → RoundsSoFar body start start
  rounds_begin start ready = record { ready = ready; after = same_links start ready.links; whole = λ result new came. came }

  module _ (start now : Machine) (so_far : RoundsSoFar body start now) where
    pub rounds_next : (middle : Machine) → IsSureBlock (λ name. name < length now.links.items) body → Did (exec body) now (Ok tt) middle → RoundsSoFar body start middle
    rounds_next middle sure did =
        record {
          ready = (finishes body now so_far.ready sure middle did).ready;
          after = after_both start now middle so_far.after did.kept;
          whole = λ result new came. so_far.whole result new (one_round body now middle result new (falls body now so_far.ready sure) did.comes came);
        }

    pub rounds_stop : (stop : Stop) (new : Machine) → Did (exec body) now (Err stop) new → Did (rounds body) start (Err stop) new
    rounds_stop stop new did =
        record {
          kept = kept_after start now (Err stop) new so_far.after did.kept;
          comes = λ steps fuel. so_far.whole (Err stop) new (stopped_round body now stop new did.comes) steps fuel fuel (omega arith);
        }
