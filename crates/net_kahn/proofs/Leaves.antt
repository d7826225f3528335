-- Statements without blocks.
use Rattle.std.proofs.Common.{◌≡◌, ℕ, ◌+◌, ◌-◌, ℤ, List, refl, sym, ap, subst, ◌∙◌}
use Rattle.std.specs.Prelude.{Result, Ok, Err}
use Rattle.net_tree.specs.declared.tree.Var.{Var}
use Rattle.net_tree.specs.declared.tree.Var.TheVariants.{X, Y}
use Rattle.net_tree.specs.Tree.{Swap}
use Rattle.net_rules.specs.Process.{Streams, ProcessState, Finished, WaitsOn, Execution, ended, does, reads, read_from, read_first, send, value_in, with_value as with_value_in, exec_statement}
use Rattle.net_kahn.specs.declared.link.Link.{Link}
use Rattle.net_kahn.specs.declared.machine.Machine.{Machine}
use Rattle.net_kahn.specs.declared.machine.Stop.{Stop}
use Rattle.net_kahn.specs.declared.machine.Stop.TheVariants.{Waits, NoMemory}
use Rattle.net_kahn.specs.Links.{unread_in, sent_in}
use Rattle.net_kahn.specs.Machines.{by_number, AreLinks, AreAfter, state_of, value_of, with_value, IsAfter, Takes, Gives, Comes, Did}
use Rattle.net_kahn.proofs.Coming.{comes_begun, comes_done}

-- ---- states

abbrev state_with : ℤ → ℤ → Streams → Streams → ℕ → ℕ → ProcessState
state_with x y unread sent steps fuel = record { x = x; y = y; unread = unread; sent = sent; steps = steps; fuel = fuel }

pub same_state : (x x2 y y2 : ℤ) (unread unread2 sent sent2 : Streams) (steps fuel : ℕ) → x ≡ x2 → y ≡ y2 → unread ≡ unread2 → sent ≡ sent2 → state_with x y unread sent steps fuel ≡ state_with x2 y2 unread2 sent2 steps fuel
same_state x x2 y y2 unread unread2 sent sent2 steps fuel xs ys us ss =
    ap (λ v. state_with v y unread sent steps fuel) xs ∙ ap (λ v. state_with x2 v unread sent steps fuel) ys ∙ ap (λ v. state_with x2 y2 v sent steps fuel) us ∙ ap (λ v. state_with x2 y2 unread2 v steps fuel) ss

pub value_seen : (var : Var) (machine : Machine) (steps fuel : ℕ) → value_in var (state_of machine steps fuel) ≡ value_of var machine
value_seen X machine steps fuel = refl
value_seen Y machine steps fuel = refl

pub set_seen : (var : Var) (value : ℤ) (machine : Machine) (steps fuel : ℕ) → with_value_in var value (state_of machine steps fuel) ≡ state_of (with_value var value machine) steps fuel
set_seen X value machine steps fuel = refl
set_seen Y value machine steps fuel = refl

pub same_links : (machine : Machine) → AreLinks machine.process machine.links.items → IsAfter machine machine
same_links machine are = record { process = refl; links = record { links = are; count = refl; before = refl; given = refl } }

-- a variable is set behind something else
pub set_after : (old middle : Machine) (var : Var) (value : ℤ) → IsAfter old middle → IsAfter old (with_value var value middle)
set_after old middle X value after = record { process = after.process; links = after.links }
set_after old middle Y value after = record { process = after.process; links = after.links }

-- ---- changes

comes_change : (old new : Machine) (change : ProcessState → ProcessState) → ((steps fuel : ℕ) → change (state_of old steps fuel) ≡ state_of new steps fuel) → (steps fuel : ℕ) → Comes (does (state_of old steps fuel) change) (Ok tt) new
comes_change old new change same steps fuel =
    comes_begun old steps fuel (λ after. ended Finished (change after)) (Ok tt) new
    (subst (λ state. Comes (ended Finished state) (Ok tt) new) (sym (same (steps + 1) (fuel - 1))) (comes_done new (steps + 1) (fuel - 1)))

module _ (run : ProcessState → Execution) where
  -- the code did what is said so
  did_as : (other : ProcessState → Execution) → ((state : ProcessState) → run state ≡ other state) → (old : Machine) (result : Result (Unit {0}) Stop) (new : Machine) → Did other old result new → Did run old result new
  did_as other same old result new did =
      record { kept = did.kept; comes = λ steps fuel. subst (λ e. Comes e result new) (sym (same (state_of old steps fuel))) (did.comes steps fuel) }

  -- a variable is set
  pub sets : (old new : Machine) (var : Var) (value : ℤ) (number : ProcessState → ℤ) → AreLinks old.process old.links.items → new ≡ with_value var value old →
      ((steps fuel : ℕ) → number (state_of old steps fuel) ≡ value) → ((state : ProcessState) → run state ≡ does state (λ after. with_value_in var (number after) after)) → Did run old (Ok tt) new
  sets old new var value number are is seen same =
      subst (λ m. Did run old (Ok tt) m) (sym is)
      (did_as (λ state. does state (λ after. with_value_in var (number after) after)) same old (Ok tt) (with_value var value old) (record {
        kept = set_after old old var value (same_links old are);
        comes = comes_change old (with_value var value old) (λ after. with_value_in var (number after) after) (λ steps fuel. ap (λ v. with_value_in var v (state_of old steps fuel)) (seen steps fuel) ∙ set_seen var value old steps fuel);
      }))

  -- ---- reads

  took : (old middle : Machine) (name : ℕ) (value : ℤ) → Takes old name (Ok value) middle → (steps fuel : ℕ) (next : ℤ → ProcessState → Execution) → read_from name (state_of old steps fuel) next ≡ next value (state_of middle steps fuel)
  took old middle name value (same, read) steps fuel next =
      ap (λ values. read_first values name (state_of old steps fuel) next) read.first
      ∙ ap (next value) (same_state old.x middle.x old.y middle.y _ _ _ _ steps fuel (sym same.x) (sym same.y)
      (sym read.unread ∙ ap (λ p. by_number (unread_in p) middle.links.items) (sym same.process))
      (sym read.sent ∙ ap (λ p. by_number (sent_in p) middle.links.items) (sym same.process)))

  took_after : (old middle : Machine) (name : ℕ) (value : ℤ) → Takes old name (Ok value) middle → IsAfter old middle
  took_after old middle name value (same, read) = record { process = same.process; links = read.after }

  comes_read : (old middle new : Machine) (name : ℕ) (value : ℤ) (change : ℤ → ProcessState → ProcessState) → Takes old name (Ok value) middle → ((steps fuel : ℕ) → change value (state_of middle steps fuel) ≡ state_of new steps fuel) →
      (steps fuel : ℕ) → Comes (reads (state_of old steps fuel) name change) (Ok tt) new
  comes_read old middle new name value change takes same steps fuel =
      let next : ℤ → ProcessState → Execution = λ v left. ended Finished (change v left) in
      comes_begun old steps fuel (λ after. read_from name after next) (Ok tt) new
      (subst (λ e. Comes e (Ok tt) new) (sym (took old middle name value takes (steps + 1) (fuel - 1) next ∙ ap (ended Finished) (same (steps + 1) (fuel - 1)))) (comes_done new (steps + 1) (fuel - 1)))

  -- a value is read, and a variable set
  pub reads_and_sets : (old middle new : Machine) (name : ℕ) (read : ℤ) (var : Var) (value : ℤ) (number : ℤ → ProcessState → ℤ) → Takes old name (Ok read) middle → new ≡ with_value var value middle →
      ((steps fuel : ℕ) → number read (state_of middle steps fuel) ≡ value) → ((state : ProcessState) → run state ≡ reads state name (λ v after. with_value_in var (number v after) after)) → Did run old (Ok tt) new
  reads_and_sets old middle new name read var value number takes is seen same =
      let change : ℤ → ProcessState → ProcessState = λ v after. with_value_in var (number v after) after in
      subst (λ m. Did run old (Ok tt) m) (sym is)
      (did_as (λ state. reads state name change) same old (Ok tt) (with_value var value middle) (record {
        kept = set_after old middle var value (took_after old middle name read takes);
        comes = comes_read old middle (with_value var value middle) name read change takes (λ steps fuel. ap (λ v. with_value_in var v (state_of middle steps fuel)) (seen steps fuel) ∙ set_seen var value middle steps fuel);
      }))

  -- a read waits
  pub reads_none : (old new : Machine) (name : ℕ) (stop : Stop) (change : ℤ → ProcessState → ProcessState) → Takes old name (Err stop) new → ((state : ProcessState) → run state ≡ reads state name change) → Did run old (Err stop) new
  reads_none old new name NoMemory change takes same = absurd takes
  reads_none old new name Waits change (kept, read) same =
      let next : ℤ → ProcessState → Execution = λ v left. ended Finished (change v left) in
      did_as (λ state. reads state name change) same old (Err Waits) new (record {
        kept = record { process = kept.process; links = read.after };
        comes = λ steps fuel. comes_begun old steps fuel (λ after. read_from name after next) (Err Waits) new
            (subst (λ e. Comes e (Err Waits) new) (sym (waits (steps + 1) (fuel - 1) next)) (λ some. ((name, refl), refl)));
      })
    where
      waits : (steps fuel : ℕ) (next : ℤ → ProcessState → Execution) → read_from name (state_of old steps fuel) next ≡ ended (WaitsOn name) (state_of new steps fuel)
      waits steps fuel next =
          ap (λ values. read_first values name (state_of old steps fuel) next) read.none
          ∙ ap (ended (WaitsOn name)) (same_state old.x new.x old.y new.y _ _ _ _ steps fuel (sym kept.x) (sym kept.y)
          (sym read.unread ∙ ap (λ p. by_number (unread_in p) new.links.items) (sym kept.process))
          (sym read.sent ∙ ap (λ p. by_number (sent_in p) new.links.items) (sym kept.process)))

  -- ---- sends

  gave : (old new : Machine) (name : ℕ) (value : ℤ) → Gives old name value new → (steps fuel : ℕ) → send name value (state_of old steps fuel) ≡ state_of new steps fuel
  gave old new name value (same, sends) steps fuel =
      same_state old.x new.x old.y new.y _ _ _ _ steps fuel (sym same.x) (sym same.y)
      (sym sends.unread ∙ ap (λ p. by_number (unread_in p) new.links.items) (sym same.process))
      (sym sends.sent ∙ ap (λ p. by_number (sent_in p) new.links.items) (sym same.process))

  -- a value is sent
  pub gives : (old new : Machine) (name : ℕ) (value : ℤ) (number : ProcessState → ℤ) → Gives old name value new →
      ((steps fuel : ℕ) → number (state_of old steps fuel) ≡ value) → ((state : ProcessState) → run state ≡ does state (λ after. send name (number after) after)) → Did run old (Ok tt) new
  gives old new name value number given seen same =
      did_as (λ state. does state (λ after. send name (number after) after)) same old (Ok tt) new (record {
        kept = record { process = given.0.process; links = given.1.after };
        comes = comes_change old new (λ after. send name (number after) after) (λ steps fuel. ap (λ v. send name v (state_of old steps fuel)) (seen steps fuel) ∙ gave old new name value given steps fuel);
      })

-- ---- what is after something that is after something

pub links_after : (process : ℕ) (old middle new : List Link) → AreAfter process old middle → AreAfter process middle new → AreAfter process old new
links_after process old middle new first second =
    record { links = second.links; count = second.count ∙ first.count; before = second.before ∙ first.before; given = second.given ∙ first.given }

pub after_both : (old middle new : Machine) → IsAfter old middle → IsAfter middle new → IsAfter old new
after_both old middle new first second =
    record {
      process = second.process ∙ first.process;
      links = links_after old.process old.links.items middle.links.items new.links.items first.links (subst (λ p. AreAfter p middle.links.items new.links.items) first.process second.links);
    }

-- a value is read and sent on
pub passes_on : (old middle new : Machine) (name written : ℕ) (value : ℤ) → Takes old name (Ok value) middle → Gives middle written value new → Did (λ state. reads state name (λ v after. send written v after)) old (Ok tt) new
passes_on old middle new name written value takes given =
    record {
      kept = after_both old middle new (record { process = takes.0.process; links = takes.1.after }) (record { process = given.0.process; links = given.1.after });
      comes = comes_read (λ state. ended Finished state) old middle new name value (λ v after. send written v after) takes (λ steps fuel. gave (λ state. ended Finished state) middle new written value given steps fuel);
    }

-- the variables are exchanged
pub exchanges : (old new : Machine) → AreLinks old.process old.links.items → new ≡ record old { x = old.y; y = old.x } → Did (exec_statement Swap) old (Ok tt) new
exchanges old new are is =
    subst (λ m. Did (exec_statement Swap) old (Ok tt) m) (sym is) (record {
      kept = record { process = refl; links = record { links = are; count = refl; before = refl; given = refl } };
      comes = comes_change old (record old { x = old.y; y = old.x }) (λ after. record after { x = after.y; y = after.x }) (λ steps fuel. refl);
    })

-- the links behind a read
pub links_read : (old middle : Machine) (name : ℕ) (value : ℤ) → Takes old name (Ok value) middle → AreLinks middle.process middle.links.items
links_read old middle name value takes = subst (λ p. AreLinks p middle.links.items) (sym takes.0.process) takes.1.after.links
