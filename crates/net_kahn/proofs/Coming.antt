-- Executions one after the other, as the code does them.
use Rattle.std.proofs.Common.{◌≡◌, ℕ, zero, suc, ◌+◌, ◌-◌, ◌≤◌, true, false, cond, Bool, refl, sym, ap, subst, ◌∙◌, arith}
use Rattle.std.specs.Prelude.{nat_lt, Result, Ok, Err}
use Rattle.std.proofs.lemmas.Bool.{ltb-true}
use Rattle.net_rules.specs.Process.{ProcessState, Outcome, Finished, WaitsOn, OutOfFuel, Execution, ended, followed, and_then, begins, loop_within, rounds_within, exec}
use Rattle.net_tree.specs.Tree.{Block}
use Rattle.net_kahn.specs.declared.machine.Machine.{Machine}
use Rattle.net_kahn.specs.declared.machine.Stop.{Stop}
use Rattle.net_kahn.specs.declared.machine.Stop.TheVariants.{Waits, NoMemory}
use Rattle.net_kahn.specs.Machines.{state_of, CameTo, HasFuel, Comes}

abbrev Outcomes : Type 0
Outcomes = Result (Unit {0}) Stop

-- ---- one thing and then another

first_has_fuel : (outcome : Outcome) (state : ProcessState) (next : ProcessState → Execution) → HasFuel (followed outcome state next) → HasFuel (ended outcome state)
first_has_fuel outcome state next fuel out = fuel (ap (λ o. (followed o state next).outcome) out)

-- what comes behind something that was done
pub comes_then : (execution : Execution) (next : ProcessState → Execution) (middle : Machine) (result : Outcomes) (new : Machine) →
    Comes execution (Ok tt) middle → Comes (next (state_of middle execution.state.steps execution.state.fuel)) result new → Comes (and_then execution next) result new
comes_then execution next middle result new came then fuel =
    let is = came (first_has_fuel execution.outcome execution.state next fuel) in
    let same : and_then execution next ≡ next (state_of middle execution.state.steps execution.state.fuel) = ap (λ o. followed o execution.state next) is.0 ∙ ap next is.1 in
    subst (λ e. CameTo e result new) (sym same) (then (λ out. fuel (ap (λ (e : Execution). e.outcome) same ∙ out)))

stopped : (outcome : Outcome) (state : ProcessState) (next : ProcessState → Execution) (stop : Stop) (new : Machine) → CameTo (ended outcome state) (Err stop) new → CameTo (followed outcome state next) (Err stop) new
stopped Finished state next Waits new (waits, is) = absurd (never waits.0 waits.1)
  where
    never : (name : ℕ) → Finished ≡ WaitsOn name → ⊥
    never name is = cc
stopped (WaitsOn name) state next Waits new came = came
stopped OutOfFuel state next Waits new came = came
stopped outcome state next NoMemory new came = tt

-- nothing comes behind something that stops
pub comes_stopped : (execution : Execution) (next : ProcessState → Execution) (stop : Stop) (new : Machine) → Comes execution (Err stop) new → Comes (and_then execution next) (Err stop) new
comes_stopped execution next stop new came fuel = stopped execution.outcome execution.state next stop new (came (first_has_fuel execution.outcome execution.state next fuel))

-- a step is begun
pub comes_begun : (old : Machine) (steps fuel : ℕ) (next : ProcessState → Execution) (result : Outcomes) (new : Machine) →
    Comes (next (state_of old (steps + 1) (fuel - 1))) result new → Comes (begins (state_of old steps fuel) next) result new
comes_begun old steps fuel next result new then =
    elim (nat_lt 1 fuel) as (λ b. Comes (cond b (next (state_of old (steps + 1) (fuel - 1))) (ended OutOfFuel (state_of old steps fuel))) result new) [
      | true ↦ then
      | false ↦ λ none. absurd (none refl)
    ]

-- nothing more is done
pub comes_done : (machine : Machine) (steps fuel : ℕ) → Comes (ended Finished (state_of machine steps fuel)) (Ok tt) machine
comes_done machine steps fuel some = (refl, refl)

-- ---- loops

-- what a loop comes to from here, with any bound on its turns that is no less than the fuel
abbrev pub LoopComes : (ProcessState → Bool) → (ProcessState → Execution) → Machine → Outcomes → Machine → Type 0
LoopComes holds body old result new = (steps fuel more : ℕ) → fuel ≤ more → Comes (loop_within more holds body (state_of old steps fuel)) result new

module _ (holds : ProcessState → Bool) (body : ProcessState → Execution) (old : Machine) where
  -- one turn more
  pub one_turn : (middle : Machine) (result : Outcomes) (new : Machine) → ((steps fuel : ℕ) → holds (state_of old steps fuel) ≡ true) → ((steps fuel : ℕ) → (body (state_of old steps fuel)).state.fuel ≤ fuel) →
      ((steps fuel : ℕ) → Comes (body (state_of old steps fuel)) (Ok tt) middle) → LoopComes holds body middle result new → LoopComes holds body old result new
  one_turn middle result new passes falls did rest steps fuel zero few = λ none. absurd (none refl)
  one_turn middle result new passes falls did rest steps fuel (suc more) few =
      comes_begun old steps fuel (λ s. cond (holds s) (and_then (body s) (loop_within more holds body)) (ended Finished s)) result new
      (subst (λ b. Comes (cond b (and_then first (loop_within more holds body)) (ended Finished after)) result new) (sym (passes (steps + 1) (fuel - 1)))
      (comes_then first (loop_within more holds body) middle result new (did (steps + 1) (fuel - 1))
      (rest first.state.steps first.state.fuel more (omega (arith, few, falls (steps + 1) (fuel - 1))))))
    where
      after : ProcessState
      after = state_of old (steps + 1) (fuel - 1)

      first : Execution
      first = body (state_of old (steps + 1) (fuel - 1))

  -- a turn that stops
  pub stopped_turn : (stop : Stop) (new : Machine) → ((steps fuel : ℕ) → holds (state_of old steps fuel) ≡ true) → ((steps fuel : ℕ) → Comes (body (state_of old steps fuel)) (Err stop) new) → LoopComes holds body old (Err stop) new
  stopped_turn stop new passes did steps fuel zero few = λ none. absurd (none refl)
  stopped_turn stop new passes did steps fuel (suc more) few =
      comes_begun old steps fuel (λ s. cond (holds s) (and_then (body s) (loop_within more holds body)) (ended Finished s)) (Err stop) new
      (subst (λ b. Comes (cond b (and_then (body (state_of old (steps + 1) (fuel - 1))) (loop_within more holds body)) (ended Finished (state_of old (steps + 1) (fuel - 1)))) (Err stop) new) (sym (passes (steps + 1) (fuel - 1)))
      (comes_stopped (body (state_of old (steps + 1) (fuel - 1))) (loop_within more holds body) stop new (did (steps + 1) (fuel - 1))))

  -- no turn more
  pub no_turn : ((steps fuel : ℕ) → holds (state_of old steps fuel) ≡ false) → LoopComes holds body old (Ok tt) old
  no_turn fails steps fuel zero few = λ none. absurd (none refl)
  no_turn fails steps fuel (suc more) few =
      comes_begun old steps fuel (λ s. cond (holds s) (and_then (body s) (loop_within more holds body)) (ended Finished s)) (Ok tt) old
      (subst (λ b. Comes (cond b (and_then (body (state_of old (steps + 1) (fuel - 1))) (loop_within more holds body)) (ended Finished (state_of old (steps + 1) (fuel - 1)))) (Ok tt) old) (sym (fails (steps + 1) (fuel - 1)))
      (comes_done old (steps + 1) (fuel - 1)))

-- ---- rounds

abbrev pub RoundsCome : Block ℕ → Machine → Outcomes → Machine → Type 0
RoundsCome body old result new = (steps fuel more : ℕ) → fuel ≤ more → Comes (rounds_within more body (state_of old steps fuel)) result new

module _ (body : Block ℕ) (old : Machine) where
  -- one round more
  pub one_round : (middle : Machine) (result : Outcomes) (new : Machine) → ((steps fuel : ℕ) → (exec body (state_of old steps fuel)).state.fuel ≤ fuel) →
      ((steps fuel : ℕ) → Comes (exec body (state_of old steps fuel)) (Ok tt) middle) → RoundsCome body middle result new → RoundsCome body old result new
  one_round middle result new falls did rest steps fuel zero few = λ none. absurd (none refl)
  one_round middle result new falls did rest steps fuel (suc more) few =
      elim (nat_lt 1 fuel) as (λ b. nat_lt 1 fuel ≡ b → Comes (and_then (cond b first (ended OutOfFuel (state_of old steps fuel))) (rounds_within more body)) result new) [
        | true ↦ λ enough.
            let some = ltb-true 1 fuel enough in
            comes_then first (rounds_within more body) middle result new (did (steps + 1) (fuel - 1)) (rest first.state.steps first.state.fuel more (omega (arith, few, some, falls (steps + 1) (fuel - 1))))
        | false ↦ λ less none. absurd (none refl)
      ] refl
    where
      first : Execution
      first = exec body (state_of old (steps + 1) (fuel - 1))

  -- a round that stops
  pub stopped_round : (stop : Stop) (new : Machine) → ((steps fuel : ℕ) → Comes (exec body (state_of old steps fuel)) (Err stop) new) → RoundsCome body old (Err stop) new
  stopped_round stop new did steps fuel zero few = λ none. absurd (none refl)
  stopped_round stop new did steps fuel (suc more) few =
      elim (nat_lt 1 fuel) as (λ b. Comes (and_then (cond b (exec body (state_of old (steps + 1) (fuel - 1))) (ended OutOfFuel (state_of old steps fuel))) (rounds_within more body)) (Err stop) new) [
        | true ↦ comes_stopped (exec body (state_of old (steps + 1) (fuel - 1))) (rounds_within more body) stop new (did (steps + 1) (fuel - 1))
        | false ↦ λ none. absurd (none refl)
      ]
