-- A process whose rounds surely read comes to wait before its fuel is gone.
use Rattle.std.proofs.Common.{◌≡◌, ℕ, zero, suc, ◌+◌, ◌-◌, ◌*◌, ◌<◌, ◌≤◌, true, false, cond, Bool, ℤ, List, ◌∷◌, refl, ap, ◌∙◌, arith, add-mul, one-mul, mul-le-mul_right}
use Rattle.std.specs.Prelude.{nat_lt, All, ◌||◌}
use Rattle.std.proofs.lemmas.Bool.{ltb-true}
use Rattle.tis_base.specs.Saturation.{IsValue}
use Rattle.net_tree.specs.declared.tree.Var.{Var}
use Rattle.net_tree.specs.Tree.{Block}
use Rattle.net_rules.specs.Uses.{surely_reads}
use Rattle.net_rules.specs.Process.{Streams, with_stream, ProcessState, Outcome, Finished, WaitsOn, OutOfFuel, Execution, ended, followed, stepped, begins, exec, round, rounds_within, beginning, process_run, block_cost, cost}
use Rattle.net_rules.specs.Laws.{Waits}
use Rattle.net_rules.specs.Sure.{changes_in, IsSureBlock}
use Rattle.net_rules.proofs.Costs.{within_cost, turns_cost, turn_fits, turn_waits, while_fits}
use Rattle.net_rules.proofs.Waiting.{HasValues, Spent, Ran, ran_as, followed_by, begun, stepped_has}
use Rattle.net_rules.proofs.Running.{block_ran}

-- ---- rounds have no end of their own

goes_on : (outcome : Outcome) (state : ProcessState) (next : ProcessState → Execution) → ((s : ProcessState) → (next s).outcome ≡ Finished → ⊥) → (followed outcome state next).outcome ≡ Finished → ⊥
goes_on Finished state next never done = never state done
goes_on (WaitsOn name) state next never done = cc
goes_on OutOfFuel state next never done = cc

never_finished : (more : ℕ) (body : Block ℕ) (state : ProcessState) → (rounds_within more body state).outcome ≡ Finished → ⊥
never_finished zero body state done = cc
never_finished (suc more) body state done = goes_on (round body state).outcome (round body state).state (rounds_within more body) (never_finished more body) done

-- where a step was begun, its unit of fuel is gone
begun_less : (state : ProcessState) (next : ProcessState → Execution) → (next (stepped state)).state.fuel ≤ state.fuel - 1 → (begins state next).outcome ≡ Finished → (begins state next).state.fuel + 1 ≤ state.fuel
begun_less state next falls =
    elim (nat_lt 1 state.fuel) as (λ b. nat_lt 1 state.fuel ≡ b → (cond b (next (stepped state)) (ended OutOfFuel state)).outcome ≡ Finished → (cond b (next (stepped state)) (ended OutOfFuel state)).state.fuel + 1 ≤ state.fuel) [
      | true ↦ λ enough done. let more : 1 < state.fuel = ltb-true 1 state.fuel enough in omega (arith, falls)
      | false ↦ λ none done. absurd cc
    ] refl

module _ (measure : Streams → ℕ) (CanRead : ℕ → Type 0) (counts : (streams : Streams) (name : ℕ) (value : ℤ) (values : List ℤ) → CanRead name → streams name ≡ value ∷ values → measure streams ≡ measure (with_stream streams name values) + 1) where
  rounds_ran : (body : Block ℕ) → IsSureBlock CanRead body → surely_reads body ≡ true → (more : ℕ) (state : ProcessState) → state.fuel ≤ more → HasValues state →
      Ran measure CanRead counts state (λ read. 1 + turns_cost (block_cost body) read) false (λ v. changes_in v body) (rounds_within more body state)
  rounds_ran body sure reads zero state few has =
      record { read = 0; left = omega arith; values = has; falls = omega arith; spent = omega (arith, few); reads = λ no. absurd cc; keeps = λ var same done. absurd cc }
  rounds_ran body sure reads (suc more) state few has =
      let each : ℕ = block_cost body in
      let changed : Var → Bool = λ v. changes_in v body in
      let first : Execution = round body state in
      let ran = begun measure CanRead counts state (within_cost each) (surely_reads body) changed (exec body) has (block_ran measure CanRead counts body sure _ (stepped_has measure CanRead counts state has)) in
      ran_as measure CanRead counts state (λ read. 1 + turns_cost each read) (λ read. 1 + turns_cost each read) (surely_reads body || false) false (λ v. changed v || changed v) changed _ (λ read. omega arith) (λ no. absurd cc) (λ v is. ap (λ b. b || changed v) is ∙ is)
      (followed_by measure CanRead counts state (λ read. 1 + within_cost each read) (λ read. 1 + turns_cost each read) (λ read. 1 + turns_cost each read) (surely_reads body) false changed changed (rounds_within more body) first.outcome first.state
      (λ read more some. omega (arith, turn_fits each read more (some reads))) (λ read. omega (arith, turn_waits each read)) ran
      (λ done. rounds_ran body sure reads more first.state (omega (arith, few, begun_less state (exec body) (block_ran measure CanRead counts body sure _ (stepped_has measure CanRead counts state has)).falls done)) ran.values))

  -- with more fuel than its cost for each value that it can read, it waits
  pub waits : (body : Block ℕ) → IsSureBlock CanRead body → surely_reads body ≡ true → (streams : Streams) → ((name : ℕ) → All IsValue (streams name)) → (fuel : ℕ) → (1 + measure streams) * cost body < fuel → Waits (process_run body streams fuel)
  waits body sure reads streams values fuel enough =
      let start : ProcessState = beginning streams fuel in
      let has : HasValues start = record { x = (omega arith, omega arith); y = (omega arith, omega arith); unread = values } in
      let ran = rounds_ran body sure reads fuel start (omega arith) has in
      let end : Execution = rounds_within fuel body start in
      by_outcome end.outcome refl ran.read ran.left ran.spent
    where
      by_outcome : (outcome : Outcome) → (rounds_within fuel body (beginning streams fuel)).outcome ≡ outcome → (read : ℕ) →
          measure streams ≡ measure (rounds_within fuel body (beginning streams fuel)).state.unread + read →
          Spent fuel (1 + turns_cost (block_cost body) read) outcome (rounds_within fuel body (beginning streams fuel)).state.fuel → Waits (process_run body streams fuel)
      by_outcome Finished is read left spent = absurd (never_finished fuel body (beginning streams fuel) is)
      by_outcome (WaitsOn name) is read left spent = (name, is)
      by_outcome OutOfFuel is read left spent =
          let few : read ≤ measure streams = omega (arith, left) in
          absurd (omega (arith, spent, while_fits (block_cost body) read, add-mul 1 (measure streams) (cost body), one-mul (cost body), mul-le-mul_right {m = read} {n = measure streams} (cost body) few, enough))
