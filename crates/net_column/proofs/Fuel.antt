-- An execution begins fewer steps than it has fuel, and each step takes one unit.
use Rattle.std.proofs.Common.{◌≡◌, ℕ, zero, suc, ◌+◌, ◌<◌, ◌≤◌, Bool, true, false, cond, ℤ, List, [], ◌∷◌, refl, arith}
use Rattle.std.specs.Prelude.{nat_lt, sum_by, pos, ◌+ℤ◌, ◌-ℤ◌, neg_ℤ}
use Rattle.std.proofs.lemmas.Bool.{ltb-true}
use Rattle.std.proofs.lemmas.List.Sums.{sum_by-cons}
use Rattle.net_tree.specs.declared.tree.Var.{Var}
use Rattle.net_tree.specs.declared.tree.Var.TheVariants.{X, Y}
use Rattle.net_tree.specs.Tree.{Statement, Get, GetAdd, GetSub, Put, PutNumber, Move, Set, Add, Sub, Neg, Double, Copy, Swap, If, While, Count, Block, Empty, Then}
use Rattle.net_rules.specs.Numbers.{NumberedNet}
use Rattle.net_rules.specs.Process.{ProcessState, Execution, Outcome, Finished, WaitsOn, OutOfFuel, ended, followed, and_then, read_first, read_from, stepped, begins, does, reads, with_value, becomes, value_in, send, passes, is_positive, loop_within, exec_statement, exec, round, rounds_within, beginning}
use Rattle.net_rules.specs.Kahn.{Inputs, step_limit, run_of, kahn_streams}
use Rattle.net_column.specs.Laws.{FuelBoundsSteps, StepsWithinLimits}

-- since this state, as many steps were begun as units of fuel are gone, and some fuel is left where some was there
record Spends (before after : ProcessState) : Type 0 where
  all : after.steps + after.fuel ≡ before.steps + before.fuel
  some : 0 < before.fuel → 0 < after.fuel

spends_not : (state : ProcessState) → Spends state state
spends_not state = record { all = refl; some = λ some. some }

spends_both : (before between after : ProcessState) → Spends before between → Spends between after → Spends before after
spends_both before between after first second = record { all = omega (arith, first.all, second.all); some = λ some. second.some (first.some some) }

-- what follows an execution is spent behind it
spends_followed : (before : ProcessState) (outcome : Outcome) (state : ProcessState) (next : ProcessState → Execution) → Spends before state → ((s : ProcessState) → Spends s (next s).state) → Spends before (followed outcome state next).state
spends_followed before Finished state next first rest = spends_both before state (next state).state first (rest state)
spends_followed before (WaitsOn name) state next first rest = first
spends_followed before OutOfFuel state next first rest = first

-- a step that is begun takes one unit, and one that isn't takes none
spends_begun : (state : ProcessState) (next : ProcessState → Execution) → ((s : ProcessState) → Spends s (next s).state) → Spends state (begins state next).state
spends_begun state next rest =
    elim (nat_lt 1 state.fuel) as (λ enough. nat_lt 1 state.fuel ≡ enough → Spends state (cond enough (next (stepped state)) (ended OutOfFuel state)).state) [
      | true ↦ λ enough. let more : 1 < state.fuel = ltb-true 1 state.fuel enough in
          let later = rest (stepped state) in
          record { all = omega (arith, later.all); some = λ some. later.some (omega arith) }
      | false ↦ λ none. spends_not state
    ] refl

-- a change that begins no step and takes no fuel
abbrev Keeps : (ProcessState → ProcessState) → Type 0
Keeps change = (s : ProcessState) → Spends s (change s)

-- a statement that does nothing but this
spends_doing : (state : ProcessState) (change : ProcessState → ProcessState) → Keeps change → Spends state (does state change).state
spends_doing state change keeps = spends_begun state (λ after. ended Finished (change after)) keeps

spends_first : (values : List ℤ) (name : ℕ) (state : ProcessState) (change : ℤ → ProcessState → ProcessState) → ((value : ℤ) → Keeps (change value)) → Spends state (read_first values name state (λ value left. ended Finished (change value left))).state
spends_first [] name state change keeps = spends_not state
spends_first (value ∷ values) name state change keeps = let later = keeps value _ in record { all = later.all; some = later.some }

spends_reading : (state : ProcessState) (name : ℕ) (change : ℤ → ProcessState → ProcessState) → ((value : ℤ) → Keeps (change value)) → Spends state (reads state name change).state
spends_reading state name change keeps = spends_begun state (λ after. read_from name after (λ value left. ended Finished (change value left))) (λ s. spends_first (s.unread name) name s change keeps)

keeps_with : (var : Var) (value : ℤ) → Keeps (with_value var value)
keeps_with X value s = record { all = refl; some = λ some. some }
keeps_with Y value s = record { all = refl; some = λ some. some }

keeps_becoming : (var : Var) (number : ProcessState → ℤ) → Keeps (λ s. becomes var (number s) s)
keeps_becoming X number s = record { all = refl; some = λ some. some }
keeps_becoming Y number s = record { all = refl; some = λ some. some }

keeps_setting : (var : Var) (value : ProcessState → ℤ) → Keeps (λ s. with_value var (value s) s)
keeps_setting X value s = record { all = refl; some = λ some. some }
keeps_setting Y value s = record { all = refl; some = λ some. some }

keeps_sending : (name : ℕ) (value : ProcessState → ℤ) → Keeps (λ s. send name (value s) s)
keeps_sending name value s = record { all = refl; some = λ some. some }

-- a choice of two
spends_either : (b : Bool) (before : ProcessState) (one other : Execution) → Spends before one.state → Spends before other.state → Spends before (cond b one other).state
spends_either true before one other first second = first
spends_either false before one other first second = second

-- a loop
spends_loop : (more : ℕ) (holds : ProcessState → Bool) (body : ProcessState → Execution) → ((s : ProcessState) → Spends s (body s).state) → (state : ProcessState) → Spends state (loop_within more holds body state).state
spends_loop zero holds body spends state = spends_not state
spends_loop (suc more) holds body spends state =
    spends_begun state (λ after. cond (holds after) (and_then (body after) (loop_within more holds body)) (ended Finished after))
    (λ s. spends_either (holds s) s (and_then (body s) (loop_within more holds body)) (ended Finished s)
    (spends_followed s (body s).outcome (body s).state (loop_within more holds body) (spends s) (spends_loop more holds body spends)) (spends_not s))

mutual
  spends_statement : (statement : Statement ℕ) (state : ProcessState) → Spends state (exec_statement statement state).state
  spends_statement (Get read var) state = spends_reading state read (λ value after. with_value var value after) (keeps_with var)
  spends_statement (GetAdd read var) state = spends_reading state read (λ value after. becomes var (value_in var after +ℤ value) after) (λ value. keeps_becoming var (λ s. value_in var s +ℤ value))
  spends_statement (GetSub read var) state = spends_reading state read (λ value after. becomes var (value_in var after -ℤ value) after) (λ value. keeps_becoming var (λ s. value_in var s -ℤ value))
  spends_statement (Put written var) state = spends_doing state (λ after. send written (value_in var after) after) (keeps_sending written (value_in var))
  spends_statement (PutNumber written number) state = spends_doing state (λ after. send written number after) (keeps_sending written (λ s. number))
  spends_statement (Move read written) state = spends_reading state read (λ value after. send written value after) (λ value. keeps_sending written (λ s. value))
  spends_statement (Set var number) state = spends_doing state (λ after. with_value var number after) (keeps_setting var (λ s. number))
  spends_statement (Add var number) state = spends_doing state (λ after. becomes var (value_in var after +ℤ number) after) (keeps_becoming var (λ s. value_in var s +ℤ number))
  spends_statement (Sub var number) state = spends_doing state (λ after. becomes var (value_in var after -ℤ number) after) (keeps_becoming var (λ s. value_in var s -ℤ number))
  spends_statement (Neg var) state = spends_doing state (λ after. becomes var (neg_ℤ (value_in var after)) after) (keeps_becoming var (λ s. neg_ℤ (value_in var s)))
  spends_statement (Double var) state = spends_doing state (λ after. becomes var (value_in var after +ℤ value_in var after) after) (keeps_becoming var (λ s. value_in var s +ℤ value_in var s))
  spends_statement (Copy to from) state = spends_doing state (λ after. with_value to (value_in from after) after) (keeps_setting to (value_in from))
  spends_statement Swap state = spends_doing state (λ after. record after { x = after.y; y = after.x }) (λ s. record { all = refl; some = λ some. some })
  spends_statement (If var test first second) state =
      spends_begun state (λ after. cond (passes test (value_in var after)) (exec first after) (exec second after))
      (λ s. spends_either (passes test (value_in var s)) s (exec first s) (exec second s) (spends_exec first s) (spends_exec second s))
  spends_statement (While var test body) state = spends_loop state.fuel (λ after. passes test (value_in var after)) (exec body) (spends_exec body) state
  spends_statement (Count var body) state =
      spends_loop state.fuel (λ after. is_positive (value_in var after)) (λ after. and_then (exec body after) (λ done. ended Finished (becomes var (value_in var done -ℤ pos 1) done)))
      (λ s. spends_followed s (exec body s).outcome (exec body s).state (λ done. ended Finished (becomes var (value_in var done -ℤ pos 1) done)) (spends_exec body s) (keeps_becoming var (λ done. value_in var done -ℤ pos 1)))
      state

  spends_exec : (body : Block ℕ) (state : ProcessState) → Spends state (exec body state).state
  spends_exec Empty state = spends_not state
  spends_exec (Then line statement rest) state =
      spends_followed state (exec_statement statement state).outcome (exec_statement statement state).state (exec rest) (spends_statement statement state) (spends_exec rest)

spends_rounds : (most : ℕ) (body : Block ℕ) (state : ProcessState) → Spends state (rounds_within most body state).state
spends_rounds zero body state = spends_not state
spends_rounds (suc most) body state =
    spends_followed state (round body state).outcome (round body state).state (rounds_within most body)
    (spends_begun state (exec body) (spends_exec body)) (spends_rounds most body)

pub fuel_bounds_steps : FuelBoundsSteps
fuel_bounds_steps body streams fuel some =
    let spends = spends_rounds fuel body (beginning streams fuel) in
    omega (arith, spends.all, spends.some some)

-- each process by itself
steps_within : (net : NumberedNet) (inputs : Inputs) (bodies : List (Block ℕ)) → sum_by (λ body. (run_of net (kahn_streams net inputs) body).state.steps) bodies ≤ sum_by (step_limit net (kahn_streams net inputs)) bodies
steps_within net inputs [] = omega arith
steps_within net inputs (body ∷ bodies) =
    let streams = kahn_streams net inputs in
    omega (arith, sum_by-cons (λ (b : Block ℕ). (run_of net streams b).state.steps) body bodies, sum_by-cons (step_limit net streams) body bodies, fuel_bounds_steps body (kahn_streams net inputs) (step_limit net (kahn_streams net inputs) body + 1) (omega arith), steps_within net inputs bodies)

pub steps_within_limits : StepsWithinLimits
steps_within_limits net inputs = steps_within net inputs net.processes
