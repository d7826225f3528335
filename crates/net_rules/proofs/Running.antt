-- Each statement, block and round keeps to its cost.
use Rattle.std.proofs.Common.{◌≡◌, ℕ, zero, suc, ◌+◌, ◌*◌, ◌≤◌, true, false, cond, Bool, ℤ, pos, negsuc, List, ◌∷◌, refl, sym, ap, subst, ◌∙◌, arith}
use Rattle.std.specs.Prelude.{◌||◌, ◌&&◌, ◌+ℤ◌, ◌-ℤ◌, ◌≤ℤ◌, neg_ℤ}
use Rattle.std.proofs.lemmas.Bool.{and_parts}
use Rattle.std.proofs.lemmas.Int.{ints, clamps}
use Rattle.tis_base.specs.Saturation.{sat}
use Rattle.net_tree.specs.declared.tree.Var.{Var}
use Rattle.net_tree.specs.declared.tree.Var.TheVariants.{X, Y}
use Rattle.net_tree.specs.Tree.{Statement, Get, GetAdd, GetSub, Put, PutNumber, Move, Set, Add, Sub, Neg, Double, Copy, Swap, If, While, Count, Block, Empty, Then}
use Rattle.net_rules.specs.Uses.{is_same_var, changes, surely_reads, reads_itself, reads_either_way}
use Rattle.net_rules.specs.Process.{Streams, with_stream, ProcessState, Outcome, Finished, WaitsOn, OutOfFuel, Execution, ended, followed, and_then, stepped, send, value_in, with_value, becomes, is_positive, passes, loop_within, exec_statement, exec, statement_cost, block_cost}
use Rattle.net_rules.specs.Sure.{changes_in, changes_inside, IsSureBlock, IsSure}
use Rattle.net_rules.proofs.Costs.{within_cost, costs_add, cost_before, cost_behind, one_step, turns_cost, turn_fits, turn_waits, while_fits, count_cost, count_fits, count_waits, whole_count_fits}
use Rattle.net_rules.proofs.Waiting.{HasValues, variable_is, Ran, ran_not, ran_as, followed_by, begun, setting, becoming, sending, swapping, stepped_has, ran_change, did, did_read}

-- ---- tests on booleans

left_of : (one other : Bool) → (one || other) ≡ false → one ≡ false
left_of true other is = absurd cc
left_of false other is = refl

right_of : (one other : Bool) → (one || other) ≡ false → other ≡ false
right_of true other is = absurd cc
right_of false other is = is

-- a positive value of at most one more than so many, less one
one_less : (value : ℤ) (turns : ℕ) → value ≤ℤ pos (suc turns) → sat (value -ℤ pos 1) ≤ℤ pos turns
one_less value turns within = omega (arith, ints, clamps, within)

-- a positive value of at most 0
no_turn : (value : ℤ) → value ≤ℤ pos 0 → is_positive value ≡ true → ⊥
no_turn (pos zero) within positive = absurd cc
no_turn (pos (suc n)) within positive = omega (arith, ints, within)
no_turn (negsuc n) within positive = absurd cc

-- the two are tested the other way round
exchanged : (one other : Bool) → (one || other) ≡ false → (other || one) ≡ false
exchanged true other is = absurd cc
exchanged false true is = absurd cc
exchanged false false is = refl

-- a step that is begun leaves the variables
same_after : (state : ProcessState) (var : Var) → value_in var (stepped state) ≡ value_in var state
same_after state X = refl
same_after state Y = refl

module _ (measure : Streams → ℕ) (CanRead : ℕ → Type 0) (counts : (streams : Streams) (name : ℕ) (value : ℤ) (values : List ℤ) → CanRead name → streams name ≡ value ∷ values → measure streams ≡ measure (with_stream streams name values) + 1) where
  abbrev Runs : ProcessState → (ℕ → ℕ) → Bool → (Var → Bool) → Execution → Type 0
  Runs state bound sure changed end = Ran measure CanRead counts state bound sure changed end

  -- what is changed twice is changed
  once : (changed : Var → Bool) (var : Var) → changed var ≡ false → (changed var || changed var) ≡ false
  once changed var is = ap (λ b. b || changed var) is ∙ is

  -- ---- loops

  -- a body that may be done in a state of values
  abbrev IsBody : ℕ → Bool → (Var → Bool) → (ProcessState → Execution) → Type 0
  IsBody each sure changed body = (state : ProcessState) → HasValues state → Runs state (within_cost each) sure changed (body state)

  while_ran : (each : ℕ) (changed : Var → Bool) (holds : ProcessState → Bool) (body : ProcessState → Execution) → IsBody each true changed body →
      (more : ℕ) (state : ProcessState) → state.fuel ≤ more → HasValues state → Runs state (λ read. 1 + turns_cost each read) false changed (loop_within more holds body state)
  while_ran each changed holds body is zero state few has =
      record { read = 0; left = omega arith; values = has; falls = omega arith; spent = omega (arith, few); reads = λ no. absurd cc; keeps = λ var same done. absurd cc }
  while_ran each changed holds body is (suc more) state few has =
      let after : ProcessState = stepped state in
      let has_after = stepped_has measure CanRead counts state has in
      let rest : ProcessState → Execution = loop_within more holds body in
      begun measure CanRead counts state (turns_cost each) false changed (λ s. cond (holds s) (and_then (body s) rest) (ended Finished s)) has
      (elim (holds after) as (λ b. Runs after (turns_cost each) false changed (cond b (and_then (body after) rest) (ended Finished after))) [
        | true ↦
            let ran = is after has_after in
            let within : (body after).state.fuel ≤ more = omega (arith, few, ran.falls) in
            ran_as measure CanRead counts after (turns_cost each) (turns_cost each) (true || false) false (λ var. changed var || changed var) changed (and_then (body after) rest)
            (λ read. omega arith) (λ no. absurd cc) (once changed)
            (followed_by measure CanRead counts after (within_cost each) (λ read. 1 + turns_cost each read) (turns_cost each) true false changed changed rest (body after).outcome (body after).state
            (λ read more some. turn_fits each read more (some refl)) (turn_waits each) ran
            (λ done. while_ran each changed holds body is more (body after).state within ran.values))
        | false ↦ ran_not measure CanRead counts after (turns_cost each) changed has_after
      ])

  -- the body of a `count`, and then 1 less
  abbrev counted : Var → (ProcessState → Execution) → ProcessState → Execution
  counted var body state = and_then (body state) (λ done. ended Finished (becomes var (value_in var done -ℤ pos 1) done))

  counted_is : (each : ℕ) (sure : Bool) (changed : Var → Bool) (var : Var) (body : ProcessState → Execution) → IsBody each sure changed body → IsBody each false (λ other. changed other || is_same_var other var) (counted var body)
  counted_is each sure changed var body is state has =
      let ran = is state has in
      let down : ProcessState → Execution = λ done. ended Finished (becomes var (value_in var done -ℤ pos 1) done) in
      ran_as measure CanRead counts state (within_cost each) (within_cost each) (sure || false) false (λ other. changed other || is_same_var other var) (λ other. changed other || is_same_var other var) (counted var body state)
      (λ read. omega arith) (λ no. absurd cc) (λ other same. same)
      (followed_by measure CanRead counts state (within_cost each) (λ read. 0) (within_cost each) sure false changed (λ other. is_same_var other var) down (body state).outcome (body state).state
      (λ read more some. more_read each read more) (λ read. omega arith) ran
      (λ done. ran_change measure CanRead counts (body state).state (λ other. is_same_var other var) (λ s. becomes var (value_in var s -ℤ pos 1) s) (becoming measure CanRead counts var (λ s. value_in var s -ℤ pos 1)) ran.values))
    where
      more_read : (cost read more : ℕ) → within_cost cost read + 0 ≤ within_cost cost (read + more)
      more_read cost read more = omega (arith, cost_before cost 0 read, costs_add cost 0 read more)

  -- where the body of a `count` was done, its variable is 1 less
  one_down : (var : Var) (outcome : Outcome) (state : ProcessState) → (followed outcome state (λ done. ended Finished (becomes var (value_in var done -ℤ pos 1) done))).outcome ≡ Finished →
      (outcome ≡ Finished) × (value_in var (followed outcome state (λ done. ended Finished (becomes var (value_in var done -ℤ pos 1) done))).state ≡ sat (value_in var state -ℤ pos 1))
  one_down X Finished state done = (refl, refl)
  one_down Y Finished state done = (refl, refl)
  one_down X (WaitsOn name) state done = absurd cc
  one_down Y (WaitsOn name) state done = absurd cc
  one_down X OutOfFuel state done = absurd cc
  one_down Y OutOfFuel state done = absurd cc

  count_ran : (each : ℕ) (sure : Bool) (changed : Var → Bool) (var : Var) (body : ProcessState → Execution) → changed var ≡ false → IsBody each sure changed body →
      (more : ℕ) (state : ProcessState) (turns : ℕ) → state.fuel ≤ more → HasValues state → value_in var state ≤ℤ pos turns →
      Runs state (λ read. 1 + count_cost each turns read) false (λ other. changed other || is_same_var other var) (loop_within more (λ s. is_positive (value_in var s)) (counted var body) state)
  count_ran each sure changed var body same is zero state turns few has within =
      record { read = 0; left = omega arith; values = has; falls = omega arith; spent = omega (arith, few); reads = λ no. absurd cc; keeps = λ other kept done. absurd cc }
  count_ran each sure changed var body same is (suc more) state zero few has within =
      let after : ProcessState = stepped state in
      let has_after = stepped_has measure CanRead counts state has in
      let holds : ProcessState → Bool = λ s. is_positive (value_in var s) in
      let rest : ProcessState → Execution = loop_within more holds (counted var body) in
      let all : Var → Bool = λ other. changed other || is_same_var other var in
      begun measure CanRead counts state (count_cost each 0) false all (λ s. cond (holds s) (and_then (counted var body s) rest) (ended Finished s)) has
      (elim (holds after) as (λ b. holds after ≡ b → Runs after (count_cost each 0) false all (cond b (and_then (counted var body after) rest) (ended Finished after))) [
        | true ↦ λ positive. absurd (no_turn (value_in var state) within (ap is_positive (sym (same_after state var)) ∙ positive))
        | false ↦ λ over. ran_not measure CanRead counts after (count_cost each 0) all has_after
      ] refl)
  count_ran each sure changed var body same is (suc more) state (suc turns) few has within =
      let after : ProcessState = stepped state in
      let has_after = stepped_has measure CanRead counts state has in
      let holds : ProcessState → Bool = λ s. is_positive (value_in var s) in
      let rest : ProcessState → Execution = loop_within more holds (counted var body) in
      let all : Var → Bool = λ other. changed other || is_same_var other var in
      let bound : ℕ → ℕ = count_cost each (suc turns) in
      begun measure CanRead counts state bound false all (λ s. cond (holds s) (and_then (counted var body s) rest) (ended Finished s)) has
      (elim (holds after) as (λ b. Runs after bound false all (cond b (and_then (counted var body after) rest) (ended Finished after))) [
        | true ↦
            let whole : Execution = counted var body after in
            let first : Execution = body after in
            let body_ran = is after has_after in
            let ran = counted_is each sure changed var body is after has_after in
            let fewer : whole.state.fuel ≤ more = omega (arith, few, ran.falls) in
            ran_as measure CanRead counts after bound bound (false || false) false (λ other. all other || all other) all (and_then whole rest)
            (λ read. omega arith) (λ no. no) (once all)
            (followed_by measure CanRead counts after (within_cost each) (λ read. 1 + count_cost each turns read) bound false false all all rest whole.outcome whole.state
            (λ read more some. count_fits each turns read more) (count_waits each turns) ran
            (λ done.
            let down = one_down var first.outcome first.state done in
            let kept = body_ran.keeps var same down.0 in
            let value : value_in var whole.state ≡ sat (value_in var state -ℤ pos 1) = down.1 ∙ ap (λ v. sat (v -ℤ pos 1)) (kept ∙ same_after state var) in
            count_ran each sure changed var body same is more whole.state turns fewer ran.values (subst (λ v. v ≤ℤ pos turns) (sym value) (one_less (value_in var state) turns within))))
        | false ↦ ran_not measure CanRead counts after bound all has_after
      ])

  -- ---- statements

  -- what a statement without blocks changes
  by_itself : (one : Bool) → (one || false) ≡ false → one ≡ false
  by_itself one is = left_of one false is

  simple : (state : ProcessState) (sure : Bool) (changed : Var → Bool) (end : Execution) → Runs state (within_cost 1) sure changed end → Runs state (within_cost 1) (sure || false) (λ var. changed var || false) end
  simple state sure changed end ran = ran_as measure CanRead counts state (within_cost 1) (within_cost 1) sure (sure || false) changed (λ var. changed var || false) end (λ read. omega arith) (is_sure sure) (λ var. by_itself (changed var)) ran
    where
      is_sure : (one : Bool) → (one || false) ≡ true → one ≡ true
      is_sure true is = refl
      is_sure false is = absurd cc

  mutual
    statement_ran : (statement : Statement ℕ) → IsSure CanRead statement → (state : ProcessState) → HasValues state →
        Runs state (within_cost (statement_cost statement)) (reads_itself statement || reads_either_way statement) (λ var. changes var statement || changes_inside var statement) (exec_statement statement state)
    statement_ran (Get read var) sure state has =
        simple state true (λ other. is_same_var other var) _ (did_read measure CanRead counts state read (λ other. is_same_var other var) (λ value after. with_value var value after) sure (λ value is. setting measure CanRead counts var (λ s. value) (λ s h. is)) has)
    statement_ran (GetAdd read var) sure state has =
        simple state true (λ other. is_same_var other var) _ (did_read measure CanRead counts state read (λ other. is_same_var other var) (λ value after. becomes var (value_in var after +ℤ value) after) sure (λ value is. becoming measure CanRead counts var (λ s. value_in var s +ℤ value)) has)
    statement_ran (GetSub read var) sure state has =
        simple state true (λ other. is_same_var other var) _ (did_read measure CanRead counts state read (λ other. is_same_var other var) (λ value after. becomes var (value_in var after -ℤ value) after) sure (λ value is. becoming measure CanRead counts var (λ s. value_in var s -ℤ value)) has)
    statement_ran (Move read written) sure state has =
        simple state true (λ other. false) _ (did_read measure CanRead counts state read (λ other. false) (λ value after. send written value after) sure (λ value is. sending measure CanRead counts written (λ s. value)) has)
    statement_ran (Put written var) sure state has =
        simple state false (λ other. false) _ (did measure CanRead counts state (λ other. false) (λ after. send written (value_in var after) after) (sending measure CanRead counts written (λ s. value_in var s)) has)
    statement_ran (PutNumber written number) sure state has =
        simple state false (λ other. false) _ (did measure CanRead counts state (λ other. false) (λ after. send written number after) (sending measure CanRead counts written (λ s. number)) has)
    statement_ran (Set var number) sure state has =
        simple state false (λ other. is_same_var other var) _ (did measure CanRead counts state (λ other. is_same_var other var) (λ after. with_value var number after) (setting measure CanRead counts var (λ s. number) (λ s h. sure)) has)
    statement_ran (Add var number) sure state has =
        simple state false (λ other. is_same_var other var) _ (did measure CanRead counts state (λ other. is_same_var other var) (λ after. becomes var (value_in var after +ℤ number) after) (becoming measure CanRead counts var (λ s. value_in var s +ℤ number)) has)
    statement_ran (Sub var number) sure state has =
        simple state false (λ other. is_same_var other var) _ (did measure CanRead counts state (λ other. is_same_var other var) (λ after. becomes var (value_in var after -ℤ number) after) (becoming measure CanRead counts var (λ s. value_in var s -ℤ number)) has)
    statement_ran (Neg var) sure state has =
        simple state false (λ other. is_same_var other var) _ (did measure CanRead counts state (λ other. is_same_var other var) (λ after. becomes var (neg_ℤ (value_in var after)) after) (becoming measure CanRead counts var (λ s. neg_ℤ (value_in var s))) has)
    statement_ran (Double var) sure state has =
        simple state false (λ other. is_same_var other var) _ (did measure CanRead counts state (λ other. is_same_var other var) (λ after. becomes var (value_in var after +ℤ value_in var after) after) (becoming measure CanRead counts var (λ s. value_in var s +ℤ value_in var s)) has)
    statement_ran (Copy to from) sure state has =
        simple state false (λ other. is_same_var other to) _ (did measure CanRead counts state (λ other. is_same_var other to) (λ after. with_value to (value_in from after) after) (setting measure CanRead counts to (λ s. value_in from s) (λ s h. variable_is s h from)) has)
    statement_ran Swap sure state has =
        simple state false (λ other. true) _ (did measure CanRead counts state (λ other. true) (λ after. record after { x = after.y; y = after.x }) (swapping measure CanRead counts) has)
    statement_ran (If var test first second) sure state has =
        let after : ProcessState = stepped state in
        let has_after = stepped_has measure CanRead counts state has in
        let one : ℕ = block_cost first in
        let other : ℕ = block_cost second in
        let changed : Var → Bool = λ v. changes_in v first || changes_in v second in
        ran_as measure CanRead counts state (λ read. 1 + within_cost (one + other) read) (within_cost (1 + (one + other))) (surely_reads first && surely_reads second) (surely_reads first && surely_reads second) changed changed _
        (one_step (one + other)) (λ is. is) (λ v same. same)
        (begun measure CanRead counts state (within_cost (one + other)) (surely_reads first && surely_reads second) changed (λ s. cond (passes test (value_in var s)) (exec first s) (exec second s)) has
        (elim (passes test (value_in var after)) as (λ b. Runs after (within_cost (one + other)) (surely_reads first && surely_reads second) changed (cond b (exec first after) (exec second after))) [
          | true ↦ ran_as measure CanRead counts after (within_cost one) (within_cost (one + other)) (surely_reads first) _ (λ v. changes_in v first) changed (exec first after)
              (cost_before one other) (λ both. (and_parts (surely_reads first) (surely_reads second) both).0) (λ v same. left_of (changes_in v first) (changes_in v second) same) (block_ran first sure.0 after has_after)
          | false ↦ ran_as measure CanRead counts after (within_cost other) (within_cost (one + other)) (surely_reads second) _ (λ v. changes_in v second) changed (exec second after)
              (cost_behind one other) (λ both. (and_parts (surely_reads first) (surely_reads second) both).1) (λ v same. right_of (changes_in v first) (changes_in v second) same) (block_ran second sure.1 after has_after)
        ]))
    statement_ran (While var test body) sure state has =
        ran_as measure CanRead counts state (λ read. 1 + turns_cost (block_cost body) read) (within_cost (2 + 2 * block_cost body)) false false (λ v. changes_in v body) (λ v. changes_in v body) _
        (while_fits (block_cost body)) (λ is. is) (λ v same. same)
        (while_ran (block_cost body) (λ v. changes_in v body) (λ s. passes test (value_in var s)) (exec body)
        (λ s h. ran_as measure CanRead counts s (within_cost (block_cost body)) (within_cost (block_cost body)) (surely_reads body) true (λ v. changes_in v body) (λ v. changes_in v body) (exec body s) (λ read. omega arith) (λ is. sure.0) (λ v same. same) (block_ran body sure.1 s h))
        state.fuel state (omega arith) has)
    statement_ran (Count var body) sure state has =
        let each : ℕ = block_cost body in
        ran_as measure CanRead counts state (λ read. 1 + count_cost each 999 read) (within_cost (1 + 999 * (1 + each))) false false (λ v. changes_in v body || is_same_var v var) (λ v. is_same_var v var || changes_in v body) _
        (whole_count_fits each) (λ is. is) (λ v same. exchanged (is_same_var v var) (changes_in v body) same)
        (count_ran each (surely_reads body) (λ v. changes_in v body) var (exec body) sure.0 (λ s h. block_ran body sure.1 s h) state.fuel state 999 (omega arith) has (variable_is state has var).1)

    pub block_ran : (block : Block ℕ) → IsSureBlock CanRead block → (state : ProcessState) → HasValues state → Runs state (within_cost (block_cost block)) (surely_reads block) (λ var. changes_in var block) (exec block state)
    block_ran Empty sure state has = ran_not measure CanRead counts state (within_cost 0) (λ var. false) has
    block_ran (Then line statement rest) sure state has =
        let first = exec_statement statement state in
        let ran = statement_ran statement sure.0 state has in
        followed_by measure CanRead counts state (within_cost (statement_cost statement)) (within_cost (block_cost rest)) (within_cost (statement_cost statement + block_cost rest))
        (reads_itself statement || reads_either_way statement) (surely_reads rest) (λ var. changes var statement || changes_inside var statement) (λ var. changes_in var rest) (exec rest) first.outcome first.state
        (λ read more some. costs_add (statement_cost statement) (block_cost rest) read more) (cost_before (statement_cost statement) (block_cost rest)) ran
        (λ done. block_ran rest sure.1 first.state ran.values)
