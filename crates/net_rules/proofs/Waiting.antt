-- How many steps an execution takes: a bound for each time that it waits, whatever it reads.
use Rattle.std.proofs.Common.{◌≡◌, ℕ, ◌+◌, ◌-◌, ◌<◌, ◌≤◌, true, false, cond, Bool, ℤ, List, [], ◌∷◌, refl, ap, subst, ◌∙◌, arith}
use Rattle.std.specs.Prelude.{nat_lt, ◌||◌, All, ◌==◌}
use Rattle.std.proofs.lemmas.Bool.{ltb-true, ltb-false}
use Rattle.std.proofs.lemmas.List.Elements.{All-head, All-tail}
use Rattle.tis_base.specs.Saturation.{sat, IsValue}
use Rattle.tis_base.proofs.Saturating.{sat_is_value}
use Rattle.net_tree.specs.declared.tree.Var.{Var}
use Rattle.net_tree.specs.declared.tree.Var.TheVariants.{X, Y}
use Rattle.net_rules.specs.Uses.{is_same_var}
use Rattle.net_rules.specs.Process.{Streams, with_stream, ProcessState, Outcome, Finished, WaitsOn, OutOfFuel, Execution, ended, followed, stepped, begins, read_first, send, value_in, with_value, becomes}
use Rattle.net_rules.proofs.Costs.{within_cost}

-- ---- values

-- the variables and what is left to read are values of the machine
pub record HasValues (state : ProcessState) : Type 0 where
  pub x : IsValue state.x
  pub y : IsValue state.y
  pub unread : (name : ℕ) → All IsValue (state.unread name)

pub variable_is : (state : ProcessState) → HasValues state → (var : Var) → IsValue (value_in var state)
variable_is state has X = has.x
variable_is state has Y = has.y

with_variable : (state : ProcessState) (var : Var) (value : ℤ) → HasValues state → IsValue value → HasValues (with_value var value state)
with_variable state X value has is = record { x = is; y = has.y; unread = has.unread }
with_variable state Y value has is = record { x = has.x; y = is; unread = has.unread }

became : (state : ProcessState) (var : Var) (number : ℤ) → HasValues state → HasValues (becomes var number state)
became state var number has = with_variable state var (sat number) has (sat_is_value number)

-- ---- fuel

-- the fuel that there was, by how the execution ended: it is left but for this bound, or was used up within it
abbrev pub Spent : ℕ → ℕ → Outcome → ℕ → Type 0
Spent fuel bound Finished left = fuel ≤ left + bound
Spent fuel bound (WaitsOn name) left = fuel ≤ left + bound
Spent fuel bound OutOfFuel left = fuel ≤ bound

spent_more : (fuel less more left : ℕ) (outcome : Outcome) → less ≤ more → Spent fuel less outcome left → Spent fuel more outcome left
spent_more fuel less more left Finished within spent = omega (arith, within, spent)
spent_more fuel less more left (WaitsOn name) within spent = omega (arith, within, spent)
spent_more fuel less more left OutOfFuel within spent = omega (arith, within, spent)

-- ---- what an execution did

module _ (measure : Streams → ℕ) (CanRead : ℕ → Type 0) (counts : (streams : Streams) (name : ℕ) (value : ℤ) (values : List ℤ) → CanRead name → streams name ≡ value ∷ values → measure streams ≡ measure (with_stream streams name values) + 1) where
  -- from a state to the end of an execution: how many values were read, the fuel spent, a read where one is sure, and what wasn't changed
  pub record Ran (state : ProcessState) (bound : ℕ → ℕ) (sure : Bool) (changed : Var → Bool) (end : Execution) : Type 0 where
    pub read : ℕ
    pub left : measure state.unread ≡ measure end.state.unread + read
    pub values : HasValues end.state
    pub falls : end.state.fuel ≤ state.fuel
    pub spent : Spent state.fuel (bound read) end.outcome end.state.fuel
    pub reads : sure ≡ true → end.outcome ≡ Finished → 1 ≤ read
    pub keeps : (var : Var) → changed var ≡ false → end.outcome ≡ Finished → value_in var end.state ≡ value_in var state

  -- a larger bound
  ran_within : (state : ProcessState) (less more : ℕ → ℕ) (sure : Bool) (changed : Var → Bool) (end : Execution) → ((read : ℕ) → less read ≤ more read) → Ran state less sure changed end → Ran state more sure changed end
  ran_within state less more sure changed end within ran =
      record {
        read = ran.read;
        left = ran.left;
        values = ran.values;
        falls = ran.falls;
        spent = spent_more state.fuel (less ran.read) (more ran.read) end.state.fuel end.outcome (within ran.read) ran.spent;
        reads = ran.reads;
        keeps = ran.keeps;
      }

  -- nothing more
  pub ran_not : (state : ProcessState) (bound : ℕ → ℕ) (changed : Var → Bool) → HasValues state → Ran state bound false changed (ended Finished state)
  ran_not state bound changed has =
      record { read = 0; left = omega arith; values = has; falls = omega arith; spent = omega arith; reads = λ no. absurd cc; keeps = λ var same done. refl }

  -- one thing and then another
  pub followed_by : (state : ProcessState) (first second both : ℕ → ℕ) (sure sure_then : Bool) (changed changed_then : Var → Bool) (next : ProcessState → Execution) (outcome : Outcome) (middle : ProcessState) →
      ((read more : ℕ) → (sure ≡ true → 1 ≤ read) → first read + second more ≤ both (read + more)) → ((read : ℕ) → first read ≤ both read) →
      Ran state first sure changed (ended outcome middle) → (outcome ≡ Finished → Ran middle second sure_then changed_then (next middle)) →
      Ran state both (sure || sure_then) (λ var. changed var || changed_then var) (followed outcome middle next)
  followed_by state first second both sure sure_then changed changed_then next (WaitsOn name) middle fits alone ran later =
      record {
        read = ran.read;
        left = ran.left;
        values = ran.values;
        falls = ran.falls;
        spent = spent_more state.fuel (first ran.read) (both ran.read) middle.fuel (WaitsOn name) (alone ran.read) ran.spent;
        reads = λ is done. absurd cc;
        keeps = λ var same done. absurd cc;
      }
  followed_by state first second both sure sure_then changed changed_then next OutOfFuel middle fits alone ran later =
      record {
        read = ran.read;
        left = ran.left;
        values = ran.values;
        falls = ran.falls;
        spent = spent_more state.fuel (first ran.read) (both ran.read) middle.fuel OutOfFuel (alone ran.read) ran.spent;
        reads = λ is done. absurd cc;
        keeps = λ var same done. absurd cc;
      }
  followed_by state first second both sure sure_then changed changed_then next Finished middle fits alone ran later =
      let then = later refl in
      let end : Execution = next middle in
      record {
        read = ran.read + then.read;
        left = omega (arith, ran.left, then.left);
        values = then.values;
        falls = omega (arith, ran.falls, then.falls);
        spent = spent_both state.fuel middle.fuel end.state.fuel (first ran.read) (second then.read) (both (ran.read + then.read)) end.outcome (fits ran.read then.read (λ is. ran.reads is refl)) ran.spent then.spent;
        reads = λ is done. some_read sure sure_then ran.read then.read is (λ one. ran.reads one refl) (λ other. then.reads other done);
        keeps = λ var same done. then.keeps var (neither_right (changed var) (changed_then var) same) done ∙ ran.keeps var (neither_left (changed var) (changed_then var) same) refl;
      }
    where
      spent_both : (fuel middle left one other both : ℕ) (outcome : Outcome) → one + other ≤ both → fuel ≤ middle + one → Spent middle other outcome left → Spent fuel both outcome left
      spent_both fuel middle left one other both Finished within spent then = omega (arith, within, spent, then)
      spent_both fuel middle left one other both (WaitsOn name) within spent then = omega (arith, within, spent, then)
      spent_both fuel middle left one other both OutOfFuel within spent then = omega (arith, within, spent, then)

      some_read : (one other : Bool) (read more : ℕ) → (one || other) ≡ true → (one ≡ true → 1 ≤ read) → (other ≡ true → 1 ≤ more) → 1 ≤ read + more
      some_read true other read more is first later = omega (arith, first refl)
      some_read false other read more is first later = omega (arith, later is)

      neither_left : (one other : Bool) → (one || other) ≡ false → one ≡ false
      neither_left true other is = absurd cc
      neither_left false other is = refl

      neither_right : (one other : Bool) → (one || other) ≡ false → other ≡ false
      neither_right true other is = absurd cc
      neither_right false other is = is

  -- a step that is begun, before what it does
  pub begun : (state : ProcessState) (bound : ℕ → ℕ) (sure : Bool) (changed : Var → Bool) (next : ProcessState → Execution) → HasValues state → Ran (stepped state) bound sure changed (next (stepped state)) → Ran state (λ read. 1 + bound read) sure changed (begins state next)
  begun state bound sure changed next has ran =
      elim (nat_lt 1 state.fuel) as (λ b. nat_lt 1 state.fuel ≡ b → Ran state (λ read. 1 + bound read) sure changed (cond b (next (stepped state)) (ended OutOfFuel state))) [
        | true ↦ λ enough.
            let more : 1 < state.fuel = ltb-true 1 state.fuel enough in
            let end : Execution = next (stepped state) in
            record {
              read = ran.read;
              left = ran.left;
              values = ran.values;
              falls = omega (arith, ran.falls);
              spent = one_more state.fuel (bound ran.read) end.state.fuel end.outcome more ran.spent;
              reads = ran.reads;
              keeps = λ var same done. ran.keeps var same done ∙ stays var;
            }
        | false ↦ λ none.
            let few : state.fuel ≤ 1 = ltb-false 1 state.fuel none in
            record { read = 0; left = omega arith; values = has; falls = omega arith; spent = omega (arith, few); reads = λ is done. absurd cc; keeps = λ var same done. absurd cc }
      ] refl
    where
      one_more : (fuel bound left : ℕ) (outcome : Outcome) → 1 < fuel → Spent (fuel - 1) bound outcome left → Spent fuel (1 + bound) outcome left
      one_more fuel bound left Finished more spent = omega (arith, more, spent)
      one_more fuel bound left (WaitsOn name) more spent = omega (arith, more, spent)
      one_more fuel bound left OutOfFuel more spent = omega (arith, more, spent)

      stays : (var : Var) → value_in var (stepped state) ≡ value_in var state
      stays X = refl
      stays Y = refl

  -- the same, said of less
  pub ran_as : (state : ProcessState) (less more : ℕ → ℕ) (sure surely : Bool) (changed changing : Var → Bool) (end : Execution) →
      ((read : ℕ) → less read ≤ more read) → (surely ≡ true → sure ≡ true) → ((var : Var) → changing var ≡ false → changed var ≡ false) →
      Ran state less sure changed end → Ran state more surely changing end
  ran_as state less more sure surely changed changing end within is_sure is_changed ran =
      record {
        read = ran.read;
        left = ran.left;
        values = ran.values;
        falls = ran.falls;
        spent = spent_more state.fuel (less ran.read) (more ran.read) end.state.fuel end.outcome (within ran.read) ran.spent;
        reads = λ is done. ran.reads (is_sure is) done;
        keeps = λ var same done. ran.keeps var (is_changed var same) done;
      }

  -- ---- statements without blocks

  -- what a statement does to the state, apart from reading
  pub record IsChange (changed : Var → Bool) (change : ProcessState → ProcessState) : Type 0 where
    pub values : (state : ProcessState) → HasValues state → HasValues (change state)
    pub unread : (state : ProcessState) → (change state).unread ≡ state.unread
    pub fuel : (state : ProcessState) → (change state).fuel ≡ state.fuel
    pub keeps : (state : ProcessState) (var : Var) → changed var ≡ false → value_in var (change state) ≡ value_in var state

  other_kept : (state : ProcessState) (var other : Var) (value : ℤ) → is_same_var other var ≡ false → value_in other (with_value var value state) ≡ value_in other state
  other_kept state X X value different = absurd cc
  other_kept state X Y value different = refl
  other_kept state Y X value different = refl
  other_kept state Y Y value different = absurd cc

  same_unread : (state : ProcessState) (var : Var) (value : ℤ) → (with_value var value state).unread ≡ state.unread
  same_unread state X value = refl
  same_unread state Y value = refl

  same_fuel : (state : ProcessState) (var : Var) (value : ℤ) → (with_value var value state).fuel ≡ state.fuel
  same_fuel state X value = refl
  same_fuel state Y value = refl

  -- a variable becomes a value
  pub setting : (var : Var) (value : ProcessState → ℤ) → ((state : ProcessState) → HasValues state → IsValue (value state)) → IsChange (λ other. is_same_var other var) (λ state. with_value var (value state) state)
  setting var value is =
      record {
        values = λ state has. with_variable state var (value state) has (is state has);
        unread = λ state. same_unread state var (value state);
        fuel = λ state. same_fuel state var (value state);
        keeps = λ state other different. other_kept state var other (value state) different;
      }

  -- a variable becomes the nearest value to a number
  pub becoming : (var : Var) (number : ProcessState → ℤ) → IsChange (λ other. is_same_var other var) (λ state. becomes var (number state) state)
  becoming var number = setting var (λ state. sat (number state)) (λ state has. sat_is_value (number state))

  pub sending : (name : ℕ) (value : ProcessState → ℤ) → IsChange (λ var. false) (λ state. send name (value state) state)
  sending name value =
      record {
        values = λ state has. record { x = has.x; y = has.y; unread = has.unread };
        unread = λ state. refl;
        fuel = λ state. refl;
        keeps = λ state var same. sent_keeps state var (value state);
      }
    where
      sent_keeps : (state : ProcessState) (var : Var) (v : ℤ) → value_in var (send name v state) ≡ value_in var state
      sent_keeps state X v = refl
      sent_keeps state Y v = refl

  pub swapping : IsChange (λ var. true) (λ state. record state { x = state.y; y = state.x })
  swapping =
      record {
        values = λ state has. record { x = has.y; y = has.x; unread = has.unread };
        unread = λ state. refl;
        fuel = λ state. refl;
        keeps = λ state var same. absurd cc;
      }

  pub stepped_has : (state : ProcessState) → HasValues state → HasValues (stepped state)
  stepped_has state has = record { x = has.x; y = has.y; unread = has.unread }

  -- a change at the end
  pub ran_change : (state : ProcessState) (changed : Var → Bool) (change : ProcessState → ProcessState) → IsChange changed change → HasValues state → Ran state (λ read. 0) false changed (ended Finished (change state))
  ran_change state changed change is has =
      record {
        read = 0;
        left = omega (arith, ap measure (is.unread state));
        values = is.values state has;
        falls = omega (arith, is.fuel state);
        spent = omega (arith, is.fuel state);
        reads = λ no. absurd cc;
        keeps = λ var same done. is.keeps state var same;
      }

  -- a statement that does nothing but a change
  pub did : (state : ProcessState) (changed : Var → Bool) (change : ProcessState → ProcessState) → IsChange changed change → HasValues state → Ran state (within_cost 1) false changed (begins state (λ after. ended Finished (change after)))
  did state changed change is has =
      ran_as state (λ read. 1 + 0) (within_cost 1) false false changed changed _ (λ read. omega arith) (λ is. is) (λ var same. same)
      (begun state (λ read. 0) false changed (λ after. ended Finished (change after)) has (ran_change (stepped state) changed change is (stepped_has state has)))

  stream_has : (streams : Streams) (name : ℕ) (values : List ℤ) → ((other : ℕ) → All IsValue (streams other)) → All IsValue values → (other : ℕ) → All IsValue (with_stream streams name values other)
  stream_has streams name values has is other = elim (other == name) as (λ b. All IsValue (cond b values (streams other))) [ true ↦ is | false ↦ has other ]

  -- a read, and then a change by what was read
  ran_read : (state : ProcessState) (name : ℕ) (changed : Var → Bool) (change : ℤ → ProcessState → ProcessState) → CanRead name → ((value : ℤ) → IsValue value → IsChange changed (change value)) → HasValues state →
      (values : List ℤ) → state.unread name ≡ values → Ran state (λ read. 0) true changed (read_first values name state (λ value left. ended Finished (change value left)))
  ran_read state name changed change can is has [] stands =
      record { read = 0; left = omega arith; values = has; falls = omega arith; spent = omega arith; reads = λ sure done. absurd cc; keeps = λ var same done. absurd cc }
  ran_read state name changed change can is has (value ∷ values) stands =
      let all : All IsValue (value ∷ values) = subst (λ (l : List ℤ). All IsValue l) stands (has.unread name) in
      let left : ProcessState = record state { unread = with_stream state.unread name values } in
      let has_left : HasValues left = record { x = has.x; y = has.y; unread = stream_has state.unread name values has.unread (All-tail IsValue value values all) } in
      let changes_it = is value (All-head IsValue value values all) in
      record {
        read = 1;
        left = omega (arith, counts state.unread name value values can stands, ap measure (changes_it.unread left));
        values = changes_it.values left has_left;
        falls = omega (arith, changes_it.fuel left);
        spent = omega (arith, changes_it.fuel left);
        reads = λ sure done. omega arith;
        keeps = λ var same done. changes_it.keeps left var same ∙ kept var;
      }
    where
      kept : (var : Var) → value_in var (record state { unread = with_stream state.unread name values }) ≡ value_in var state
      kept X = refl
      kept Y = refl

  pub did_read : (state : ProcessState) (name : ℕ) (changed : Var → Bool) (change : ℤ → ProcessState → ProcessState) → CanRead name → ((value : ℤ) → IsValue value → IsChange changed (change value)) → HasValues state →
      Ran state (within_cost 1) true changed (begins state (λ after. read_first (after.unread name) name after (λ value left. ended Finished (change value left))))
  did_read state name changed change can is has =
      ran_as state (λ read. 1 + 0) (within_cost 1) true true changed changed _ (λ read. omega arith) (λ is. is) (λ var same. same)
      (begun state (λ read. 0) true changed (λ after. read_first (after.unread name) name after (λ value left. ended Finished (change value left))) has
      (ran_read (stepped state) name changed change can is (stepped_has state has) (state.unread name) refl))
