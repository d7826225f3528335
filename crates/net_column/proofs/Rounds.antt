-- What a process of a column sends, round after round.
use Rattle.std.proofs.Common.{◌≡◌, ◌≢◌, ℕ, zero, suc, ◌+◌, ◌*◌, ◌<◌, ℤ, Bool, true, cond, List, [], ◌∷◌, ◌++◌, length, map, refl, sym, ap, subst, ◌∙◌, append-nil, append_assoc, arith, eqb-true, eq-eqb}
use Rattle.std.specs.Prelude.{◌==◌}
use Rattle.std.proofs.lemmas.Bool.{ne_eqb, lt-ltb, and_parts}
use Rattle.std.proofs.Math.Nat.{mul-le-mul_left}
use Rattle.net_tree.specs.declared.tree.Var.TheVariants.{X, Y}
use Rattle.net_tree.specs.Tree.{Statement, Get, GetAdd, GetSub, Put, PutNumber, Move, Set, Add, Sub, Neg, Double, Copy, Swap, If, While, Count, Block, Empty}
use Rattle.net_rules.specs.Process.{Streams, with_stream, ProcessState, Execution, Finished, WaitsOn, ended, and_then, stepped, begins, read_from, send, with_value, exec_statement, exec, rounds_within, beginning, process_run, block_cost, cost}
use Rattle.net_column.specs.Column.{is_operation, sends_on}
use Rattle.net_column.proofs.Bodies.{last_false, Rest, Last, More, Round, Moves, Computes, operate, sent_by, value_sent, round_value, operation_cost, sends_cost}

-- what was put under a name stands there
pub with_stream-same : (streams : Streams) (name : ℕ) (values : List ℤ) → with_stream streams name values name ≡ values
with_stream-same streams name values = ap (λ (b : Bool). cond b values (streams name)) (eq-eqb name name refl)

-- what stands under other names stays
pub with_stream-other : (streams : Streams) (name other : ℕ) (values : List ℤ) → other ≢ name → with_stream streams name values other ≡ streams other
with_stream-other streams name other values apart = ap (λ (b : Bool). cond b values (streams other)) (ne_eqb other name apart)

-- the streams with one more value under a name
abbrev pub one_more : Streams → ℕ → ℤ → Streams
one_more streams name value = with_stream streams name (streams name ++ value ∷ [])

-- a step is begun where more than one unit of fuel is left
pub begun : (state : ProcessState) (next : ProcessState → Execution) → 1 < state.fuel → begins state next ≡ next (stepped state)
begun state next enough = rw (lt-ltb 1 state.fuel enough) refl

-- an operation changes the variable alone
operation_does : (statement : Statement ℕ) → is_operation statement ≡ true → (state : ProcessState) → exec_statement statement state ≡ begins state (λ after. ended Finished (record after { x = operate statement after.x }))
operation_does (Get read var) is state = absurd cc
operation_does (GetAdd read var) is state = absurd cc
operation_does (GetSub read var) is state = absurd cc
operation_does (Put written var) is state = absurd cc
operation_does (PutNumber written number) is state = absurd cc
operation_does (Move from to) is state = absurd cc
operation_does (Set X number) is state = refl
operation_does (Set Y number) is state = absurd cc
operation_does (Add X number) is state = refl
operation_does (Add Y number) is state = absurd cc
operation_does (Sub X number) is state = refl
operation_does (Sub Y number) is state = absurd cc
operation_does (Neg X) is state = refl
operation_does (Neg Y) is state = absurd cc
operation_does (Double X) is state = refl
operation_does (Double Y) is state = absurd cc
operation_does (Copy to from) is state = absurd cc
operation_does Swap is state = absurd cc
operation_does (If var test first second) is state = absurd cc
operation_does (While var test body) is state = absurd cc
operation_does (Count var body) is state = absurd cc

-- a statement that sends adds one value to what was sent
sends_does : (written : ℕ) (statement : Statement ℕ) → sends_on written statement ≡ true → (state : ProcessState) →
    exec_statement statement state ≡ begins state (λ after. ended Finished (record after { sent = one_more after.sent written (sent_by statement after.x) }))
sends_does written (Get read var) is state = absurd cc
sends_does written (GetAdd read var) is state = absurd cc
sends_does written (GetSub read var) is state = absurd cc
sends_does written (Put name X) is state = let both = and_parts (name == written) true is in ap (λ (n : ℕ). begins state (λ after. ended Finished (record after { sent = one_more after.sent n after.x }))) (eqb-true name written both.0)
sends_does written (Put name Y) is state = absurd (last_false (name == written) is)
sends_does written (PutNumber name number) is state = ap (λ (n : ℕ). begins state (λ after. ended Finished (record after { sent = one_more after.sent n number }))) (eqb-true name written is)
sends_does written (Move from to) is state = absurd cc
sends_does written (Set var number) is state = absurd cc
sends_does written (Add var number) is state = absurd cc
sends_does written (Sub var number) is state = absurd cc
sends_does written (Neg var) is state = absurd cc
sends_does written (Double var) is state = absurd cc
sends_does written (Copy to from) is state = absurd cc
sends_does written Swap is state = absurd cc
sends_does written (If var test first second) is state = absurd cc
sends_does written (While var test body) is state = absurd cc
sends_does written (Count var body) is state = absurd cc

-- the rest of a round is done to its end, and sends its value
record RestDone (rest : Block ℕ) (written : ℕ) (value : ℤ) (state : ProcessState) : Type 0 where
  after : ProcessState
  finishes : exec rest state ≡ ended Finished after
  unread : after.unread ≡ state.unread
  sent : after.sent ≡ one_more state.sent written value
  steps : after.steps ≡ state.steps + block_cost rest
  fuel : after.fuel + block_cost rest ≡ state.fuel

-- operations, and then one statement that sends
rest_done : {written : ℕ} {rest : Block ℕ} (view : Rest written rest) (state : ProcessState) → block_cost rest < state.fuel → RestDone rest written (value_sent view state.x) state
rest_done {written = written} (Last line statement sends) state enough =
    let one = sends_cost written statement sends in
    record {
      after = record (stepped state) { sent = one_more state.sent written (sent_by statement state.x) };
      finishes = ap (λ (execution : Execution). and_then execution (exec Empty)) (sends_does written statement sends state ∙ begun state (λ after. ended Finished (record after { sent = one_more after.sent written (sent_by statement after.x) })) (omega (arith, one, enough)));
      unread = refl;
      sent = refl;
      steps = omega (arith, one);
      fuel = omega (arith, one, enough);
    }
rest_done {written = written} (More line statement rest operation later) state enough =
    let one = operation_cost statement operation in
    let done = rest_done later (record (stepped state) { x = operate statement state.x }) (omega (arith, one, enough)) in
    record {
      after = done.after;
      finishes = ap (λ (execution : Execution). and_then execution (exec rest)) (operation_does statement operation state ∙ begun state (λ after. ended Finished (record after { x = operate statement after.x })) (omega (arith, one, enough))) ∙ done.finishes;
      unread = done.unread;
      sent = done.sent;
      steps = omega (arith, one, done.steps);
      fuel = omega (arith, one, enough, done.fuel);
    }

-- a round that finds this value is done to its end
record RoundDone (body : Block ℕ) (read written : ℕ) (value : ℤ) (values : List ℤ) (state : ProcessState) : Type 0 where
  after : ProcessState
  finishes : exec body state ≡ ended Finished after
  unread : after.unread read ≡ values
  sent : after.sent ≡ one_more state.sent written value
  steps : after.steps ≡ state.steps + block_cost body
  fuel : after.fuel + block_cost body ≡ state.fuel

-- a round that finds a value
round_done : {read written : ℕ} {body : Block ℕ} (round : Round read written body) (state : ProcessState) (value : ℤ) (values : List ℤ) → block_cost body < state.fuel → state.unread read ≡ value ∷ values → RoundDone body read written (round_value round value) values state
round_done {read = read} {written = written} (Moves line) state value values enough is =
    record {
      after = record (stepped state) { unread = with_stream state.unread read values; sent = one_more state.sent written value };
      finishes = ap (λ (execution : Execution). and_then execution (exec Empty)) (begun state (λ after. read_from read after (λ v left. ended Finished (send written v left))) (omega (arith, enough))) ∙ rw is refl;
      unread = with_stream-same state.unread read values;
      sent = refl;
      steps = omega arith;
      fuel = omega (arith, enough);
    }
round_done {read = read} {written = written} (Computes line rest view) state value values enough is =
    let done = rest_done view (record (stepped state) { x = value; unread = with_stream state.unread read values }) (omega (arith, enough)) in
    record {
      after = done.after;
      finishes = ap (λ (execution : Execution). and_then execution (exec rest)) (begun state (λ after. read_from read after (λ v left. ended Finished (with_value X v left))) (omega (arith, enough))) ∙ rw is done.finishes;
      unread = ap (λ (streams : Streams). streams read) done.unread ∙ with_stream-same state.unread read values;
      sent = done.sent;
      steps = omega (arith, done.steps);
      fuel = omega (arith, enough, done.fuel);
    }

-- a round that finds no value waits for one
round_waits : {read written : ℕ} {body : Block ℕ} (round : Round read written body) (state : ProcessState) → 1 < state.fuel → state.unread read ≡ [] → exec body state ≡ ended (WaitsOn read) (stepped state)
round_waits {read = read} {written = written} (Moves line) state enough is =
    ap (λ (execution : Execution). and_then execution (exec Empty)) (begun state (λ after. read_from read after (λ v left. ended Finished (send written v left))) enough) ∙ rw is refl
round_waits {read = read} (Computes line rest view) state enough is =
    ap (λ (execution : Execution). and_then execution (exec rest)) (begun state (λ after. read_from read after (λ v left. ended Finished (with_value X v left))) enough) ∙ rw is refl

-- the process read all these values, sent one for each, and waits for more
pub record SendsAll (read written : ℕ) (value_of : ℤ → ℤ) (size : ℕ) (values : List ℤ) (state : ProcessState) (execution : Execution) : Type 0 where
  pub sent : execution.state.sent written ≡ state.sent written ++ map value_of values
  pub others : (name : ℕ) → name ≢ written → execution.state.sent name ≡ state.sent name
  pub waits : execution.outcome ≡ WaitsOn read
  pub steps : execution.state.steps ≡ state.steps + length values * (1 + size) + 2

-- with rounds and fuel enough
sends_all : {read written : ℕ} {body : Block ℕ} (round : Round read written body) (values : List ℤ) (most : ℕ) (state : ProcessState) → length values < most → length values * (1 + block_cost body) + 2 < state.fuel → state.unread read ≡ values →
    SendsAll read written (round_value round) (block_cost body) values state (rounds_within most body state)
sends_all round values zero state room enough is = absurd (omega arith)
sends_all {read = read} {written = written} {body = body} round [] (suc most) state room enough is =
    let waits = begun state (exec body) (omega arith) ∙ round_waits round (stepped state) (omega arith) is in
    subst (λ (execution : Execution). SendsAll read written (round_value round) (block_cost body) [] state (and_then execution (rounds_within most body))) (sym waits)
    (record { sent = sym (append-nil (state.sent written)); others = λ name apart. refl; waits = refl; steps = omega arith })
sends_all {read = read} {written = written} {body = body} round (value ∷ values) (suc most) state room enough is =
    let done = round_done round (stepped state) value values (omega arith) is in
    let later = sends_all round values most done.after (omega arith) (omega (arith, done.fuel)) done.unread in
    let sent = ap (λ (streams : Streams). streams written) done.sent ∙ with_stream-same state.sent written (state.sent written ++ round_value round value ∷ []) in
    subst (λ (execution : Execution). SendsAll read written (round_value round) (block_cost body) (value ∷ values) state (and_then execution (rounds_within most body))) (sym (begun state (exec body) (omega arith) ∙ done.finishes))
    (record {
      sent = later.sent ∙ ap (λ (prefix : List ℤ). prefix ++ map (round_value round) values) sent ∙ append_assoc (state.sent written) (round_value round value ∷ []) (map (round_value round) values);
      others = λ name apart. later.others name apart ∙ ap (λ (streams : Streams). streams name) done.sent ∙ with_stream-other state.sent written name _ apart;
      waits = later.waits;
      steps = omega (arith, later.steps, done.steps);
    })

-- fuel for all steps is fuel for all rounds
enough_rounds : (count each fuel : ℕ) → 0 < each → (1 + count) * each < fuel → count < fuel
enough_rounds count each fuel some enough = omega (arith, mul-le-mul_left (1 + count) some)

-- a round for each value, and one that waits, take less than they may
enough_fuel : (count size fuel : ℕ) → (1 + count) * (2 + 2 * size) < fuel → count * (1 + size) + 2 < fuel
enough_fuel count size fuel enough = omega arith

-- a process over streams, with more fuel than the steps that it may take
pub sends_over : {read written : ℕ} {body : Block ℕ} (round : Round read written body) (streams : Streams) (values : List ℤ) (fuel : ℕ) → (1 + length values) * cost body < fuel → streams read ≡ values →
    SendsAll read written (round_value round) (block_cost body) values (beginning streams fuel) (process_run body streams fuel)
sends_over {body = body} round streams values fuel enough is =
    sends_all round values fuel (beginning streams fuel) (enough_rounds (length values) (cost body) fuel (omega arith) enough) (enough_fuel (length values) (block_cost body) fuel enough) is
