-- What a process does: it reads, computes and sends, statement after statement and round after round (Kahn 1974). A read waits until a value is there, and nothing else can be told of a stream.
use Rattle.std.specs.Prelude.{ℕ, zero, suc, ◌+◌, ◌-◌, ◌*◌, nat_lt, ℤ, pos, negsuc, ◌+ℤ◌, ◌-ℤ◌, neg_ℤ, Bool, true, false, not, List, [], ◌∷◌, ◌++◌, ◌==◌, if◌then◌else◌}
use Rattle.tis_base.specs.Saturation.{sat}
use Rattle.net_tree.specs.declared.tree.Var.{Var}
use Rattle.net_tree.specs.declared.tree.Var.TheVariants.{X, Y}
use Rattle.net_tree.specs.declared.tree.Test.{Test}
use Rattle.net_tree.specs.declared.tree.Test.TheVariants.{Zero, NotZero, Negative, Positive, NotPositive, NotNegative}
use Rattle.net_tree.specs.Tree.{Statement, Get, GetAdd, GetSub, Put, PutNumber, Move, Set, Add, Sub, Neg, Double, Copy, Swap, If, While, Count, Block, Empty, Then}

-- a list of values for each name, which is a number
abbrev pub Streams : Type 0
Streams = ℕ → List ℤ

-- the same streams, but with these values under this name
abbrev pub with_stream : Streams → ℕ → List ℤ → Streams
with_stream streams name values = λ other. if other == name then values else streams other

-- the two variables, what is left to read and what was sent under each name, how many steps were begun, and the fuel that is left
pub record ProcessState : Type 0 where
  pub x : ℤ
  pub y : ℤ
  pub unread : Streams
  pub sent : Streams
  pub steps : ℕ
  pub fuel : ℕ

-- how an execution ends: all was done, a read waits for a value that isn't there, or the fuel is used up
pub data Outcome : Type 0 where
  Finished : Outcome
  WaitsOn : (name : ℕ) → Outcome
  OutOfFuel : Outcome

-- the state that an execution comes to, and how it ended there
pub record Execution : Type 0 where
  pub state : ProcessState
  pub outcome : Outcome

abbrev pub ended : Outcome → ProcessState → Execution
ended outcome state = record { state = state; outcome = outcome }

-- what comes next is done only where all before it was done
abbrev pub followed : Outcome → ProcessState → (ProcessState → Execution) → Execution
followed Finished state next = next state
followed (WaitsOn name) state next = ended (WaitsOn name) state
followed OutOfFuel state next = ended OutOfFuel state

abbrev pub and_then : Execution → (ProcessState → Execution) → Execution
and_then execution next = followed execution.outcome execution.state next

-- one more step, which takes one unit of fuel
abbrev pub stepped : ProcessState → ProcessState
stepped state = record state { steps = state.steps + 1; fuel = state.fuel - 1 }

-- a step is begun, and what it does follows; where it would leave no fuel, the execution is out of fuel instead
abbrev pub begins : ProcessState → (ProcessState → Execution) → Execution
begins state next = if nat_lt 1 state.fuel then next (stepped state) else ended OutOfFuel state

-- a read of the first value that is left under a name
abbrev pub read_first : List ℤ → ℕ → ProcessState → (ℤ → ProcessState → Execution) → Execution
read_first [] name state next = ended (WaitsOn name) state
read_first (value ∷ values) name state next = next value (record state { unread = with_stream state.unread name values })

abbrev pub read_from : ℕ → ProcessState → (ℤ → ProcessState → Execution) → Execution
read_from name state next = read_first (state.unread name) name state next

-- a value is sent behind those that were sent before
abbrev pub send : ℕ → ℤ → ProcessState → ProcessState
send name value state = record state { sent = with_stream state.sent name (state.sent name ++ value ∷ []) }

-- the value of a variable, and another one in its place
abbrev pub value_in : Var → ProcessState → ℤ
value_in X state = state.x
value_in Y state = state.y

abbrev pub with_value : Var → ℤ → ProcessState → ProcessState
with_value X value state = record state { x = value }
with_value Y value state = record state { y = value }

-- ---- tests

abbrev pub is_zero : ℤ → Bool
is_zero (pos n) = n == 0
is_zero (negsuc n) = false

abbrev pub is_negative : ℤ → Bool
is_negative (pos n) = false
is_negative (negsuc n) = true

abbrev pub is_positive : ℤ → Bool
is_positive (pos n) = not (n == 0)
is_positive (negsuc n) = false

-- whether a value passes a test
abbrev pub passes : Test → ℤ → Bool
passes Zero value = is_zero value
passes NotZero value = not (is_zero value)
passes Negative value = is_negative value
passes Positive value = is_positive value
passes NotPositive value = not (is_positive value)
passes NotNegative value = not (is_negative value)

-- ---- statements

-- a step is begun that does nothing but this
abbrev pub does : ProcessState → (ProcessState → ProcessState) → Execution
does state change = begins state (λ after. ended Finished (change after))

-- a step is begun that reads a value
abbrev pub reads : ProcessState → ℕ → (ℤ → ProcessState → ProcessState) → Execution
reads state name change = begins state (λ after. read_from name after (λ value left. ended Finished (change value left)))

-- a variable becomes the nearest value of the machine to a number
abbrev pub becomes : Var → ℤ → ProcessState → ProcessState
becomes var number state = with_value var (sat number) state

-- a loop: each turn begins with a test, which is a step, and where the test holds the block is done and then the next turn. Each turn takes fuel, so there are no more than there is fuel
abbrev pub loop_within : ℕ → (ProcessState → Bool) → (ProcessState → Execution) → ProcessState → Execution
loop_within zero holds body state = ended OutOfFuel state
loop_within (suc more) holds body state =
    begins state (λ after. if holds after then and_then (body after) (loop_within more holds body) else ended Finished after)

abbrev pub loop : (ProcessState → Bool) → (ProcessState → Execution) → ProcessState → Execution
loop holds body state = loop_within state.fuel holds body state

abbrev mutual
  -- what a statement does; sums, differences and negatives are held within the values of the machine
  pub exec_statement : Statement ℕ → ProcessState → Execution
  exec_statement (Get read var) state = reads state read (λ value after. with_value var value after)
  exec_statement (GetAdd read var) state = reads state read (λ value after. becomes var (value_in var after +ℤ value) after)
  exec_statement (GetSub read var) state = reads state read (λ value after. becomes var (value_in var after -ℤ value) after)
  exec_statement (Put written var) state = does state (λ after. send written (value_in var after) after)
  exec_statement (PutNumber written number) state = does state (λ after. send written number after)
  exec_statement (Move read written) state = reads state read (λ value after. send written value after)
  exec_statement (Set var number) state = does state (λ after. with_value var number after)
  exec_statement (Add var number) state = does state (λ after. becomes var (value_in var after +ℤ number) after)
  exec_statement (Sub var number) state = does state (λ after. becomes var (value_in var after -ℤ number) after)
  exec_statement (Neg var) state = does state (λ after. becomes var (neg_ℤ (value_in var after)) after)
  exec_statement (Double var) state = does state (λ after. becomes var (value_in var after +ℤ value_in var after) after)
  exec_statement (Copy to from) state = does state (λ after. with_value to (value_in from after) after)
  exec_statement Swap state = does state (λ after. record after { x = after.y; y = after.x })
  exec_statement (If var test first second) state = begins state (λ after. if passes test (value_in var after) then exec first after else exec second after)
  exec_statement (While var test body) state = loop (λ after. passes test (value_in var after)) (exec body) state
  exec_statement (Count var body) state =
      loop (λ after. is_positive (value_in var after)) (λ after. and_then (exec body after) (λ done. ended Finished (becomes var (value_in var done -ℤ pos 1) done))) state

  -- the statements of a block, one after the other
  pub exec : Block ℕ → ProcessState → Execution
  exec Empty state = ended Finished state
  exec (Then line statement rest) state = and_then (exec_statement statement state) (exec rest)

-- ---- rounds

-- a round, which is begun by one step
abbrev pub round : Block ℕ → ProcessState → Execution
round body state = begins state (exec body)

-- at most so many rounds, one after the other
abbrev pub rounds_within : ℕ → Block ℕ → ProcessState → Execution
rounds_within zero body state = ended OutOfFuel state
rounds_within (suc more) body state = and_then (round body state) (rounds_within more body)

-- round after round; each takes fuel, so there are no more rounds than there is fuel
abbrev pub rounds : Block ℕ → ProcessState → Execution
rounds body state = rounds_within state.fuel body state

-- a process at its start, over the streams that it can read, with this much fuel
abbrev pub beginning : Streams → ℕ → ProcessState
beginning streams fuel = record { x = pos 0; y = pos 0; unread = streams; sent = λ name. []; steps = 0; fuel = fuel }

-- a process run round after round from its start
abbrev pub process_run : Block ℕ → Streams → ℕ → Execution
process_run body streams fuel = rounds body (beginning streams fuel)

-- ---- the most steps

abbrev mutual
  -- the most steps that a statement takes before its first read, between two reads, and behind the last: a `count` has at most 999 turns, and each turn of a `while` reads
  pub statement_cost : Statement ℕ → ℕ
  statement_cost (If var test first second) = 1 + (block_cost first + block_cost second)
  statement_cost (While var test body) = 2 + 2 * block_cost body
  statement_cost (Count var body) = 1 + 999 * (1 + block_cost body)
  statement_cost _ = 1

  -- the sum over the statements of a block
  pub block_cost : Block ℕ → ℕ
  block_cost Empty = 0
  block_cost (Then line statement rest) = statement_cost statement + block_cost rest

-- the most steps of a process before its first read, and behind each
abbrev pub cost : Block ℕ → ℕ
cost body = 2 + 2 * block_cost body
