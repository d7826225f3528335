-- The streams of a network (Kahn 1974), found process by process in the order of the text, each over the whole streams that it reads: there is no feedback.
use Rattle.std.specs.Prelude.{ℕ, ◌+◌, ◌*◌, ℤ, List, [], ◌∷◌, ◌++◌, length, sum_by, ◌==◌, if◌then◌else◌}
use Rattle.std.specs.List.{list_any, range_with_len}
use Rattle.net_tree.specs.Tree.{Block}
use Rattle.net_rules.specs.Uses.{reads_in}
use Rattle.net_rules.specs.Numbers.{NumberedNet, readable_count}
use Rattle.net_rules.specs.Process.{Streams, Execution, process_run, cost}

-- the values that come in at each position, first to last; where none do, there are none. Of a list of inputs at distinct positions they are the values of the one at the position
abbrev pub Inputs : Type 0
Inputs = ℕ → List ℤ

-- what comes in, under the numbers of the inputs, of which the first has this number
abbrev pub input_streams_from : ℕ → List ℕ → Inputs → Streams
input_streams_from number [] inputs name = []
input_streams_from number (position ∷ positions) inputs name = if name == number then inputs position else input_streams_from (number + 1) positions inputs name

abbrev pub input_streams : NumberedNet → Inputs → Streams
input_streams net inputs = input_streams_from 0 net.inputs inputs

-- how many values stand on the names that a process reads
abbrev pub read_count : NumberedNet → Streams → Block ℕ → ℕ
read_count net streams body = sum_by (λ name. if list_any (λ read. read == name) (reads_in body) then length (streams name) else 0) (range_with_len 0 (readable_count net))

-- the most steps of a process over these streams
abbrev pub step_limit : NumberedNet → Streams → Block ℕ → ℕ
step_limit net streams body = (1 + read_count net streams body) * cost body

-- a process run over whole streams, with one unit more fuel than the steps that it may take
abbrev pub run_of : NumberedNet → Streams → Block ℕ → Execution
run_of net streams body = process_run body streams (step_limit net streams body + 1)

-- the streams, and behind them what was sent
abbrev pub with_sent : Streams → Streams → Streams
with_sent streams sent = λ name. streams name ++ sent name

-- each process in text order, over what comes in and what those before it sent
abbrev pub streams_from : NumberedNet → List (Block ℕ) → Streams → Streams
streams_from net [] streams = streams
streams_from net (body ∷ bodies) streams = streams_from net bodies (with_sent streams (run_of net streams body).state.sent)

-- the stream of each name
abbrev pub kahn_streams : NumberedNet → Inputs → Streams
kahn_streams net inputs = streams_from net net.processes (input_streams net inputs)

-- the stream of the output at a position, where the first of these outputs has this number
abbrev pub stream_at : ℕ → List ℕ → Streams → ℕ → List ℤ
stream_at number [] streams at = []
stream_at number (position ∷ positions) streams at = if position == at then streams number else stream_at (number + 1) positions streams at

-- the stream of the output at a position, empty where no output stands there
abbrev pub kahn_at : NumberedNet → Inputs → ℕ → List ℤ
kahn_at net inputs at = stream_at (readable_count net) net.outputs (kahn_streams net inputs) at

-- the steps that all processes take, each over the whole streams: in an accepted network nothing is sent later on what a process reads
abbrev pub steps : NumberedNet → Inputs → ℕ
steps net inputs = sum_by (λ body. (run_of net (kahn_streams net inputs) body).state.steps) net.processes

-- the steps that all processes may take
abbrev pub step_limits : NumberedNet → Inputs → ℕ
step_limits net inputs = sum_by (step_limit net (kahn_streams net inputs)) net.processes

-- how long an order is at most: 128 * T * (S + T), with T tiles and S steps that the processes may take
abbrev pub bound : NumberedNet → Inputs → ℕ
bound net inputs = 128 * length net.tiles.kinds * (step_limits net inputs + length net.tiles.kinds)
