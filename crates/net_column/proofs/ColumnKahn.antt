-- The streams of a column's network.
use Rattle.std.proofs.Common.{◌≡◌, ◌≢◌, ℕ, suc, ◌+◌, ◌-◌, ◌*◌, ◌<◌, ◌≤◌, ℤ, Bool, cond, List, [], ◌∷◌, ◌++◌, length, length-append, map, replicate, refl, sym, ap, ◌∙◌, inl, inr, le_trans, zero, arith, eq-eqb}
use Rattle.std.specs.Prelude.{◌==◌, sum_by, if◌then◌else◌}
use Rattle.std.specs.List.{list_any, range_with_len}
use Rattle.std.proofs.Math.Nat.{mul-le-mul_left}
use Rattle.std.proofs.lemmas.Bool.{ne_eqb, cases_eq}
use Rattle.std.proofs.lemmas.List.{length-map}
use Rattle.std.proofs.lemmas.List.Sums.{sum_by-cons}
use Rattle.net_tree.specs.Tree.{Block}
use Rattle.net_rules.specs.Uses.{reads_in}
use Rattle.net_rules.specs.Numbers.{NumberedNet, readable_count}
use Rattle.net_rules.specs.Process.{Streams, block_cost, cost, beginning}
use Rattle.net_rules.specs.Kahn.{Inputs, input_streams, read_count, step_limit, run_of, with_sent, streams_from, kahn_streams, kahn_at, step_limits, bound}
use Rattle.net_column.specs.Column.{plain_tiles}
use Rattle.net_column.proofs.Stage.{made_by, most_steps}
use Rattle.net_column.proofs.Bodies.{Round, round_value, round_reads}
use Rattle.net_column.proofs.Rounds.{SendsAll, sends_over}
use Rattle.net_column.proofs.BodyStage.{local_steps, stage_steps}
use Rattle.net_column.proofs.PassStage.{pass_stage}
use Rattle.net_column.proofs.ColumnStages.{IsLine, line_stages, length-line_stages, column_stages, made_by-append, made_by-passes, most_steps-append, most_steps-passes, most_steps-some}

-- ---- counts

-- a part of a sum over numbers
part_of_sum : (f : ℕ → ℕ) (name count start : ℕ) → start ≤ name → name < start + count → f name ≤ sum_by f (range_with_len start count)
part_of_sum f name zero start from below = absurd (omega (arith, from, below))
part_of_sum f name (suc count) start from below =
    elim (cases_eq start name) [
      | inl same ↦ omega (arith, sum_by-cons f start (range_with_len (start + 1) count), ap f same)
      | inr apart ↦ omega (arith, sum_by-cons f start (range_with_len (start + 1) count), part_of_sum f name count (start + 1) (past start apart from) (omega (arith, below)))
    ]
  where
    past : (s : ℕ) → s ≢ name → s ≤ name → s + 1 ≤ name
    past s different within = omega (arith, different, within)

-- what stands on the name that a process reads is counted
read_count-enough : (net : NumberedNet) (streams : Streams) {number written : ℕ} {body : Block ℕ} → Round number written body → number < readable_count net → length (streams number) ≤ read_count net streams body
read_count-enough net streams {number = number} {body = body} round known =
    let f : ℕ → ℕ = λ name. if list_any (λ read. read == name) (reads_in body) then length (streams name) else 0 in
    let here : f number ≡ length (streams number) =
    ap (λ (names : List ℕ). cond (list_any (λ read. read == number) names) (length (streams number)) 0) (round_reads round)
    ∙ rw (eq-eqb number number refl) refl in
    omega (arith, here, part_of_sum f number (readable_count net) 0 (omega arith) (omega (arith, known)))

-- a process may take all the steps for the values on the name that it reads
limit-enough : (net : NumberedNet) (streams : Streams) {number written : ℕ} {body : Block ℕ} → Round number written body → number < readable_count net → (1 + length (streams number)) * cost body ≤ step_limit net streams body
limit-enough net streams {body = body} round known =
    let few = read_count-enough net streams round known in
    omega (arith, mul-le-mul_left (cost body) few)

-- ---- streams

-- a process of the line over the streams before it: it sends one value for each that it reads
run_sends : (net : NumberedNet) (streams : Streams) {number written : ℕ} {body : Block ℕ} (round : Round number written body) → number < readable_count net → SendsAll number written (round_value round) (block_cost body) (streams number) (beginning streams (step_limit net streams body + 1)) (run_of net streams body)
run_sends net streams {number = number} {body = body} round known =
    sends_over round streams (streams number) (step_limit net streams body + 1) (omega (arith, limit-enough net streams round known)) refl

-- where nothing stood and nothing was sent, nothing stands
both_empty : (one other : List ℤ) → one ≡ [] → other ≡ [] → one ++ other ≡ []
both_empty one other first second = ap (λ (l : List ℤ). l ++ other) first ∙ second

-- the last name of a line has what all its stages make of the first
line_makes : (net : NumberedNet) (number last : ℕ) (bodies : List (Block ℕ)) (line : IsLine number bodies) (streams : Streams) → last ≡ number + length bodies → last ≤ readable_count net → ((name : ℕ) → number < name → streams name ≡ []) →
    streams_from net bodies streams last ≡ made_by (line_stages number bodies line) (streams number)
line_makes net number last [] line streams is known fresh = ap streams (omega (arith, is))
line_makes net number last (body ∷ bodies) line streams is known fresh =
    let round = line.0.round in
    let inside : number < readable_count net = omega (arith, is, known) in
    let sends = run_sends net streams round inside in
    let sent : Streams = (run_of net streams body).state.sent in
    let written : with_sent streams sent (number + 1) ≡ map (round_value round) (streams number) = ap (λ (prefix : List ℤ). prefix ++ sent (number + 1)) (fresh (number + 1) (omega arith)) ∙ sends.sent in
    line_makes net (number + 1) last bodies line.1 (with_sent streams sent) (omega (arith, is)) known
    (λ name behind. both_empty (streams name) (sent name) (fresh name (omega (arith, behind))) (sends.others name (λ e. omega (arith, behind, e))))
    ∙ ap (made_by (line_stages (number + 1) bodies line.1)) written

-- processes only add to the streams
streams_grow : (net : NumberedNet) (bodies : List (Block ℕ)) (streams : Streams) (name : ℕ) → length (streams name) ≤ length (streams_from net bodies streams name)
streams_grow net [] streams name = omega arith
streams_grow net (body ∷ bodies) streams name =
    let sent = (run_of net streams body).state.sent in
    omega (arith, streams_grow net bodies (with_sent streams sent) name, length-append (streams name) (sent name))

-- more values leave room for more steps
more_room : (few many size : ℕ) → few ≤ many → (1 + few) * (2 + 2 * size) ≤ (1 + many) * (2 + 2 * size)
more_room few many size le = omega (arith, mul-le-mul_left size le)

-- the most steps of a process, where at least so many values stand on the name that it reads
limit_room : (net : NumberedNet) (streams : Streams) {number written : ℕ} {body : Block ℕ} → Round number written body → (count : ℕ) → number < readable_count net → count ≤ length (streams number) → (1 + count) * (2 + 2 * block_cost body) ≤ step_limit net streams body
limit_room net streams {number = number} {body = body} round count known many =
    let all = limit-enough net streams round known in
    omega (arith, all, more_room count (length (streams number)) (block_cost body) many)

-- the stages of a line make few times as many steps as its processes may
line_bound : (net : NumberedNet) (number : ℕ) (bodies : List (Block ℕ)) (line : IsLine number bodies) (streams : Streams) (count : ℕ) → number + length bodies ≤ readable_count net → count ≤ length (streams number) →
    most_steps (line_stages number bodies line) count ≤ 5 * sum_by (step_limit net (streams_from net bodies streams)) bodies + 16 * length bodies
line_bound net number [] line streams count known many = omega arith
line_bound net number (body ∷ bodies) line streams count known many =
    let round = line.0.round in
    let inside : number < readable_count net = omega (arith, known) in
    let sent : Streams = (run_of net streams body).state.sent in
    let last : Streams = streams_from net bodies (with_sent streams sent) in
    let sends = run_sends net streams round inside in
    let all : length (sent (number + 1)) ≡ length (streams number) = ap (λ (l : List ℤ). length l) sends.sent ∙ length-map (streams number) (round_value round) in
    let more : count ≤ length (with_sent streams sent (number + 1)) = omega (arith, all, many, length-append (streams (number + 1)) (sent (number + 1))) in
    let later = line_bound net (number + 1) bodies line.1 (with_sent streams sent) count (omega (arith, known)) more in
    let here = limit_room net last round count inside (le_trans many (streams_grow net (body ∷ bodies) streams number)) in
    step_more (step_limit net last body) (most_steps (line_stages (number + 1) bodies line.1) count) (block_cost body) count (sum_by (step_limit net last) bodies) (sum_by (step_limit net last) (body ∷ bodies)) (length bodies)
    (sum_by-cons (step_limit net last) body bodies) later here
  where
    step_more : (limit rest size count limits all others : ℕ) → all ≡ limit + limits → rest ≤ 5 * limits + 16 * others → (1 + count) * (2 + 2 * size) ≤ limit → local_steps size count + count + count + rest ≤ 5 * all + 16 * suc others
    step_more limit rest size count limits all others is later here = omega (arith, is, later, here, stage_steps size count)

-- ---- the column

-- the network of these processes down a column
abbrev pub line_net : ℕ → List (Block ℕ) → NumberedNet
line_net position bodies = record { tiles = plain_tiles; inputs = position ∷ []; channels = length bodies - 1; outputs = position ∷ []; processes = bodies }

readable_all : (position : ℕ) (bodies : List (Block ℕ)) → 0 < length bodies → readable_count (line_net position bodies) ≡ length bodies
readable_all position bodies some = omega (arith, some)

-- the stream at the column's position is what the stages make of its input
pub kahn_at-column : (position : ℕ) (bodies : List (Block ℕ)) (inputs : Inputs) (line : IsLine 0 bodies) → 0 < length bodies → kahn_at (line_net position bodies) inputs position ≡ made_by (column_stages bodies line) (inputs position)
kahn_at-column position bodies inputs line some =
    let net = line_net position bodies in
    let count = readable_all position bodies some in
    let makes = line_makes net 0 (readable_count net) bodies line (input_streams net inputs) (omega (arith, count)) (omega arith) (λ name behind. ap (λ (b : Bool). cond b (inputs position) []) (ne_eqb name 0 (λ e. omega (arith, behind, e)))) in
    ap (λ (b : Bool). cond b (kahn_streams net inputs (readable_count net)) []) (eq-eqb position position refl) ∙ makes
    ∙ sym (made_by-append (line_stages 0 bodies line) (replicate (3 - length bodies) pass_stage) (inputs position) ∙ made_by-passes (3 - length bodies) (made_by (line_stages 0 bodies line) (inputs position)))

-- there is no other output
pub kahn_at-other : (position : ℕ) (bodies : List (Block ℕ)) (inputs : Inputs) (other : ℕ) → other ≢ position → kahn_at (line_net position bodies) inputs other ≡ []
kahn_at-other position bodies inputs other apart = ap (λ (b : Bool). cond b (kahn_streams (line_net position bodies) inputs (readable_count (line_net position bodies))) []) (ne_eqb position other (λ e. apart (sym e)))

-- most steps of the processes and of the tiles below them, by those that the processes may take
room_for_all : (most line passes rows count limits few : ℕ) → most ≡ line + passes → passes ≡ (count + count) * rows → rows ≤ 3 → count + count ≤ line → line ≤ 5 * limits + 16 * few → few ≤ 3 → 12 * most ≤ 128 * 12 * (limits + 12)
room_for_all most line passes rows count limits few is_most is_passes small some within short = omega (arith, is_most, is_passes, some, within, short, mul-le-mul_left (count + count) small)

-- the bound leaves room for all steps on twelve tiles
pub bound-column : (position : ℕ) (bodies : List (Block ℕ)) (inputs : Inputs) (line : IsLine 0 bodies) → 0 < length bodies → length bodies ≤ 3 → 12 * most_steps (column_stages bodies line) (length (inputs position)) ≤ bound (line_net position bodies) inputs
bound-column position bodies inputs line some few =
    let net = line_net position bodies in
    let count = length (inputs position) in
    let stages = line_stages 0 bodies line in
    let rows = 3 - length bodies in
    let within = line_bound net 0 bodies line (input_streams net inputs) count (omega (arith, readable_all position bodies some)) (omega arith) in
    room_for_all (most_steps (column_stages bodies line) count) (most_steps stages count) (most_steps (replicate rows pass_stage) count) rows count (step_limits net inputs) (length bodies)
    (most_steps-append stages (replicate rows pass_stage) count) (most_steps-passes rows count) (omega arith) (most_steps-some stages count (omega (arith, some, length-line_stages 0 bodies line))) within few
