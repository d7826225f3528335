-- A node follows a process: what it does is what the process does, up to where that ends or waits.
use Rattle.std.proofs.Common.{◌≡◌, ℕ, ◌+◌, ◌*◌, ◌≤◌, ℤ, Bool, true, false, cond, List, [], ◌∷◌, ◌++◌, refl, sym, ap, ◌∙◌, arith, append_assoc}
use Rattle.std.specs.Prelude.{nat_lt, ◌==◌}
use Rattle.tis_asm.specs.declared.program.MarkedInstr.{MarkedInstr}
use Rattle.tis_asm.specs.Node.{Node}
use Rattle.net_rules.specs.Process.{ProcessState, Outcome, Finished, WaitsOn, OutOfFuel, Execution, ended, and_then, stepped, begins}
use Rattle.net_select.specs.Selection.{Ports}
use Rattle.net_select.proofs.Runs.{Act, Alone, Reads, Sends, Run, run_then, node_at, Awaits}

-- ---- what is done, counted and by name

abbrev pub alone_by : Act → ℕ
alone_by Alone = 1
alone_by (Reads name value) = 0
alone_by (Sends name value) = 0

-- how many steps are by the node itself
abbrev pub alone_count : List Act → ℕ
alone_count [] = 0
alone_count (act ∷ acts) = alone_by act + alone_count acts

pub alone_both : (acts others : List Act) → alone_count (acts ++ others) ≡ alone_count acts + alone_count others
alone_both [] others = omega arith
alone_both (act ∷ acts) others = omega (arith, alone_both acts others)

abbrev pub read_by : ℕ → Act → List ℤ
read_by name Alone = []
read_by name (Reads other value) = cond (name == other) (value ∷ []) []
read_by name (Sends other value) = []

abbrev pub sent_by : ℕ → Act → List ℤ
sent_by name Alone = []
sent_by name (Reads other value) = []
sent_by name (Sends other value) = cond (name == other) (value ∷ []) []

-- what is read under a name, and what is sent
abbrev pub read_under : ℕ → List Act → List ℤ
read_under name [] = []
read_under name (act ∷ acts) = read_by name act ++ read_under name acts

abbrev pub sent_under : ℕ → List Act → List ℤ
sent_under name [] = []
sent_under name (act ∷ acts) = sent_by name act ++ sent_under name acts

pub read_both : (name : ℕ) (acts others : List Act) → read_under name (acts ++ others) ≡ read_under name acts ++ read_under name others
read_both name [] others = refl
read_both name (act ∷ acts) others = ap (λ (l : List ℤ). read_by name act ++ l) (read_both name acts others) ∙ sym (append_assoc (read_by name act) (read_under name acts) (read_under name others))

pub sent_both : (name : ℕ) (acts others : List Act) → sent_under name (acts ++ others) ≡ sent_under name acts ++ sent_under name others
sent_both name [] others = refl
sent_both name (act ∷ acts) others = ap (λ (l : List ℤ). sent_by name act ++ l) (sent_both name acts others) ∙ sym (append_assoc (sent_by name act) (sent_under name acts) (sent_under name others))

-- ---- names of a process

-- which names it reads, and which it sends under
pub record Names : Type 1 where
  pub Read : ℕ → Type 0
  pub Written : ℕ → Type 0

abbrev pub IsNamed : Names → Act → Type 0
IsNamed names Alone = Unit {0}
IsNamed names (Reads name value) = names.Read name
IsNamed names (Sends name value) = names.Written name

abbrev pub AreNamed : Names → List Act → Type 0
AreNamed names [] = Unit {0}
AreNamed names (act ∷ acts) = IsNamed names act × AreNamed names acts

pub named_both : (names : Names) (acts others : List Act) → AreNamed names acts → AreNamed names others → AreNamed names (acts ++ others)
named_both names [] others are more = more
named_both names (act ∷ acts) others are more = (are.0, named_both names acts others are.1 more)

module _ (program : List MarkedInstr) (ports : Ports) (names : Names) where
  -- what a node does from here to there, while a process comes from one state to another: it reads and sends the same, and by itself it takes no more than eight steps for one of the process
  pub record Ran (node : Node) (state after : ProcessState) (end : Node) : Type 0 where
    pub acts : List Act
    pub run : Run program ports node acts end
    pub unread : (name : ℕ) → state.unread name ≡ read_under name acts ++ after.unread name
    pub sent : (name : ℕ) → after.sent name ≡ state.sent name ++ sent_under name acts
    pub local : alone_count acts + 8 * state.steps ≤ 8 * after.steps
    pub named : AreNamed names acts

  pub ran_then : (node mid end : Node) (state between after : ProcessState) → Ran node state between mid → Ran mid between after end → Ran node state after end
  ran_then node mid end state between after first second = record {
    acts = first.acts ++ second.acts;
    run = run_then program ports first.acts second.acts node mid end first.run second.run;
    unread = λ name. first.unread name ∙ ap (λ (l : List ℤ). read_under name first.acts ++ l) (second.unread name) ∙ sym (append_assoc (read_under name first.acts) (read_under name second.acts) (after.unread name)) ∙ ap (λ (l : List ℤ). l ++ after.unread name) (sym (read_both name first.acts second.acts));
    sent = λ name. second.sent name ∙ ap (λ (l : List ℤ). l ++ sent_under name second.acts) (first.sent name) ∙ append_assoc (state.sent name) (sent_under name first.acts) (sent_under name second.acts) ∙ ap (λ (l : List ℤ). state.sent name ++ l) (sym (sent_both name first.acts second.acts));
    local = omega (arith, first.local, second.local, alone_both first.acts second.acts);
    named = named_both names first.acts second.acts first.named second.named;
  }

  -- the node came to wait for a value under this name, of which none is left
  pub record RanToWait (node : Node) (state after : ProcessState) (name : ℕ) : Type 0 where
    pub end : Node
    pub ran : Ran node state after end
    pub awaits : Awaits program end (ports name)
    pub empty : after.unread name ≡ []
    pub read : names.Read name

  -- the node does what an execution does: where that finished, it stands at this place
  abbrev pub FollowsTo : Node → ℕ → ProcessState → Outcome → ProcessState → Type 0
  FollowsTo node place state Finished after = Ran node state after (node_at program ports place after.x after.y)
  FollowsTo node place state (WaitsOn name) after = RanToWait node state after name
  FollowsTo node place state OutOfFuel after = Unit {0}

  abbrev pub Follows : Node → ℕ → ProcessState → Execution → Type 0
  Follows node place state execution = FollowsTo node place state execution.outcome execution.state

  pub before : (node mid : Node) (place : ℕ) (state between : ProcessState) (execution : Execution) → Ran node state between mid → Follows mid place between execution → Follows node place state execution
  before node mid place state between execution first = by execution.outcome
    where
      by : (outcome : Outcome) → FollowsTo mid place between outcome execution.state → FollowsTo node place state outcome execution.state
      by Finished second = ran_then node mid (node_at program ports place execution.state.x execution.state.y) state between execution.state first second
      by (WaitsOn name) second = record { end = second.end; ran = ran_then node mid second.end state between execution.state first second.ran; awaits = second.awaits; empty = second.empty; read = second.read }
      by OutOfFuel second = tt

  -- one execution after another
  pub then : (node : Node) (mid place : ℕ) (state : ProcessState) (execution : Execution) (next : ProcessState → Execution) → Follows node mid state execution → ((after : ProcessState) → Follows (node_at program ports mid after.x after.y) place after (next after)) → Follows node place state (and_then execution next)
  then node mid place state execution next first = by execution.outcome first
    where
      by : (outcome : Outcome) → FollowsTo node mid state outcome execution.state → ((after : ProcessState) → Follows (node_at program ports mid after.x after.y) place after (next after)) → Follows node place state (and_then (record { state = execution.state; outcome = outcome }) next)
      by Finished ran more = before node (node_at program ports mid execution.state.x execution.state.y) place state execution.state (next execution.state) ran (more execution.state)
      by (WaitsOn name) ran more = ran
      by OutOfFuel ran more = tt

  -- a step is begun
  pub begun : (node : Node) (place : ℕ) (state : ProcessState) (next : ProcessState → Execution) → Follows node place state (next (stepped state)) → Follows node place state (begins state next)
  begun node place state next = by (nat_lt 1 state.fuel)
    where
      by : (b : Bool) → Follows node place state (next (stepped state)) → Follows node place state (cond b (next (stepped state)) (ended OutOfFuel state))
      by true follows = follows
      by false follows = tt
