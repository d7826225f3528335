-- A node that runs in any way, over what a process reads, does what the process does up to somewhere.
use Rattle.std.proofs.Common.{◌≡◌, ◌≢◌, ℕ, ℤ, Bool, true, false, cond, List, [], ◌∷◌, ◌++◌, Option, Some, None, map, refl, sym, ap, subst, ◌∙◌, true≢false, eqb-true, eq-eqb}
use Rattle.std.specs.Prelude.{◌==◌}
use Rattle.tis_base.specs.declared.tiles.Dir.{Dir}
use Rattle.tis_base.specs.declared.tiles.Dir.TheVariants.{Left, Right, Up, Down}
use Rattle.tis_asm.specs.declared.instr.Source.{Source}
use Rattle.tis_asm.specs.declared.instr.Instr.{Instr}
use Rattle.tis_asm.specs.declared.program.MarkedInstr.{MarkedInstr}
use Rattle.tis_asm.specs.Node.{Node, Mode, Ready, Writing, One, is_same_dir, Supply, AtHand, AtPort, AtAny, supply_of, source_of, is_at_hand, is_local_with, can_local, can_local_in, comes_through, reads_with, wants, wants_in, offers, offers_in}
use Rattle.tis_asm.specs.PortRuns.{Step, Local, Took, Gave, IsPortRun, IsStep, after_step, after_steps, taken_from}
use Rattle.net_select.specs.Selection.{Ports}
use Rattle.net_select.proofs.Runs.{Act, Alone, Reads, Sends, step_of, Awaits, CanMake, Run, is_same_dir_self}
use Rattle.net_select.proofs.Follows.{read_under, Names, AreNamed}

-- ---- directions

pub same_dir : (one other : Dir) → is_same_dir one other ≡ true → one ≡ other
same_dir Left Left is = refl
same_dir Right Right is = refl
same_dir Up Up is = refl
same_dir Down Down is = refl
same_dir _ _ is = absurd cc

pub other_dir : (one other : Dir) → one ≢ other → is_same_dir one other ≡ false
other_dir one other apart = by (is_same_dir one other) refl
  where
    by : (b : Bool) → is_same_dir one other ≡ b → b ≡ false
    by true is = absurd (apart (same_dir one other is))
    by false is = refl

-- a choice between a value and none, which gave a value
pub gave_value : (b : Bool) (value other : ℤ) → cond b (Some value) None ≡ Some other → (b ≡ true) × (value ≡ other)
gave_value true value other is = (refl, cc)
gave_value false value other is = absurd cc

-- ---- what a node does is told by where it is

module _ (program : List MarkedInstr) (node : Node) where
  -- a node that goes on by itself waits for nothing
  pub local_wants : (dir : Dir) → can_local program node ≡ true → wants program node dir ≡ true → ⊥
  local_wants dir = by_mode node.mode _
    where
      by_supply : (supply : Supply) → is_at_hand supply ≡ true → comes_through supply dir ≡ true → ⊥
      by_supply (AtHand value) local waits = true≢false (sym waits)
      by_supply (AtPort port) local waits = true≢false (sym local)
      by_supply AtAny local waits = true≢false (sym local)

      by_source : (source : Option Source) → is_local_with source node ≡ true → reads_with source node dir ≡ true → ⊥
      by_source None local waits = true≢false (sym waits)
      by_source (Some source) local waits = by_supply (supply_of source node) local waits

      by_mode : (mode : Mode) (instr : Option Instr) → can_local_in mode instr node ≡ true → wants_in mode instr node dir ≡ true → ⊥
      by_mode Ready None local waits = true≢false (sym waits)
      by_mode Ready (Some instr) local waits = by_source (source_of instr) local waits
      by_mode (Writing value toward) instr local waits = true≢false (sym local)

  -- and gives nothing
  pub local_offers : (dir : Dir) (value : ℤ) → can_local program node ≡ true → offers node dir ≡ Some value → ⊥
  local_offers dir value = by_mode node.mode _
    where
      by_mode : (mode : Mode) (instr : Option Instr) → can_local_in mode instr node ≡ true → offers_in mode dir ≡ Some value → ⊥
      by_mode Ready instr local gives = absurd cc
      by_mode (Writing other toward) instr local gives = true≢false (sym local)

  -- a node that awaits a value from a port
  pub awaits_local : (dir : Dir) → Awaits program node dir → can_local program node ≡ false
  awaits_local dir awaits = rw (awaits.ready, awaits.found, awaits.source) refl

  pub awaits_wants : (dir other : Dir) → Awaits program node dir → wants program node other ≡ is_same_dir dir other
  awaits_wants dir other awaits = rw (awaits.ready, awaits.found, awaits.source) refl

  pub awaits_offers : (dir other : Dir) → Awaits program node dir → offers node other ≡ None
  awaits_offers dir other awaits = rw awaits.ready refl

  -- a node that writes to one port
  pub writing_local : (value : ℤ) (dir : Dir) → node.mode ≡ Writing value (One dir) → can_local program node ≡ false
  writing_local value dir writing = rw writing refl

  pub writing_wants : (value : ℤ) (dir other : Dir) → node.mode ≡ Writing value (One dir) → wants program node other ≡ false
  writing_wants value dir other writing = rw writing refl

  pub writing_offers : (value : ℤ) (dir other : Dir) → node.mode ≡ Writing value (One dir) → offers node other ≡ cond (is_same_dir dir other) (Some value) None
  writing_offers value dir other writing = rw writing refl

-- ---- the run of a node, and what a process does

-- the front of a list without its first item, where two lists begin alike
tails : {X : Type 0} (x y : X) (xs ys : List X) → x ∷ xs ≡ y ∷ ys → (x ≡ y) × (xs ≡ ys)
tails x y xs ys is = (cc, cc)

module _ (program : List MarkedInstr) (ports : Ports) (names : Names) (distinct : (one other : ℕ) → names.Read one → names.Read other → ports one ≡ ports other → one ≡ other) where
  -- what was done is the front of all that a process does, and the rest can follow
  pub record Agrees (node : Node) (steps : List Step) (acts : List Act) (end : Node) : Type 0 where
    pub done : List Act
    pub rest : List Act
    pub all : acts ≡ done ++ rest
    pub same : steps ≡ map (step_of ports) done
    pub more : Run program ports (after_steps program node steps) rest end

  -- under each name that the process reads, what was taken is what it read and what was left
  abbrev pub TakesWhatIsRead : List Step → List Act → (ℕ → List ℤ) → Type 0
  TakesWhatIsRead steps acts left = (name : ℕ) → names.Read name → taken_from (ports name) steps ≡ read_under name acts ++ left name

  -- one step more, which is the next that the process does
  onto : (act : Act) (node : Node) (step : Step) (steps : List Step) (acts : List Act) (end : Node) → step ≡ step_of ports act → Agrees (after_step program node step) steps acts end → Agrees node (step ∷ steps) (act ∷ acts) end
  onto act node step steps acts end is agrees = record {
    done = act ∷ agrees.done;
    rest = agrees.rest;
    all = ap (λ (l : List Act). act ∷ l) agrees.all;
    same = ap (λ (s : Step). s ∷ steps) is ∙ ap (λ (l : List Step). step_of ports act ∷ l) agrees.same;
    more = agrees.more;
  }

  -- a value that was taken is the first that is read under the name
  value_is : (name : ℕ) (value read : ℤ) (steps : List Step) (acts : List Act) (left : List ℤ) → taken_from (ports name) (Took (ports name) value ∷ steps) ≡ read_under name (Reads name read ∷ acts) ++ left → (value ≡ read) × (taken_from (ports name) steps ≡ read_under name acts ++ left)
  value_is name value read steps acts left is =
      tails value read (taken_from (ports name) steps) (read_under name acts ++ left)
      (ap (λ (b : Bool). cond b (value ∷ []) [] ++ taken_from (ports name) steps) (sym (is_same_dir_self (ports name))) ∙ is ∙ ap (λ (b : Bool). (cond b (read ∷ []) [] ++ read_under name acts) ++ left) (eq-eqb name name refl))

  -- under another name nothing was taken and nothing read
  other_is : (name other : ℕ) (value read : ℤ) (steps : List Step) (acts : List Act) (left : List ℤ) → names.Read name → names.Read other → (other == name) ≡ false → taken_from (ports other) (Took (ports name) value ∷ steps) ≡ read_under other (Reads name read ∷ acts) ++ left → taken_from (ports other) steps ≡ read_under other acts ++ left
  other_is name other value read steps acts left is_read other_read apart is =
      ap (λ (b : Bool). cond b (value ∷ []) [] ++ taken_from (ports other) steps) (sym (other_dir (ports name) (ports other) (λ same. true≢false (sym (eq-eqb other name (sym (distinct name other is_read other_read same))) ∙ apart))))
      ∙ is ∙ ap (λ (b : Bool). (cond b (read ∷ []) [] ++ read_under other acts) ++ left) apart

  takes_on : (name : ℕ) (value read : ℤ) (steps : List Step) (acts : List Act) (left : ℕ → List ℤ) → names.Read name → TakesWhatIsRead (Took (ports name) value ∷ steps) (Reads name read ∷ acts) left → TakesWhatIsRead steps acts left
  takes_on name value read steps acts left is_read takes other other_read = by (other == name) refl
    where
      by : (b : Bool) → (other == name) ≡ b → taken_from (ports other) steps ≡ read_under other acts ++ left other
      by true same =
          subst (λ (n : ℕ). taken_from (ports n) steps ≡ read_under n acts ++ left n) (sym (eqb-true other name same)) (value_is name value read steps acts (left name) (takes name is_read)).1
      by false apart = other_is name other value read steps acts (left other) is_read other_read apart (takes other other_read)

  -- a node that awaits a value that isn't left takes no step
  stands_still : (name : ℕ) (node : Node) (step : Step) (steps : List Step) (left : ℕ → List ℤ) → Awaits program node (ports name) → names.Read name → left name ≡ [] → IsStep program node step → TakesWhatIsRead (step ∷ steps) [] left → ⊥
  stands_still name node Local steps left awaits read none can takes = true≢false (sym can ∙ awaits_local program node (ports name) awaits)
  stands_still name node (Took dir value) steps left awaits read none can takes = cut (same_dir (ports name) dir (sym (awaits_wants program node (ports name) dir awaits) ∙ can.0))
    where
      cut : ports name ≡ dir → ⊥
      cut same = full (ap (λ (b : Bool). cond b (value ∷ []) [] ++ taken_from (ports name) steps) (sym (is_same_dir_self (ports name))) ∙ subst (λ (d : Dir). taken_from (ports name) (Took d value ∷ steps) ≡ []) (sym same) (takes name read ∙ none))
        where
          full : value ∷ taken_from (ports name) steps ≡ [] → ⊥
          full is = absurd cc
  stands_still name node (Gave dir value) steps left awaits read none can takes = empty (sym (awaits_offers program node (ports name) dir awaits) ∙ can)
    where
      empty : None ≡ Some value → ⊥
      empty is = absurd cc

  -- the next step is what the process does next
  next_is : (act : Act) (node : Node) (step : Step) (steps : List Step) (acts : List Act) (left : ℕ → List ℤ) → AreNamed names (act ∷ acts) → CanMake program node (step_of ports act) → IsStep program node step → TakesWhatIsRead (step ∷ steps) (act ∷ acts) left → (step ≡ step_of ports act) × TakesWhatIsRead steps acts left
  next_is Alone node Local steps acts left named can makes takes = (refl, takes)
  next_is Alone node (Took dir value) steps acts left named can makes takes = absurd (local_wants program node dir can makes.0)
  next_is Alone node (Gave dir value) steps acts left named can makes takes = absurd (local_offers program node dir value can makes)
  next_is (Reads name read) node Local steps acts left named can makes takes = absurd (true≢false (sym makes ∙ awaits_local program node (ports name) can))
  next_is (Reads name read) node (Took dir value) steps acts left named can makes takes =
      let same = same_dir (ports name) dir (sym (awaits_wants program node (ports name) dir can) ∙ makes.0) in
      let here : TakesWhatIsRead (Took (ports name) value ∷ steps) (Reads name read ∷ acts) left = subst (λ (d : Dir). TakesWhatIsRead (Took d value ∷ steps) (Reads name read ∷ acts) left) (sym same) takes in
      (ap (λ (d : Dir). Took d value) (sym same) ∙ ap (λ (v : ℤ). Took (ports name) v) (value_is name value read steps acts (left name) (here name named.0)).0, takes_on name value read steps acts left named.0 here)
  next_is (Reads name read) node (Gave dir value) steps acts left named can makes takes = absurd (empty (sym (awaits_offers program node (ports name) dir can) ∙ makes))
    where
      empty : None ≡ Some value → ⊥
      empty is = absurd cc
  next_is (Sends name sent) node Local steps acts left named can makes takes = absurd (true≢false (sym makes ∙ writing_local program node sent (ports name) can))
  next_is (Sends name sent) node (Took dir value) steps acts left named can makes takes = absurd (true≢false (sym makes.0 ∙ writing_wants program node sent (ports name) dir can))
  next_is (Sends name sent) node (Gave dir value) steps acts left named can makes takes =
      let gives = gave_value (is_same_dir (ports name) dir) sent value (sym (writing_offers program node sent (ports name) dir can) ∙ makes) in
      (ap (λ (d : Dir). Gave d value) (sym (same_dir (ports name) dir gives.0)) ∙ ap (λ (v : ℤ). Gave (ports name) v) (sym gives.1), takes)

  -- however the node runs, over what the process reads, it does what the process does
  pub agrees : (name : ℕ) (steps : List Step) (acts : List Act) (node end : Node) (left : ℕ → List ℤ) → IsPortRun program node steps → Run program ports node acts end → AreNamed names acts → Awaits program end (ports name) → names.Read name → left name ≡ [] → TakesWhatIsRead steps acts left → Agrees node steps acts end
  agrees name [] acts node end left makes run named awaits read none takes = record { done = []; rest = acts; all = refl; same = refl; more = run }
  agrees name (step ∷ steps) [] node end left makes run named awaits read none takes = absurd (stands_still name node step steps left (subst (λ (n : Node). Awaits program n (ports name)) (sym run) awaits) read none makes.0 takes)
  agrees name (step ∷ steps) (act ∷ acts) node end left makes run named awaits read none takes =
      let next = next_is act node step steps acts left named run.0 makes.0 takes in
      let goes_on : Run program ports (after_step program node step) acts end = subst (λ (s : Step). Run program ports (after_step program node s) acts end) (sym next.0) run.1 in
      onto act node step steps acts end next.0 (agrees name steps acts (after_step program node step) end left makes.1 goes_on named.1 awaits read none next.1)
