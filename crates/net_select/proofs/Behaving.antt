-- The code of a process behaves as the process.
use Rattle.std.proofs.Common.{◌≡◌, ◌≢◌, ℕ, ◌+◌, ◌<◌, ◌≤◌, ℤ, pos, Bool, true, false, cond, List, [], ◌∷◌, ◌++◌, Option, Some, None, length, map, refl, sym, ap, subst, ◌∙◌, arith, append_assoc, append-nil, true≢false, eqb-true, eq-eqb}
use Rattle.std.specs.Prelude.{IsTrue, All, slice_get, option_map, ◌==◌, ◌||◌}
use Rattle.std.specs.List.{list_any}
use Rattle.std.proofs.lemmas.List.{length-map, length-append}
use Rattle.std.proofs.lemmas.List.Elements.{All-append, All-cons, All-nil}
use Rattle.std.proofs.lemmas.Option.{slice_get_within}
use Rattle.tis_base.specs.Saturation.{IsValue}
use Rattle.tis_base.specs.Prefix.{IsPrefixOf}
use Rattle.tis_base.specs.declared.tiles.Dir.{Dir}
use Rattle.tis_asm.specs.declared.instr.Instr.{Instr}
use Rattle.tis_asm.specs.declared.program.MarkedInstr.{MarkedInstr}
use Rattle.tis_asm.specs.Node.{Node, fresh, is_same_dir, wants, offers}
use Rattle.tis_asm.specs.PortRuns.{Step, Local, Took, Gave, IsPortRun, IsStep, after_step, after_steps, taken_by, taken_from, given_to, local_count}
use Rattle.net_tree.specs.Tree.{Block}
use Rattle.net_rules.specs.Uses.{reads_in, writes_in}
use Rattle.net_rules.specs.Process.{Streams, Outcome, WaitsOn, OutOfFuel, Execution, beginning, process_run}
use Rattle.net_select.specs.Selection.{Ports, Code, block_lines, block_code, code_of, program_of}
use Rattle.net_select.specs.Behaves.{reads, writes, AreDistinct, taken_under, BehavesAfter, Behaves}
use Rattle.net_select.proofs.Lengths.{lines_are_told}
use Rattle.net_select.proofs.Runs.{Act, Alone, Reads, Sends, step_of, Awaits, Run, ready_at, node_at, HoldsAt, moved, is_same_dir_self}
use Rattle.net_select.proofs.Follows.{alone_count, alone_both, read_under, read_both, sent_under, sent_both, Names, AreNamed, RanToWait, FollowsTo}
use Rattle.net_select.proofs.Trees.{EachIs, rounds_do}
use Rattle.net_select.proofs.Agreement.{same_dir, other_dir, gave_value, local_wants, local_offers, awaits_wants, awaits_offers, writing_wants, writing_offers, Agrees, agrees}

-- ---- the names of a process

abbrev names_of : Block ℕ → Names
names_of body = record { Read = λ name. IsTrue (reads body name); Written = λ name. IsTrue (writes body name) }

has_here : (front : List ℕ) (name : ℕ) (rest : List ℕ) → list_any (λ n. n == name) (front ++ name ∷ rest) ≡ true
has_here [] name rest = ap (λ (b : Bool). b || list_any (λ n. n == name) rest) (eq-eqb name name refl)
has_here (other ∷ front) name rest = by (other == name) (has_here front name rest)
  where
    by : (b : Bool) → list_any (λ n. n == name) (front ++ name ∷ rest) ≡ true → (b || list_any (λ n. n == name) (front ++ name ∷ rest)) ≡ true
    by true has = refl
    by false has = has

-- each name of a list is one of its names
each_is : (front rest : List ℕ) → EachIs (λ name. list_any (λ n. n == name) (front ++ rest) ≡ true) rest
each_is front [] = tt
each_is front (name ∷ rest) = (has_here front name rest, subst (λ (l : List ℕ). EachIs (λ other. list_any (λ n. n == other) l ≡ true) rest) (append_assoc front (name ∷ []) rest) (each_is (front ++ name ∷ []) rest))

-- ---- the code stands in its program

abbrev unmarked : Instr → MarkedInstr
unmarked i = record { instr = i; mark = false }

at_seam : (front : List MarkedInstr) (marked : MarkedInstr) (rest : List MarkedInstr) → slice_get (front ++ marked ∷ rest) (length front) ≡ Some marked
at_seam [] marked rest = refl
at_seam (first ∷ front) marked rest = at_seam front marked rest

code_stands : (program : List MarkedInstr) (ports : Ports) (front : List MarkedInstr) (code : Code) → program ≡ front ++ map unmarked code → HoldsAt program ports (length front) code
code_stands program ports front [] is = tt
code_stands program ports front (i ∷ code) is =
    let here : slice_get program (length front) ≡ Some (unmarked i) = ap (λ (p : List MarkedInstr). slice_get p (length front)) is ∙ at_seam front (unmarked i) (map unmarked code) in (
      ap (option_map (λ (marked : MarkedInstr). marked.instr)) here,
      moved program ports code (length (front ++ unmarked i ∷ [])) (length front + 1) (length-append front (unmarked i ∷ [])) (code_stands program ports (front ++ unmarked i ∷ []) code (is ∙ sym (append_assoc front (unmarked i ∷ []) (map unmarked code)))),
    )

-- ---- what a node took are values

step_values : (program : List MarkedInstr) (node : Node) (dir : Dir) (step : Step) → IsStep program node step → All IsValue (taken_by dir step)
step_values program node dir Local can = All-nil IsValue
step_values program node dir (Gave port value) can = All-nil IsValue
step_values program node dir (Took port value) can = by (is_same_dir port dir)
  where
    by : (b : Bool) → All IsValue (cond b (value ∷ []) [])
    by true = All-cons IsValue value [] can.1 (All-nil IsValue)
    by false = All-nil IsValue

taken_values : (program : List MarkedInstr) (dir : Dir) (steps : List Step) (node : Node) → IsPortRun program node steps → All IsValue (taken_from dir steps)
taken_values program dir [] node run = All-nil IsValue
taken_values program dir (step ∷ steps) node run = All-append IsValue (taken_by dir step) (taken_from dir steps) (step_values program node dir step run.0) (taken_values program dir steps (after_step program node step) run.1)

pub under_values : (program : List MarkedInstr) (ports : Ports) (body : Block ℕ) (steps : List Step) → IsPortRun program fresh steps → (name : ℕ) → All IsValue (taken_under ports body steps name)
under_values program ports body steps run name = by (reads body name)
  where
    by : (b : Bool) → All IsValue (cond b (taken_from (ports name) steps) [])
    by true = taken_values program (ports name) steps fresh run
    by false = All-nil IsValue

-- ---- what a process does, at the ports

module _ (ports : Ports) (names : Names) where
  -- what is done at the ports, under a name that alone has its port
  taken_is : ((one other : ℕ) → names.Read one → names.Read other → ports one ≡ ports other → one ≡ other) → (name : ℕ) (acts : List Act) → names.Read name → AreNamed names acts → taken_from (ports name) (map (step_of ports) acts) ≡ read_under name acts
  taken_is distinct name [] read named = refl
  taken_is distinct name (Alone ∷ acts) read named = taken_is distinct name acts read named.1
  taken_is distinct name (Sends other value ∷ acts) read named = taken_is distinct name acts read named.1
  taken_is distinct name (Reads other value ∷ acts) read named = by (name == other) refl (taken_is distinct name acts read named.1)
    where
      by : (b : Bool) → (name == other) ≡ b → taken_from (ports name) (map (step_of ports) acts) ≡ read_under name acts → cond (is_same_dir (ports other) (ports name)) (value ∷ []) [] ++ taken_from (ports name) (map (step_of ports) acts) ≡ cond b (value ∷ []) [] ++ read_under name acts
      by true same rest = ap (λ (d : Bool). cond d (value ∷ []) [] ++ taken_from (ports name) (map (step_of ports) acts)) (ap (λ (n : ℕ). is_same_dir (ports other) (ports n)) (eqb-true name other same) ∙ is_same_dir_self (ports other)) ∙ ap (λ (l : List ℤ). value ∷ l) rest
      by false apart rest = ap (λ (d : Bool). cond d (value ∷ []) [] ++ taken_from (ports name) (map (step_of ports) acts)) (other_dir (ports other) (ports name) (λ port. true≢false (sym (eq-eqb name other (sym (distinct other name named.0 read port))) ∙ apart))) ∙ rest

  given_is : ((one other : ℕ) → names.Written one → names.Written other → ports one ≡ ports other → one ≡ other) → (name : ℕ) (acts : List Act) → names.Written name → AreNamed names acts → given_to (ports name) (map (step_of ports) acts) ≡ sent_under name acts
  given_is distinct name [] written named = refl
  given_is distinct name (Alone ∷ acts) written named = given_is distinct name acts written named.1
  given_is distinct name (Reads other value ∷ acts) written named = given_is distinct name acts written named.1
  given_is distinct name (Sends other value ∷ acts) written named = by (name == other) refl (given_is distinct name acts written named.1)
    where
      by : (b : Bool) → (name == other) ≡ b → given_to (ports name) (map (step_of ports) acts) ≡ sent_under name acts → cond (is_same_dir (ports other) (ports name)) (value ∷ []) [] ++ given_to (ports name) (map (step_of ports) acts) ≡ cond b (value ∷ []) [] ++ sent_under name acts
      by true same rest = ap (λ (d : Bool). cond d (value ∷ []) [] ++ given_to (ports name) (map (step_of ports) acts)) (ap (λ (n : ℕ). is_same_dir (ports other) (ports n)) (eqb-true name other same) ∙ is_same_dir_self (ports other)) ∙ ap (λ (l : List ℤ). value ∷ l) rest
      by false apart rest = ap (λ (d : Bool). cond d (value ∷ []) [] ++ given_to (ports name) (map (step_of ports) acts)) (other_dir (ports other) (ports name) (λ port. true≢false (sym (eq-eqb name other (sym (distinct other name named.0 written port))) ∙ apart))) ∙ rest

  -- nothing is done at a port that no name has
  none_taken : (dir : Dir) (acts : List Act) → AreNamed names acts → ((name : ℕ) → names.Read name → ports name ≢ dir) → taken_from dir (map (step_of ports) acts) ≡ []
  none_taken dir [] named apart = refl
  none_taken dir (Alone ∷ acts) named apart = none_taken dir acts named.1 apart
  none_taken dir (Sends other value ∷ acts) named apart = none_taken dir acts named.1 apart
  none_taken dir (Reads other value ∷ acts) named apart = ap (λ (d : Bool). cond d (value ∷ []) [] ++ taken_from dir (map (step_of ports) acts)) (other_dir (ports other) dir (apart other named.0)) ∙ none_taken dir acts named.1 apart

  none_given : (dir : Dir) (acts : List Act) → AreNamed names acts → ((name : ℕ) → names.Written name → ports name ≢ dir) → given_to dir (map (step_of ports) acts) ≡ []
  none_given dir [] named apart = refl
  none_given dir (Alone ∷ acts) named apart = none_given dir acts named.1 apart
  none_given dir (Reads other value ∷ acts) named apart = none_given dir acts named.1 apart
  none_given dir (Sends other value ∷ acts) named apart = ap (λ (d : Bool). cond d (value ∷ []) [] ++ given_to dir (map (step_of ports) acts)) (other_dir (ports other) dir (apart other named.0)) ∙ none_given dir acts named.1 apart

  local_is : (acts : List Act) → local_count (map (step_of ports) acts) ≡ alone_count acts
  local_is [] = refl
  local_is (Alone ∷ acts) = ap (λ (n : ℕ). 1 + n) (local_is acts)
  local_is (Reads name value ∷ acts) = ap (λ (n : ℕ). 0 + n) (local_is acts)
  local_is (Sends name value ∷ acts) = ap (λ (n : ℕ). 0 + n) (local_is acts)

named_front : (names : Names) (acts others : List Act) → AreNamed names (acts ++ others) → AreNamed names acts × AreNamed names others
named_front names [] others named = (tt, named)
named_front names (act ∷ acts) others named = let both = named_front names acts others named.1 in ((named.0, both.0), both.1)

-- ---- the process and its node

more_than : {X : Type 0} (xs : List X) (x : X) (ys : List X) → xs ≡ xs ++ x ∷ ys → ⊥
more_than {X = X} xs x ys same = omega (arith, length-append xs (x ∷ ys), ap (λ (l : List X). length l) same)

module _ (program : List MarkedInstr) (body : Block ℕ) (ports : Ports) (distinct : AreDistinct ports body) (holds : HoldsAt program ports 0 (block_code ports (length program) body 0)) (all : block_lines body ≡ length program) where
  begins_here : node_at program ports 0 (pos 0) (pos 0) ≡ fresh
  begins_here = by (0 == length program)
    where
      by : (b : Bool) → ready_at (cond b 0 0) (pos 0) (pos 0) ≡ fresh
      by true = refl
      by false = refl

  -- a process that comes to wait is followed to where it does
  waits_there : (streams : Streams) (fuel name : ℕ) → (process_run body streams fuel).outcome ≡ WaitsOn name → RanToWait program ports (names_of body) fresh (beginning streams fuel) (process_run body streams fuel).state name
  waits_there streams fuel name waits =
      let follows = rounds_do program ports (names_of body) body (each_is [] (reads_in body)) (each_is [] (writes_in body)) holds all fuel (beginning streams fuel) in
      subst (λ (node : Node). RanToWait program ports (names_of body) node (beginning streams fuel) (process_run body streams fuel).state name) begins_here
      (subst (λ (outcome : Outcome). FollowsTo program ports (names_of body) (node_at program ports 0 (pos 0) (pos 0)) 0 (beginning streams fuel) outcome (process_run body streams fuel).state) waits follows)

  -- so its program has an instruction
  pub has_instr : (streams : Streams) (fuel name : ℕ) → (process_run body streams fuel).outcome ≡ WaitsOn name → 0 < length program
  has_instr streams fuel name waits =
      let ran = waits_there streams fuel name waits in
      by ran.end.pc (slice_get program ran.end.pc) refl ran.awaits.instr ran.awaits.found
    where
      by : (pc : ℕ) (at : Option MarkedInstr) → slice_get program pc ≡ at → (i : Instr) → option_map (λ (marked : MarkedInstr). marked.instr) (slice_get program pc) ≡ Some i → 0 < length program
      by pc None is i found = absurd (none (sym (ap (option_map (λ (marked : MarkedInstr). marked.instr)) is) ∙ found))
        where
          none : None ≡ Some i → ⊥
          none is = absurd cc
      by pc (Some marked) is i found = let within = slice_get_within program pc marked is in omega (arith, within)

  module _ (steps : List Step) (run : IsPortRun program fresh steps) (fuel name : ℕ) (waits : (process_run body (taken_under ports body steps) fuel).outcome ≡ WaitsOn name) where
    abbrev process : Execution
    process = process_run body (taken_under ports body steps) fuel

    ran : RanToWait program ports (names_of body) fresh (beginning (taken_under ports body steps) fuel) process.state name
    ran = waits_there (taken_under ports body steps) fuel name waits

    under_is : (other : ℕ) → IsTrue (reads body other) → taken_under ports body steps other ≡ taken_from (ports other) steps
    under_is other read = ap (λ (b : Bool). cond b (taken_from (ports other) steps) []) read

    agreement : Agrees program ports (names_of body) distinct.reading fresh steps ran.ran.acts ran.end
    agreement = agrees program ports (names_of body) distinct.reading name steps ran.ran.acts fresh ran.end process.state.unread run ran.ran.run ran.ran.named ran.awaits ran.read ran.empty (λ other read. sym (under_is other read) ∙ ran.ran.unread other)

    fronts : AreNamed (names_of body) agreement.done × AreNamed (names_of body) agreement.rest
    fronts = named_front (names_of body) agreement.done agreement.rest (subst (AreNamed (names_of body)) agreement.all ran.ran.named)

    -- what was sent is what was given, and what is given later
    sent_is : (written : ℕ) → IsTrue (writes body written) → process.state.sent written ≡ given_to (ports written) steps ++ sent_under written agreement.rest
    sent_is written is =
        ran.ran.sent written ∙ ap (sent_under written) agreement.all ∙ sent_both written agreement.done agreement.rest
        ∙ ap (λ (l : List ℤ). l ++ sent_under written agreement.rest) (sym (ap (given_to (ports written)) agreement.same ∙ given_is ports (names_of body) distinct.writing written agreement.done is fronts.0))

    -- nothing more is read than was taken
    no_reads : (other : ℕ) (value : ℤ) (acts : List Act) → agreement.rest ≡ Reads other value ∷ acts → IsTrue (reads body other) → ⊥
    no_reads other value acts is read =
        more_than (read_under other agreement.done) value (read_under other acts ++ process.state.unread other)
        (sym (ap (taken_from (ports other)) agreement.same ∙ taken_is ports (names_of body) distinct.reading other agreement.done read fronts.0)
        ∙ sym (under_is other read) ∙ ran.ran.unread other
        ∙ ap (λ (l : List Act). read_under other l ++ process.state.unread other) (agreement.all ∙ ap (λ (l : List Act). agreement.done ++ l) is)
        ∙ ap (λ (l : List ℤ). l ++ process.state.unread other) (read_both other agreement.done (Reads other value ∷ acts))
        ∙ append_assoc (read_under other agreement.done) (read_under other (Reads other value ∷ acts)) (process.state.unread other)
        ∙ ap (λ (b : Bool). read_under other agreement.done ++ ((cond b (value ∷ []) [] ++ read_under other acts) ++ process.state.unread other)) (eq-eqb other other refl))

    abbrev node : Node
    node = after_steps program fresh steps

    waits_for : (dir : Dir) → IsTrue (wants program node dir) → (other : ℕ) × (ports other ≡ dir) × IsTrue (reads body other) × (process.outcome ≡ WaitsOn other) × ((written : ℕ) → IsTrue (writes body written) → given_to (ports written) steps ≡ process.state.sent written)
    waits_for dir wanted = by agreement.rest refl agreement.more fronts.1
      where
        by : (rest : List Act) → agreement.rest ≡ rest → Run program ports node rest ran.end → AreNamed (names_of body) rest → (other : ℕ) × (ports other ≡ dir) × IsTrue (reads body other) × (process.outcome ≡ WaitsOn other) × ((written : ℕ) → IsTrue (writes body written) → given_to (ports written) steps ≡ process.state.sent written)
        by [] is here named = (
          name,
          same_dir (ports name) dir (sym (awaits_wants program node (ports name) dir (subst (λ (n : Node). Awaits program n (ports name)) (sym here) ran.awaits)) ∙ wanted),
          ran.read,
          waits,
          λ written written_is. sym (sent_is written written_is ∙ ap (λ (l : List Act). given_to (ports written) steps ++ sent_under written l) is ∙ append-nil (given_to (ports written) steps)),
        )
        by (Alone ∷ acts) is more named = absurd (local_wants program node dir more.0 wanted)
        by (Reads other value ∷ acts) is more named = absurd (no_reads other value acts is named.0)
        by (Sends other value ∷ acts) is more named = absurd (true≢false (sym wanted ∙ writing_wants program node value (ports other) dir more.0))

    gives_next : (dir : Dir) (value : ℤ) → offers node dir ≡ Some value → (other : ℕ) × (ports other ≡ dir) × IsTrue (writes body other) × IsPrefixOf (given_to dir steps ++ value ∷ []) (process.state.sent other)
    gives_next dir value offered = by agreement.rest refl agreement.more fronts.1
      where
        empty : None ≡ Some value → ⊥
        empty is = absurd cc

        by : (rest : List Act) → agreement.rest ≡ rest → Run program ports node rest ran.end → AreNamed (names_of body) rest → (other : ℕ) × (ports other ≡ dir) × IsTrue (writes body other) × IsPrefixOf (given_to dir steps ++ value ∷ []) (process.state.sent other)
        by [] is here named = absurd (empty (sym (awaits_offers program node (ports name) dir (subst (λ (n : Node). Awaits program n (ports name)) (sym here) ran.awaits)) ∙ offered))
        by (Alone ∷ acts) is more named = absurd (local_offers program node dir value more.0 offered)
        by (Reads other read ∷ acts) is more named = absurd (empty (sym (awaits_offers program node (ports other) dir more.0) ∙ offered))
        by (Sends other sent ∷ acts) is more named =
            let gives = gave_value (is_same_dir (ports other) dir) sent value (sym (writing_offers program node sent (ports other) dir more.0) ∙ offered) in
            let port = same_dir (ports other) dir gives.0 in (
              other,
              port,
              named.0,
              (
                sent_under other acts,
                append_assoc (given_to dir steps) (value ∷ []) (sent_under other acts)
                    ∙ ap (λ (d : Dir). given_to d steps ++ value ∷ sent_under other acts) (sym port)
                    ∙ ap (λ (v : ℤ). given_to (ports other) steps ++ v ∷ sent_under other acts) (sym gives.1)
                    ∙ ap (λ (b : Bool). given_to (ports other) steps ++ (cond b (sent ∷ []) [] ++ sent_under other acts)) (sym (eq-eqb other other refl))
                    ∙ ap (λ (l : List Act). given_to (ports other) steps ++ sent_under other l) (sym is)
                    ∙ sym (sent_is other named.0),
              ),
            )

    pub behaves_after : BehavesAfter program body ports process steps node
    behaves_after = record {
      takes = λ dir apart. ap (taken_from dir) agreement.same ∙ none_taken ports (names_of body) dir agreement.done fronts.0 apart;
      gives = λ dir apart. ap (given_to dir) agreement.same ∙ none_given ports (names_of body) dir agreement.done fronts.0 apart;
      prefix = λ written is. (sent_under written agreement.rest, sym (sent_is written is));
      waits = waits_for;
      next = gives_next;
      local = omega (arith, ran.ran.local, ap (λ (l : List Step). local_count l) agreement.same, local_is ports (names_of body) agreement.done, ap (λ (l : List Act). alone_count l) agreement.all, alone_both agreement.done agreement.rest);
      within_fuel = λ out. never (sym waits ∙ out);
    }
      where
        never : WaitsOn name ≡ OutOfFuel → ⊥
        never is = absurd cc

-- the code of a process that comes to wait, over whatever it reads, behaves as the process
pub process_behaves : (body : Block ℕ) (ports : Ports) → AreDistinct ports body → ((streams : Streams) → ((name : ℕ) → All IsValue (streams name)) → (enough : ℕ) × ((fuel : ℕ) → enough ≤ fuel → (name : ℕ) × ((process_run body streams fuel).outcome ≡ WaitsOn name))) → Behaves (program_of ports body) body ports
process_behaves body ports distinct comes_to_wait = record {
  some = let first = comes_to_wait (λ name. []) (λ name. All-nil IsValue) in let waits = first.1 first.0 (omega arith) in has_instr (program_of ports body) body ports distinct holds all (λ name. []) first.0 waits.0 waits.1;
  after = λ steps run.
      let first = comes_to_wait (taken_under ports body steps) (under_values (program_of ports body) ports body steps run) in
      (first.0, λ fuel enough. let waits = first.1 fuel enough in behaves_after (program_of ports body) body ports distinct holds all steps run fuel waits.0 waits.1);
}
  where
    all : block_lines body ≡ length (program_of ports body)
    all = sym (length-map (code_of ports body) unmarked ∙ lines_are_told ports body)

    holds : HoldsAt (program_of ports body) ports 0 (block_code ports (length (program_of ports body)) body 0)
    holds = subst (λ (n : ℕ). HoldsAt (program_of ports body) ports 0 (block_code ports n body 0)) all (code_stands (program_of ports body) ports [] (code_of ports body) refl)
