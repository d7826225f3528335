-- Processes one after the other, each over whole streams.
use Rattle.std.proofs.Common.{◌≡◌, ℕ, zero, suc, ◌+◌, ◌<◌, ◌≤◌, true, false, cond, ℤ, pos, List, [], ◌∷◌, ◌++◌, map, length, take, drop, refl, sym, ap, subst, ◌∙◌, arith, ne_eqb, inl, inr}
use Rattle.std.specs.Prelude.{Option, Some, None, slice_get, slice_index_or, All, Err, ◌==◌, unwrap_or, nat_lt}
use Rattle.std.specs.Str.{bytes_eq}
use Rattle.std.proofs.Math.Path.{fun_ext}
use Rattle.std.proofs.lemmas.Bool.{ltb-true}
use Rattle.std.proofs.lemmas.List.{length-map, length-append, take-append-drop, append-nil, append_assoc}
use Rattle.std.specs.List.{position_or_len}
use Rattle.std.proofs.lemmas.List.Elements.{All-append}
use Rattle.std.proofs.lemmas.Option.{same_Some}
use Rattle.tis_base.specs.Saturation.{IsValue}
use Rattle.net_tree.specs.Tree.{Name, Statement, Get, GetAdd, GetSub, Put, PutNumber, Move, Set, Add, Sub, Neg, Double, Copy, Swap, If, While, Count, Block, Empty, Then, PortLine, ChannelLine, ProcessText, Net}
use Rattle.net_rules.specs.Uses.{surely_reads}
use Rattle.net_rules.specs.Numbers.{NumberedNet, block_with, statement_with, all_names, number_in, numbered, readable_count}
use Rattle.net_rules.specs.Process.{Streams, ProcessState, WaitsOn, OutOfFuel, Execution, beginning, rounds, process_run}
use Rattle.net_rules.specs.Kahn.{with_sent, streams_from, run_of, step_limit}
use Rattle.net_rules.specs.Laws.{Waits, NetHasValues}
use Rattle.net_rules.specs.Sure.{IsSureBlock, IsSure}
use Rattle.net_rules.specs.Rules.{IsAccepted}
use Rattle.net_rules.proofs.SureBodies.{IsIn}
use Rattle.net_rules.proofs.Numbering as Numbering
use Rattle.net_rules.proofs.CheckedNets.{names_counted}
use Rattle.net_kahn.specs.declared.link.Link.{Link}
use Rattle.net_kahn.specs.declared.machine.Machine.{Machine}
use Rattle.net_kahn.specs.declared.machine.Stop.TheVariants as stops
use Rattle.net_kahn.specs.Links.{given_of, list_of, unread_in, sent_in, before_in, IsLink}
use Rattle.net_kahn.specs.Machines.{of_link, by_number, AreLinks, state_of, IsReady, HasFuel, Did}
use Rattle.net_kahn.specs.Written.{WritesBelow, StatementWritesBelow}
use Rattle.net_kahn.specs.Found.{name_count}
use Rattle.net_kahn.proofs.Leaves.{same_state}
use Rattle.net_kahn.proofs.LinkReads.{next_of}
use Rattle.net_kahn.proofs.Finishing.{streams_values}

-- ---- links that a process hasn't used

not_used : (index : ℕ) (link : Link) → IsLink index link → (link.user == suc index) ≡ false
not_used index link is = ne_eqb link.user (suc index) (λ e. omega (arith, e, is.user))

module _ (index : ℕ) (links : List Link) (are : AreLinks index links) where
  unused : (one other : Link → List ℤ) → ((link : Link) → IsLink index link → one link ≡ other link) → by_number one links ≡ by_number other links
  unused one other same =
      fun_ext (λ name.
      elim (slice_get links name) as (λ (o : Option Link). slice_get links name ≡ o → of_link one o ≡ of_link other o) [
        | None ↦ λ none. refl
        | Some link ↦ λ here. same link (are name link here)
      ] refl)

  pub all_unread : by_number (unread_in (suc index)) links ≡ by_number list_of links
  all_unread = unused (unread_in (suc index)) list_of (λ link is. ap (λ b. cond b (drop link.taken (given_of link) ++ drop link.next (take link.limit link.sent.items)) (list_of link)) (not_used index link is))

  nothing : (name : ℕ) → by_number (λ link. []) links name ≡ []
  nothing name = elim (slice_get links name) as (λ (o : Option Link). of_link (λ link. []) o ≡ []) [ None ↦ refl | Some link ↦ refl ]

  pub none_sent : by_number (sent_in (suc index)) links ≡ (λ name. [])
  none_sent = unused (sent_in (suc index)) (λ link. []) (λ link is. ap (λ b. cond b (drop link.limit link.sent.items) []) (not_used index link is)) ∙ fun_ext nothing

  pub all_before : by_number (before_in (suc index)) links ≡ by_number list_of links
  all_before = unused (before_in (suc index)) list_of (λ link is. ap (λ b. cond b (given_of link ++ take link.limit link.sent.items) (list_of link)) (not_used index link is))

  pub later : AreLinks (suc index) links
  later name link here = let is = are name link here in record { user = omega (arith, is.user); within = is.within; given = is.given; sent = is.sent }

  pub are_values : (name : ℕ) → All IsValue (by_number list_of links name)
  are_values name = streams_values list_of index links (λ link is. All-append IsValue (given_of link) link.sent.items is.given is.sent) are name

-- what stood on a link before, and then what was sent
pub list_parts : (process : ℕ) (link : Link) → list_of link ≡ before_in process link ++ sent_in process link
list_parts process link =
    elim (link.user == process) as (λ b. list_of link ≡ cond b (given_of link ++ take link.limit link.sent.items) (list_of link) ++ cond b (drop link.limit link.sent.items) []) [
      | true ↦ ap (λ l. given_of link ++ l) (sym (take-append-drop link.limit link.sent.items)) ∙ sym (append_assoc (given_of link) (take link.limit link.sent.items) (drop link.limit link.sent.items))
      | false ↦ sym (append-nil (list_of link))
    ]

pub all_parts : (process : ℕ) (links : List Link) → by_number list_of links ≡ with_sent (by_number (before_in process) links) (by_number (sent_in process) links)
all_parts process links =
    fun_ext (λ name.
    elim (slice_get links name) as (λ (o : Option Link). of_link list_of o ≡ of_link (before_in process) o ++ of_link (sent_in process) o) [
      | None ↦ refl
      | Some link ↦ list_parts process link
    ])

-- ---- one process

has_fuel : (execution : Execution) → Waits execution → HasFuel execution
has_fuel execution waits out = never waits.0 (sym out ∙ waits.1)
  where
    never : (name : ℕ) → OutOfFuel ≡ WaitsOn name → ⊥
    never name e = cc

-- a process that came to wait sent what the definition says
pub process_sent : (index : ℕ) (body : Block ℕ) (old new : Machine) → old.process ≡ suc index → old.x ≡ pos 0 → old.y ≡ pos 0 → AreLinks index old.links.items → Did (rounds body) old (Err stops.Waits) new →
    (fuel : ℕ) → Waits (process_run body (by_number list_of old.links.items) fuel) → by_number list_of new.links.items ≡ with_sent (by_number list_of old.links.items) (process_run body (by_number list_of old.links.items) fuel).state.sent
process_sent index body old new process x y are did fuel waits =
    let links = old.links.items in
    let streams : Streams = by_number list_of links in
    let begins : state_of old 0 fuel ≡ beginning streams fuel =
    same_state old.x (pos 0) old.y (pos 0) _ streams _ (λ name. []) 0 fuel x y
    (ap (λ p. by_number (unread_in p) links) process ∙ all_unread index links are)
    (ap (λ p. by_number (sent_in p) links) process ∙ none_sent index links are) in
    let run : rounds body (state_of old 0 fuel) ≡ process_run body streams fuel = ap (rounds body) begins in
    let came = did.comes 0 fuel (has_fuel (rounds body (state_of old 0 fuel)) (subst Waits (sym run) waits)) in
    let sent : (process_run body streams fuel).state.sent ≡ by_number (sent_in (suc index)) new.links.items =
    sym (ap (λ (e : Execution). e.state.sent) run) ∙ ap (λ (s : ProcessState). s.sent) came.1 ∙ ap (λ p. by_number (sent_in p) new.links.items) (did.kept.process ∙ process) in
    let before : by_number (before_in (suc index)) new.links.items ≡ streams =
    subst (λ p. by_number (before_in p) new.links.items ≡ by_number (before_in p) links) process did.kept.links.before ∙ all_before index links are in
    all_parts (suc index) new.links.items ∙ ap (λ b. with_sent b (by_number (sent_in (suc index)) new.links.items)) before ∙ ap (with_sent streams) (sym sent)

-- ---- the bodies of a network that was checked

in_list : {X : Type 0} (xs : List X) (index : ℕ) (x : X) → slice_get xs index ≡ Some x → IsIn x xs
in_list [] zero x is = absurd cc
in_list [] (suc index) x is = absurd cc
in_list (first ∷ xs) zero x is = inl (same_Some first x is)
in_list (first ∷ xs) (suc index) x is = inr (in_list xs index x is)

contained : {X : Type 0} (xs : List X) (index : ℕ) (x : X) → slice_get xs index ≡ Some x → (index < length xs) × (slice_index_or xs index x ≡ x)
contained [] zero x is = absurd cc
contained [] (suc index) x is = absurd cc
contained (first ∷ xs) zero x is = (omega arith, same_Some first x is)
contained (first ∷ xs) (suc index) x is = let rest = contained xs index x is in (omega (arith, rest.0), rest.1)

mutual
  writes_with : (f : Name → ℕ) (count : ℕ) → ((name : Name) → f name < count) → (block : Block Name) → WritesBelow count (block_with f block)
  writes_with f count below Empty = tt
  writes_with f count below (Then line statement rest) = (statement_writes_with f count below statement, writes_with f count below rest)

  statement_writes_with : (f : Name → ℕ) (count : ℕ) → ((name : Name) → f name < count) → (statement : Statement Name) → StatementWritesBelow count (statement_with f statement)
  statement_writes_with f count below (Get read var) = tt
  statement_writes_with f count below (GetAdd read var) = tt
  statement_writes_with f count below (GetSub read var) = tt
  statement_writes_with f count below (Put written var) = below written
  statement_writes_with f count below (PutNumber written number) = below written
  statement_writes_with f count below (Move read written) = below written
  statement_writes_with f count below (Set var number) = tt
  statement_writes_with f count below (Add var number) = tt
  statement_writes_with f count below (Sub var number) = tt
  statement_writes_with f count below (Neg var) = tt
  statement_writes_with f count below (Double var) = tt
  statement_writes_with f count below (Copy to from) = tt
  statement_writes_with f count below Swap = tt
  statement_writes_with f count below (If var test first second) = (writes_with f count below first, writes_with f count below second)
  statement_writes_with f count below (While var test body) = writes_with f count below body
  statement_writes_with f count below (Count var body) = writes_with f count below body

mutual
  sure_more : (less more : ℕ) → less ≤ more → (block : Block ℕ) → IsSureBlock (λ name. name < less) block → IsSureBlock (λ name. name < more) block
  sure_more less more within Empty sure = tt
  sure_more less more within (Then line statement rest) sure = (statement_more less more within statement sure.0, sure_more less more within rest sure.1)

  statement_more : (less more : ℕ) → less ≤ more → (statement : Statement ℕ) → IsSure (λ name. name < less) statement → IsSure (λ name. name < more) statement
  statement_more less more within (Get read var) sure = omega (arith, within, sure)
  statement_more less more within (GetAdd read var) sure = omega (arith, within, sure)
  statement_more less more within (GetSub read var) sure = omega (arith, within, sure)
  statement_more less more within (Move read written) sure = omega (arith, within, sure)
  statement_more less more within (Put written var) sure = tt
  statement_more less more within (PutNumber written number) sure = sure
  statement_more less more within (Set var number) sure = sure
  statement_more less more within (Add var number) sure = sure
  statement_more less more within (Sub var number) sure = sure
  statement_more less more within (Neg var) sure = tt
  statement_more less more within (Double var) sure = tt
  statement_more less more within (Copy to from) sure = tt
  statement_more less more within Swap sure = tt
  statement_more less more within (If var test first second) sure = (sure_more less more within first sure.0, sure_more less more within second sure.1)
  statement_more less more within (While var test body) sure = (sure.0, sure_more less more within body sure.1)
  statement_more less more within (Count var body) sure = (sure.0, sure_more less more within body sure.1)

-- ---- numbers

numbers_counted : (net : Net) → length (all_names net) ≡ name_count (numbered net)
numbers_counted net = omega (arith, names_counted net, length-map net.inputs (λ (input : PortLine). input.position), length-map net.outputs (λ (output : PortLine). output.position))

number_below : (net : Net) (name : Name) → number_in net name < name_count (numbered net) + 1
number_below net name =
    let k = position_or_len (bytes_eq name) (all_names net) in
    let n = length (all_names net) in
    let counted = numbers_counted net in
    elim (nat_lt k n) as (λ b. nat_lt k n ≡ b → unwrap_or (cond b (Some k) None) n < name_count (numbered net) + 1) [
      | true ↦ λ e. let less = ltb-true k n e in omega (arith, less, counted)
      | false ↦ λ e. omega (arith, counted)
    ] refl

-- ---- a process of a network

-- what is known of a body
pub record IsKnown (count : ℕ) (body : Block ℕ) : Type 0 where
  pub reads : surely_reads body ≡ true
  pub sure : IsSureBlock (λ name. name < count) body
  pub written : WritesBelow count body

module _ (net : Net) (accepted : IsAccepted net) (values : NetHasValues net) where
  known : (body : Block ℕ) → IsIn body (numbered net).processes → IsKnown (name_count (numbered net) + 1) body
  known body is =
      let found = Numbering.of_map (λ (process : ProcessText). block_with (number_in net) process.body) body net.processes is in
      let sure = Numbering.numbered_sure net found.0 accepted found.1 (Numbering.values_of net.processes values found.0 found.1) in
      let count : ℕ = name_count (numbered net) + 1 in
      subst (λ (b : Block ℕ). IsKnown count b) found.2
      (record {
        reads = sure.0;
        sure = sure_more (readable_count (numbered net)) count (omega arith) (block_with (number_in net) found.0.body) sure.1;
        written = writes_with (number_in net) count (number_below net) found.0.body;
      })

  pub body_known : (index : ℕ) (body : Block ℕ) (count : ℕ) → slice_get (numbered net).processes index ≡ Some body → count ≡ name_count (numbered net) + 1 → IsKnown count body
  body_known index body count is same = subst (λ n. IsKnown n body) (sym same) (known body (in_list (numbered net).processes index body is))

  -- over any streams of values it comes to wait
  process_waits : (index : ℕ) (body : Block ℕ) → slice_get (numbered net).processes index ≡ Some body → (streams : Streams) → ((name : ℕ) → All IsValue (streams name)) → Waits (run_of (numbered net) streams body)
  process_waits index body is streams all =
      let at = contained (numbered net).processes index body is in
      Numbering.processes_wait net streams body (step_limit (numbered net) streams body + 1) accepted values all (index, at.0, at.1) (omega arith)

  -- a process that ran over the streams before it
  pub process_done : (index : ℕ) (body : Block ℕ) (old new : Machine) → slice_get (numbered net).processes index ≡ Some body → old.process ≡ suc index → old.x ≡ pos 0 → old.y ≡ pos 0 → AreLinks index old.links.items → Did (rounds body) old (Err stops.Waits) new →
      by_number list_of new.links.items ≡ with_sent (by_number list_of old.links.items) (run_of (numbered net) (by_number list_of old.links.items) body).state.sent
  process_done index body old new is process x y are did =
      let streams : Streams = by_number list_of old.links.items in
      process_sent index body old new process x y are did (step_limit (numbered net) streams body + 1) (process_waits index body is streams (are_values index old.links.items are))

-- ---- all processes

-- those with smaller numbers have run
pub record HasRunTo (net : NumberedNet) (start : List Link) (index : ℕ) (all : List Link) : Type 0 where
  pub links : AreLinks index all
  pub count : length all ≡ length start
  pub lists : streams_from net (drop index net.processes) (by_number list_of all) ≡ streams_from net net.processes (by_number list_of start)
  pub given : by_number given_of all ≡ by_number given_of start

pub one_ran : (net : Net) → IsAccepted net → NetHasValues net → (start : List Link) (index : ℕ) (body : Block ℕ) (old new : Machine) → slice_get (numbered net).processes index ≡ Some body → old.process ≡ suc index → old.x ≡ pos 0 → old.y ≡ pos 0 →
    HasRunTo (numbered net) start index old.links.items → Did (rounds body) old (Err stops.Waits) new → HasRunTo (numbered net) start (index + 1) new.links.items
one_ran net accepted values start index body old new is process x y before did =
    let links = did.kept.links in
    record {
      links = subst (λ p. AreLinks p new.links.items) (process ∙ one_later index) links.links;
      count = links.count ∙ before.count;
      lists =
          ap (streams_from (numbered net) (drop (index + 1) (numbered net).processes)) (process_done net accepted values index body old new is process x y before.links did)
          ∙ ap (λ (bodies : List (Block ℕ)). streams_from (numbered net) bodies (by_number list_of old.links.items)) (sym (next_of (numbered net).processes index body is))
          ∙ before.lists;
      given = links.given ∙ before.given;
    }
  where
    one_later : (n : ℕ) → suc n ≡ n + 1
    one_later n = omega arith

-- a process that begins
pub ready_to_start : (index : ℕ) (machine : Machine) → machine.process ≡ index + 1 → machine.x ≡ pos 0 → machine.y ≡ pos 0 → AreLinks index machine.links.items → IsReady machine
ready_to_start index machine process x y are =
    record {
      links = subst (λ p. AreLinks p machine.links.items) (later_is index ∙ sym process) (later index machine.links.items are);
      x = subst IsValue (sym x) (omega arith, omega arith);
      y = subst IsValue (sym y) (omega arith, omega arith);
    }
  where
    later_is : (n : ℕ) → suc n ≡ n + 1
    later_is n = omega arith
