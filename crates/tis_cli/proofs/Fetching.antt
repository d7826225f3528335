-- What was fetched for a command, and what it comes to.
use Rattle.std.proofs.Common.{◌≡◌, ℕ, List, [], ◌∷◌, Option, Some, Result, Ok, Err, refl, sym, ap, subst, ◌∙◌}
use Rattle.std.specs.Prelude.{IfSome}
use Rattle.tis_base.specs.Outside.{Texts, text_at}
use Rattle.tis_cli.specs.declared.status.Status.{Status}
use Rattle.tis_cli.specs.declared.status.Status.TheVariants.{Done, NotPassed, Words, Refused, Missing, StoreFault, SinkFault, NoMemory, Limit}
use Rattle.tis_cli.specs.declared.runs.Run.{Run}
use Rattle.tis_cli.specs.Answers.{Answer, Refuses, Makes}
use Rattle.tis_cli.specs.Commands.{Command, Network, Run as ByClock, Order, Replay, Grade, fetched, ComesTo, Debug}
use Rattle.tis_grid.specs.Puzzle.{Puzzle}
use Rattle.tis_spec.specs.Specification.{Refusal as SpecRefusal, Specifies}
use Rattle.tis_spec.proofs.Given.{each_gives}
use Rattle.tis_cli.specs.Nets.{net_answer}
use Rattle.tis_cli.specs.Runs.{run_answer, order_answer, replay_answer, grade_answer, debug_answer}
use Rattle.tis_cli.specs.Ends.{Ends}
use Rattle.tis_cli.specs.Outcomes.{texts_under, with_first, AreFetched, Runs}
use Rattle.tis_cli.proofs.Explained.{told_is}

-- texts that come to the answer of a run
comes_to_run : (command : Command) (told : Option Texts) (found : List (List ℕ)) (answer : Answer) (result : Result Run Status) → AreFetched command told found → ((other : Answer) → other ≡ answer → ComesTo command found other) → Ends result answer → Runs command told result
comes_to_run command told found answer (Ok run) are comes ends =
    record { found = found; completion = ends.0; are = are; comes = comes (Makes ends.0 run.report.items) (sym ends.1); status_is = ends.2 }
comes_to_run command told found answer (Err (Refused refusal)) are comes ends = record { found = found; are = are; comes = comes (Refuses refusal) (sym ends) }
comes_to_run command told found answer (Err NoMemory) are comes ends = tt
comes_to_run command told found answer (Err Missing) are comes ends = absurd ends
comes_to_run command told found answer (Err StoreFault) are comes ends = absurd ends
comes_to_run command told found answer (Err Done) are comes ends = ends
comes_to_run command told found answer (Err (NotPassed seed verdict)) are comes ends = ends
comes_to_run command told found answer (Err Words) are comes ends = ends
comes_to_run command told found answer (Err SinkFault) are comes ends = ends
comes_to_run command told found answer (Err (Limit done)) are comes ends = ends

-- a text that is there, before others that are
one_more : (texts : Texts) (name text : List ℕ) (names found : List (List ℕ)) → text_at texts name ≡ Some text → texts_under texts names ≡ Some found → texts_under texts (name ∷ names) ≡ Some (text ∷ found)
one_more texts name text names found here behind = ap (λ (o : Option (List ℕ)). with_first o (texts_under texts names)) here ∙ ap (with_first (Some text)) behind

told_under : (told now : Option Texts) (name text : List ℕ) → now ≡ told → IfSome now (λ texts. text_at texts name ≡ Some text) → (texts : Texts) → told ≡ Some texts → text_at texts name ≡ Some text
told_under told now name text same fetched texts is = told_is now (λ (t : Texts). text_at t name ≡ Some text) fetched texts (same ∙ is)

-- two texts that were fetched
pub clock_runs : (told second : Option Texts) (save spec saved read saved_seen read_seen : List ℕ) (seed cycles : ℕ) (result : Result Run Status) → second ≡ told → IfSome told (λ texts. text_at texts save ≡ Some saved) → IfSome second (λ texts. text_at texts spec ≡ Some read) → saved_seen ≡ saved → read_seen ≡ read →
    ((given : Result Puzzle SpecRefusal) → Specifies read_seen seed given → Ends result (run_answer saved_seen given cycles)) → Runs (ByClock save spec seed cycles) told result
clock_runs told second save spec saved read saved_seen read_seen seed cycles result stay first next saved_is read_is ends =
    let gives = each_gives read seed in
    comes_to_run (ByClock save spec seed cycles) told (saved ∷ read ∷ []) (run_answer saved gives.0 cycles) result
    (λ texts is. one_more texts save saved (spec ∷ []) (read ∷ []) (told_under told told save saved refl first texts is) (one_more texts spec read [] [] (told_under told second spec read stay next texts is) refl))
    (λ other same. (gives.0, gives.1, same))
    (subst (λ (b : List ℕ). Ends result (run_answer b gives.0 cycles)) saved_is (ends gives.0 (subst (λ (b : List ℕ). Specifies b seed gives.0) (sym read_is) gives.1)))

pub net_runs : (told second : Option Texts) (net grid read given : List ℕ) (read_seen given_seen : List ℕ) (result : Result Run Status) → second ≡ told → IfSome told (λ texts. text_at texts net ≡ Some read) → IfSome second (λ texts. text_at texts grid ≡ Some given) → read_seen ≡ read → given_seen ≡ given → Ends result (net_answer read_seen given_seen) → Runs (Network net grid) told result
net_runs told second net grid read given read_seen given_seen result stay first next read_is given_is ends =
    comes_to_run (Network net grid) told (read ∷ given ∷ []) (net_answer read_seen given_seen) result
    (λ texts is. one_more texts net read (grid ∷ []) (given ∷ []) (told_under told told net read refl first texts is) (one_more texts grid given [] [] (told_under told second grid given stay next texts is) refl))
    (λ other same. same ∙ ap (λ (b : List ℕ). net_answer b given_seen) read_is ∙ ap (λ (b : List ℕ). net_answer read b) given_is)
    ends

pub order_runs : (told second : Option Texts) (save spec saved read saved_seen read_seen : List ℕ) (seed order_seed limit : ℕ) (result : Result Run Status) → second ≡ told → IfSome told (λ texts. text_at texts save ≡ Some saved) → IfSome second (λ texts. text_at texts spec ≡ Some read) → saved_seen ≡ saved → read_seen ≡ read →
    ((given : Result Puzzle SpecRefusal) → Specifies read_seen seed given → Ends result (order_answer saved_seen given order_seed limit)) → Runs (Order save spec seed order_seed limit) told result
order_runs told second save spec saved read saved_seen read_seen seed order_seed limit result stay first next saved_is read_is ends =
    let gives = each_gives read seed in
    comes_to_run (Order save spec seed order_seed limit) told (saved ∷ read ∷ []) (order_answer saved gives.0 order_seed limit) result
    (λ texts is. one_more texts save saved (spec ∷ []) (read ∷ []) (told_under told told save saved refl first texts is) (one_more texts spec read [] [] (told_under told second spec read stay next texts is) refl))
    (λ other same. (gives.0, gives.1, same))
    (subst (λ (b : List ℕ). Ends result (order_answer b gives.0 order_seed limit)) saved_is (ends gives.0 (subst (λ (b : List ℕ). Specifies b seed gives.0) (sym read_is) gives.1)))

pub grade_runs : (told second : Option Texts) (save spec saved read saved_seen read_seen : List ℕ) (limit : ℕ) (seeds : List ℕ) (result : Result Run Status) → second ≡ told → IfSome told (λ texts. text_at texts save ≡ Some saved) → IfSome second (λ texts. text_at texts spec ≡ Some read) → saved_seen ≡ saved → read_seen ≡ read →
    ((given : ℕ → Result Puzzle SpecRefusal) → ((each : ℕ) → Specifies read_seen each (given each)) → Ends result (grade_answer saved_seen given limit seeds)) → Runs (Grade save spec limit seeds) told result
grade_runs told second save spec saved read saved_seen read_seen limit seeds result stay first next saved_is read_is ends =
    let given : ℕ → Result Puzzle SpecRefusal = λ seed. (each_gives read seed).0 in
    let gives : (seed : ℕ) → Specifies read seed (given seed) = λ seed. (each_gives read seed).1 in
    comes_to_run (Grade save spec limit seeds) told (saved ∷ read ∷ []) (grade_answer saved given limit seeds) result
    (λ texts is. one_more texts save saved (spec ∷ []) (read ∷ []) (told_under told told save saved refl first texts is) (one_more texts spec read [] [] (told_under told second spec read stay next texts is) refl))
    (λ other same. (given, gives, same))
    (subst (λ (b : List ℕ). Ends result (grade_answer b given limit seeds)) saved_is (ends given (subst (λ (b : List ℕ). (each : ℕ) → Specifies b each (given each)) (sym read_is) gives)))

-- three texts that were fetched
pub replay_runs : (told second third : Option Texts) (save spec events saved read listed saved_seen read_seen listed_seen : List ℕ) (seed : ℕ) (result : Result Run Status) → second ≡ told → third ≡ second → IfSome told (λ texts. text_at texts save ≡ Some saved) → IfSome second (λ texts. text_at texts spec ≡ Some read) → IfSome third (λ texts. text_at texts events ≡ Some listed) → saved_seen ≡ saved → read_seen ≡ read → listed_seen ≡ listed →
    ((given : Result Puzzle SpecRefusal) → Specifies read_seen seed given → Ends result (replay_answer saved_seen given listed_seen)) → Runs (Replay save spec seed events) told result
replay_runs told second third save spec events saved read listed saved_seen read_seen listed_seen seed result stay again first next last saved_is read_is listed_is ends =
    let gives = each_gives read seed in
    comes_to_run (Replay save spec seed events) told (saved ∷ read ∷ listed ∷ []) (replay_answer saved gives.0 listed) result
    (λ texts is. one_more texts save saved (spec ∷ events ∷ []) (read ∷ listed ∷ []) (told_under told told save saved refl first texts is) (one_more texts spec read (events ∷ []) (listed ∷ []) (told_under told second spec read stay next texts is) (one_more texts events listed [] [] (told_under told third events listed (again ∙ stay) last texts is) refl)))
    (λ other same. (gives.0, gives.1, same))
    (subst (λ (b : List ℕ). Ends result (replay_answer b gives.0 listed)) saved_is (subst (λ (b : List ℕ). Ends result (replay_answer saved_seen gives.0 b)) listed_is (ends gives.0 (subst (λ (b : List ℕ). Specifies b seed gives.0) (sym read_is) gives.1))))

pub debug_runs : (told second third : Option Texts) (save spec script saved read listed saved_seen read_seen listed_seen : List ℕ) (seed : ℕ) (result : Result Run Status) → second ≡ told → third ≡ second → IfSome told (λ texts. text_at texts save ≡ Some saved) → IfSome second (λ texts. text_at texts spec ≡ Some read) → IfSome third (λ texts. text_at texts script ≡ Some listed) → saved_seen ≡ saved → read_seen ≡ read → listed_seen ≡ listed →
    ((given : Result Puzzle SpecRefusal) → Specifies read_seen seed given → Ends result (debug_answer saved_seen given listed_seen)) → Runs (Debug save spec seed script) told result
debug_runs told second third save spec script saved read listed saved_seen read_seen listed_seen seed result stay again first next last saved_is read_is listed_is ends =
    let gives = each_gives read seed in
    comes_to_run (Debug save spec seed script) told (saved ∷ read ∷ listed ∷ []) (debug_answer saved gives.0 listed) result
    (λ texts is. one_more texts save saved (spec ∷ script ∷ []) (read ∷ listed ∷ []) (told_under told told save saved refl first texts is) (one_more texts spec read (script ∷ []) (listed ∷ []) (told_under told second spec read stay next texts is) (one_more texts script listed [] [] (told_under told third script listed (again ∙ stay) last texts is) refl)))
    (λ other same. (gives.0, gives.1, same))
    (subst (λ (b : List ℕ). Ends result (debug_answer b gives.0 listed)) saved_is (subst (λ (b : List ℕ). Ends result (debug_answer saved_seen gives.0 b)) listed_is (ends gives.0 (subst (λ (b : List ℕ). Specifies b seed gives.0) (sym read_is) gives.1))))

-- what a specification gives is there, so what follows from it is no fault of the store
module _ (spec : List ℕ) (seed : ℕ) (follows : Result Puzzle SpecRefusal → Answer) where
  pub not_missing : (result : Result Run Status) → ((given : Result Puzzle SpecRefusal) → Specifies spec seed given → Ends result (follows given)) → result ≡ Err Missing → ⊥
  not_missing result ends is = let gives = each_gives spec seed in subst (λ (r : Result Run Status). Ends r (follows gives.0)) is (ends gives.0 gives.1)

  pub not_faulted : (result : Result Run Status) → ((given : Result Puzzle SpecRefusal) → Specifies spec seed given → Ends result (follows given)) → result ≡ Err StoreFault → ⊥
  not_faulted result ends is = let gives = each_gives spec seed in subst (λ (r : Result Run Status). Ends r (follows gives.0)) is (ends gives.0 gives.1)

-- and so with each seed
module _ (spec : List ℕ) (follows : (ℕ → Result Puzzle SpecRefusal) → Answer) where
  abbrev given_by : ℕ → Result Puzzle SpecRefusal
  given_by seed = (each_gives spec seed).0

  gives_by : (seed : ℕ) → Specifies spec seed (given_by seed)
  gives_by seed = (each_gives spec seed).1

  pub never_missing : (result : Result Run Status) → ((given : ℕ → Result Puzzle SpecRefusal) → ((seed : ℕ) → Specifies spec seed (given seed)) → Ends result (follows given)) → result ≡ Err Missing → ⊥
  never_missing result ends is = subst (λ (r : Result Run Status). Ends r (follows given_by)) is (ends given_by gives_by)

  pub never_faulted : (result : Result Run Status) → ((given : ℕ → Result Puzzle SpecRefusal) → ((seed : ℕ) → Specifies spec seed (given seed)) → Ends result (follows given)) → result ≡ Err StoreFault → ⊥
  never_faulted result ends is = subst (λ (r : Result Run Status). Ends r (follows given_by)) is (ends given_by gives_by)
