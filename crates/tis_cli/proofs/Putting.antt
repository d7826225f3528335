-- What a command that puts a report explains.
use Rattle.std.proofs.Common.{◌≡◌, ℕ, List, ◌++◌, Option, Some, option_map, Result, Ok, Err, refl, sym, subst, ◌∙◌, inl, inr}
use Rattle.tis_base.specs.Outside.{Texts, WrotePrefix}
use Rattle.tis_cli.specs.declared.status.Status.{Status}
use Rattle.tis_cli.specs.declared.status.Status.TheVariants.{Done, NotPassed, Words, Refused, Missing, StoreFault, SinkFault, NoMemory, Limit}
use Rattle.tis_cli.specs.declared.status.Refusal.{Refusal}
use Rattle.tis_cli.specs.declared.runs.Run.{Run}
use Rattle.tis_cli.specs.Answers.{Completion, AllDone, Limited, Stopped, Failed, Refuses, Makes, Destination, Put, completion_status}
use Rattle.tis_cli.specs.Commands.{Command, destination_of, IsPromised}
use Rattle.tis_cli.specs.Outcomes.{Arrives, IfAllDone, IsAnswered, IsCutShort, Explains, IsRun, IsRefusal, HasNoRun, Runs, IsPut, AreEnds, Finishes}

-- a command has a run with the status of an end, or a status that can stand before it
pub runs_end : (command : Command) (told : Option Texts) (work : Result Run Status) → Runs command told work → AreEnds work
runs_end command told (Ok run) is = (is.completion, is.status_is)
runs_end command told (Err (Refused refusal)) is = tt
runs_end command told (Err Missing) is = tt
runs_end command told (Err StoreFault) is = tt
runs_end command told (Err NoMemory) is = tt
runs_end command told (Err Done) is = is
runs_end command told (Err (NotPassed seed verdict)) is = is
runs_end command told (Err Words) is = is
runs_end command told (Err SinkFault) is = is
runs_end command told (Err (Limit done)) is = is

module _ (command : Command) (puts : destination_of command ≡ Put) (promised : (found : List (List ℕ)) (bytes : List ℕ) → IsPromised command found bytes) (told new : Option Texts) (stay : new ≡ told) where
  -- a refusal changes nothing
  refused : (refusal : Refusal) → IsRefusal command told refusal → (old written : Option (List ℕ)) → written ≡ old → (texts : Texts) → told ≡ Some texts → IsAnswered command texts old (Refused refusal) (record { texts = new; written = written })
  refused refusal is old written same texts are =
      record {
        found = is.found;
        answer = Refuses refusal;
        stand = is.are texts are;
        comes = is.comes;
        status_is = refl;
        arrives = subst (λ (d : Destination). Arrives d (Refuses refusal) texts old (record { texts = new; written = written })) (sym puts) (stay ∙ are, same);
        promised = tt;
      }

  if_done : (found : List (List ℕ)) (completion : Completion) (bytes : List ℕ) → IfAllDone (IsPromised command found) (Makes completion bytes)
  if_done found AllDone bytes = promised found bytes
  if_done found (Limited done) bytes = tt
  if_done found (Stopped index) bytes = tt
  if_done found (Failed seed verdict) bytes = tt

  -- a report that was put
  reported : (run : Run) (is : IsRun command told run) (old written : Option (List ℕ)) → written ≡ option_map (λ before. before ++ run.report.items) old → (texts : Texts) → told ≡ Some texts → IsAnswered command texts old (completion_status is.completion) (record { texts = new; written = written })
  reported run is old written put texts are =
      record {
        found = is.found;
        answer = Makes is.completion run.report.items;
        stand = is.are texts are;
        comes = is.comes;
        status_is = refl;
        arrives = subst (λ (d : Destination). Arrives d (Makes is.completion run.report.items) texts old (record { texts = new; written = written })) (sym puts) (stay ∙ are, put);
        promised = if_done is.found is.completion run.report.items;
      }

  -- an end explains itself by what is answered
  by_end : (completion : Completion) (old written : Option (List ℕ)) → ((texts : Texts) → told ≡ Some texts → IsAnswered command texts old (completion_status completion) (record { texts = new; written = written })) → Explains command told old (completion_status completion) (record { texts = new; written = written })
  by_end AllDone old written answered = answered
  by_end (Limited done) old written answered = answered
  by_end (Stopped index) old written answered = answered
  by_end (Failed seed verdict) old written answered = answered

  cut : (run : Run) → IsRun command told run → (old written : Option (List ℕ)) → WrotePrefix old run.report.items written → (texts : Texts) → told ≡ Some texts → IsCutShort command texts old written
  cut run is old written wrote texts are = record { found = is.found; completion = is.completion; report = run.report.items; stand = is.are texts are; comes = is.comes; wrote = wrote }

  finished_run : (run : Run) → IsRun command told run → (old written : Option (List ℕ)) (status : Status) → IsPut run old status written → Explains command told old status (record { texts = new; written = written })
  finished_run run is old written status (inl put) =
      subst (λ (s : Status). Explains command told old s (record { texts = new; written = written })) (sym (put.0 ∙ is.status_is)) (by_end is.completion old written (reported run is old written put.1))
  finished_run run is old written status (inr (inl fault)) =
      subst (λ (s : Status). Explains command told old s (record { texts = new; written = written })) (sym fault.0) (puts, cut run is old written fault.1)
  finished_run run is old written status (inr (inr none)) =
      subst (λ (s : Status). Explains command told old s (record { texts = new; written = written })) (sym none.0) tt

  -- a status before a report
  before : (status : Status) → HasNoRun command told status → (old written : Option (List ℕ)) → written ≡ old → Explains command told old status (record { texts = new; written = written })
  before (Refused refusal) is old written same = refused refusal is old written same
  before Missing is old written same = is
  before StoreFault is old written same = tt
  before NoMemory is old written same = tt
  before Done is old written same = absurd is
  before (NotPassed seed verdict) is old written same = absurd is
  before Words is old written same = absurd is
  before SinkFault is old written same = absurd is
  before (Limit done) is old written same = absurd is

  -- a command that puts a report explains itself
  pub finished : (work : Result Run Status) → Runs command told work → (old written : Option (List ℕ)) (status : Status) → Finishes work old status written → Explains command told old status (record { texts = new; written = written })
  finished (Ok run) is old written status put = finished_run run is old written status put
  finished (Err early) is old written status same =
      subst (λ (s : Status). Explains command told old s (record { texts = new; written = written })) (sym same.0) (before early is old written same.1)
