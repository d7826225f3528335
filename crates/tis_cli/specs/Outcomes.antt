-- What each status says of the texts in a store and of what a sink was given, whatever the command is.
use Rattle.std.specs.Prelude.{◌≡◌, ◌⊎◌, ◌++◌, List, [], ◌∷◌, ℕ, Option, Some, None, Result, Ok, Err, map, option_map, String, string_bytes}
use Rattle.std.specs.declared.alloc.Global.{Global}
use Rattle.tis_base.specs.Outside.{Texts, text_at, with_text, WrotePrefix}
use Rattle.tis_cli.specs.declared.status.Refusal.{Refusal}
use Rattle.tis_cli.specs.declared.status.Status.{Status}
use Rattle.tis_cli.specs.declared.status.Status.TheVariants.{Done, NotPassed, Words, Refused, Missing, StoreFault, SinkFault, NoMemory, Limit}
use Rattle.tis_cli.specs.Answers.{Completion, AllDone, Limited, Stopped, Failed, Answer, Refuses, Makes, Destination, Kept, Put, completion_status, answer_status}
use Rattle.tis_cli.specs.declared.runs.Run.{Run}
use Rattle.tis_cli.specs.Commands.{Command, command_of, fetched, destination_of, ComesTo, IsPromised}

-- the words, each as its bytes
abbrev pub words_of : List (String Global) → List (List ℕ)
words_of words = map string_bytes words

-- the words are this command, and the store tells these texts
pub record IsCalled (words : List (List ℕ)) (told : Option Texts) (command : Command) (texts : Texts) : Type 0 where
  pub command_is : command_of words ≡ Some command
  pub texts_told : told ≡ Some texts

-- the words are a command that puts a report
abbrev pub PutsReport : List (List ℕ) → Type 0
PutsReport words = (command : Command) × (command_of words ≡ Some command) × (destination_of command ≡ Put)

-- a text in front of others, where all are there
abbrev pub with_first : Option (List ℕ) → Option (List (List ℕ)) → Option (List (List ℕ))
with_first None others = None
with_first (Some text) others = option_map (λ found. text ∷ found) others

-- the texts under these names, where all are there
abbrev pub texts_under : Texts → List (List ℕ) → Option (List (List ℕ))
texts_under texts [] = Some []
texts_under texts (name ∷ names) = with_first (text_at texts name) (texts_under texts names)

-- the texts in a store, and what a sink tells that was written to it
pub record World : Type 0 where
  pub texts : Option Texts
  pub written : Option (List ℕ)

-- ---- answers

-- what was made has come to where it goes, and nothing else has changed; a refusal changes nothing
abbrev pub Arrives : Destination → Answer → Texts → Option (List ℕ) → World → Type 0
Arrives destination (Refuses refusal) texts written after = (after.texts ≡ Some texts) × (after.written ≡ written)
Arrives (Kept name) (Makes completion bytes) texts written after = (after.texts ≡ Some (with_text texts name bytes)) × (after.written ≡ written)
Arrives Put (Makes completion bytes) texts written after = (after.texts ≡ Some texts) × (after.written ≡ option_map (λ before. before ++ bytes) written)

-- what is promised of the bytes of work that was done whole
abbrev pub IfAllDone : (List ℕ → Type 0) → Answer → Type 0
IfAllDone promise (Refuses refusal) = Unit {0}
IfAllDone promise (Makes AllDone bytes) = promise bytes
IfAllDone promise (Makes (Limited done) bytes) = Unit {0}
IfAllDone promise (Makes (Stopped index) bytes) = Unit {0}
IfAllDone promise (Makes (Failed seed verdict) bytes) = Unit {0}

-- the status is that of an answer: of a refusal, or of work that came to its end
abbrev pub IsOfAnswer : Status → Type 0
IsOfAnswer status = (answer : Answer) × (status ≡ answer_status answer)

-- the texts that the command fetched are there and come to an answer of this status; what was made has come to where it goes, and it is what is promised
pub record IsAnswered (command : Command) (texts : Texts) (written : Option (List ℕ)) (status : Status) (after : World) : Type 0 where
  pub found : List (List ℕ)
  pub answer : Answer
  pub stand : texts_under texts (fetched command) ≡ Some found
  pub comes : ComesTo command found answer
  pub status_is : status ≡ answer_status answer
  pub arrives : Arrives (destination_of command) answer texts written after
  pub promised : IfAllDone (IsPromised command found) answer

-- ---- failures

-- the status is that of work that came to its end: where a report is put, it was
abbrev pub IsOfWork : Status → Type 0
IsOfWork status = (completion : Completion) × (status ≡ completion_status completion)

-- the sink failed under the report of the command: the texts that it fetched come to this report, and a prefix of it was written
pub record IsCutShort (command : Command) (texts : Texts) (before after : Option (List ℕ)) : Type 0 where
  pub found : List (List ℕ)
  pub completion : Completion
  pub report : List ℕ
  pub stand : texts_under texts (fetched command) ≡ Some found
  pub comes : ComesTo command found (Makes completion report)
  pub wrote : WrotePrefix before report after

-- a sink takes the bytes of this answer, so that it can fail under them
abbrev pub PutsBytes : Destination → Answer → Type 0
PutsBytes (Kept name) answer = ⊥
PutsBytes Put (Refuses refusal) = ⊥
PutsBytes Put (Makes completion bytes) = Unit {0}

-- the statuses that can stand in place of another: the store failed, memory ran out, or the sink failed where it was put to
abbrev pub IsFailure : Type 0 → Status → Type 0
IsFailure puts StoreFault = Unit {0}
IsFailure puts NoMemory = Unit {0}
IsFailure puts SinkFault = puts
IsFailure puts Done = ⊥
IsFailure puts (NotPassed seed verdict) = ⊥
IsFailure puts Words = ⊥
IsFailure puts (Refused refusal) = ⊥
IsFailure puts Missing = ⊥
IsFailure puts (Limit done) = ⊥

-- this status, unless the outside failed or memory ran out
abbrev pub IsUnlessFailure : Type 0 → Status → Status → Type 0
IsUnlessFailure puts status wanted = (status ≡ wanted) ⊎ IsFailure puts status

-- ---- one command

-- the status after a call that gives nothing, or fails with a status
abbrev pub status_after : Result (Unit {0}) Status → Status
status_after (Ok done) = Done
status_after (Err status) = status

-- what the status says of the texts, where the store tells them
abbrev pub Explains : Command → Option Texts → Option (List ℕ) → Status → World → Type 0
Explains command told written Done after = (texts : Texts) → told ≡ Some texts → IsAnswered command texts written Done after
Explains command told written (NotPassed seed verdict) after = (texts : Texts) → told ≡ Some texts → IsAnswered command texts written (NotPassed seed verdict) after
Explains command told written (Limit done) after = (texts : Texts) → told ≡ Some texts → IsAnswered command texts written (Limit done) after
Explains command told written (Refused refusal) after = (texts : Texts) → told ≡ Some texts → IsAnswered command texts written (Refused refusal) after
Explains command told written Missing after = (texts : Texts) → told ≡ Some texts → texts_under texts (fetched command) ≡ None
Explains command told written StoreFault after = Unit {0}
Explains command told written NoMemory after = Unit {0}
-- only a command that puts a report finds a sink that fails
Explains command told written SinkFault after = (destination_of command ≡ Put) × ((texts : Texts) → told ≡ Some texts → IsCutShort command texts written after.written)
-- it is never answered that its words are no command
Explains command told written Words after = ⊥

-- ---- commands that put a report

-- the texts that were fetched for a command, where the store tells its texts
abbrev pub AreFetched : Command → Option Texts → List (List ℕ) → Type 0
AreFetched command told found = (texts : Texts) → told ≡ Some texts → texts_under texts (fetched command) ≡ Some found

-- the texts come to this report, and its status is that of the end
pub record IsRun (command : Command) (told : Option Texts) (run : Run) : Type 0 where
  pub found : List (List ℕ)
  pub completion : Completion
  pub are : AreFetched command told found
  pub comes : ComesTo command found (Makes completion run.report.items)
  pub status_is : run.status ≡ completion_status completion

-- the texts come to this refusal
pub record IsRefusal (command : Command) (told : Option Texts) (refusal : Refusal) : Type 0 where
  pub found : List (List ℕ)
  pub are : AreFetched command told found
  pub comes : ComesTo command found (Refuses refusal)

-- why a command has no report: a name isn't there, a text is refused, the store failed, or memory ran out
abbrev pub HasNoRun : Command → Option Texts → Status → Type 0
HasNoRun command told (Refused refusal) = IsRefusal command told refusal
HasNoRun command told Missing = (texts : Texts) → told ≡ Some texts → texts_under texts (fetched command) ≡ None
HasNoRun command told StoreFault = Unit {0}
HasNoRun command told NoMemory = Unit {0}
HasNoRun command told Done = ⊥
HasNoRun command told (NotPassed seed verdict) = ⊥
HasNoRun command told Words = ⊥
HasNoRun command told SinkFault = ⊥
HasNoRun command told (Limit done) = ⊥

-- the report of a command, or why it has none
abbrev pub Runs : Command → Option Texts → Result Run Status → Type 0
Runs command told (Ok run) = IsRun command told run
Runs command told (Err status) = HasNoRun command told status

-- a report was put, and its status is answered; or the sink took a front of it, or memory ran out
abbrev pub IsPut : Run → Option (List ℕ) → Status → Option (List ℕ) → Type 0
IsPut run old status new =
    ((status ≡ run.status) × (new ≡ option_map (λ before. before ++ run.report.items) old))
    ⊎ (((status ≡ SinkFault) × WrotePrefix old run.report.items new) ⊎ ((status ≡ NoMemory) × (new ≡ old)))

-- a run has the status of an end, and a status without a report is one that can stand before it
abbrev pub AreEnds : Result Run Status → Type 0
AreEnds (Ok run) = IsOfWork run.status
AreEnds (Err (Refused refusal)) = Unit {0}
AreEnds (Err Missing) = Unit {0}
AreEnds (Err StoreFault) = Unit {0}
AreEnds (Err NoMemory) = Unit {0}
AreEnds (Err Done) = ⊥
AreEnds (Err (NotPassed seed verdict)) = ⊥
AreEnds (Err Words) = ⊥
AreEnds (Err SinkFault) = ⊥
AreEnds (Err (Limit done)) = ⊥

-- the report was put, or the status without one is answered, and nothing was written
abbrev pub Finishes : Result Run Status → Option (List ℕ) → Status → Option (List ℕ) → Type 0
Finishes (Ok run) old status new = IsPut run old status new
Finishes (Err before) old status new = (status ≡ before) × (new ≡ old)
