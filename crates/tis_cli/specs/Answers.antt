-- What the work of a command comes to, and where what it makes goes.
use Rattle.std.specs.Prelude.{ℕ, List}
use Rattle.tis_grade.specs.declared.verdict.Verdict.{Verdict}
use Rattle.tis_cli.specs.declared.status.Status.{Status}
use Rattle.tis_cli.specs.declared.status.Status.TheVariants.{Done, NotPassed, Refused, Limit}
use Rattle.tis_cli.specs.declared.status.Refusal.{Refusal}
use Rattle.tis_cli.specs.declared.status.Refusal.TheVariants.{NotEnabled}

-- how work comes to its end, with bytes made: it is done whole, or it stopped after as many events or cycles as were allowed, or at an event of an order that can't happen in its turn, by its index from 0 on, or at a seed for which a solution isn't passed
pub data Completion : Type 0 where
  AllDone : Completion
  Limited : (done : ℕ) → Completion
  Stopped : (index : ℕ) → Completion
  Failed : (seed : ℕ) → (verdict : Verdict) → Completion

-- what a command comes to where the outside doesn't fail and memory is there: a refusal before anything is made, or the end of its work and the bytes that it makes
pub data Answer : Type 0 where
  Refuses : (refusal : Refusal) → Answer
  Makes : (completion : Completion) → (bytes : List ℕ) → Answer

-- where the bytes go that a command makes: they are kept under a name, or put as its report
pub data Destination : Type 0 where
  Kept : (name : List ℕ) → Destination
  Put : Destination

-- the status of work that came to its end; a work that stops with a report has the status that says so, which may be a refusal
abbrev pub completion_status : Completion → Status
completion_status AllDone = Done
completion_status (Limited done) = Limit done
completion_status (Stopped index) = Refused (NotEnabled index)
completion_status (Failed seed verdict) = NotPassed seed verdict

-- the status of an answer
abbrev pub answer_status : Answer → Status
answer_status (Refuses refusal) = Refused refusal
answer_status (Makes completion bytes) = completion_status completion
