-- What each status says, for the words that were given.
use Rattle.std.proofs.Common.{◌≡◌, ℕ, List, [], ◌∷◌, Option, Some, None, Result, Ok, refl, sym, ap, subst, ◌∙◌, inl, inr}
use Rattle.tis_base.specs.Outside.{Texts}
use Rattle.tis_cli.specs.declared.status.Status.{Status}
use Rattle.tis_cli.specs.declared.status.Status.TheVariants.{Done, NotPassed, Words, Refused, Missing, StoreFault, SinkFault, NoMemory, Limit}
use Rattle.tis_cli.specs.declared.status.Refusal.{Refusal}
use Rattle.std.proofs.Math.Path.{fun_ext}
use Rattle.tis_grid.specs.Puzzle.{Puzzle}
use Rattle.tis_spec.specs.Specification.{Refusal as SpecRefusal}
use Rattle.tis_spec.proofs.Given.{each_gives_one}
use Rattle.tis_cli.specs.Runs.{run_answer, order_answer, replay_answer, grade_answer, debug_answer}
use Rattle.net_tree.specs.Tree.{Net}
use Rattle.net_column.specs.Compiled.{compiled}
use Rattle.tis_save.specs.Writing.{save_text}
use Rattle.tis_cli.specs.Answers.{Completion, AllDone, Limited, Stopped, Failed, Answer, Refuses, Makes, Destination, Kept, Put, answer_status}
use Rattle.tis_cli.specs.Commands.{Command, Compile, Run, Order, Replay, Grade, Network, NetComesTo, RunsTo, OrdersTo, ReplaysTo, GradesTo, command_of, fetched, destination_of, CompilesTo, ComesTo, Follows, AnswersAreOne, Debug, DebugsTo}
use Rattle.tis_cli.specs.Outcomes.{IsCalled, PutsBytes, texts_under, World, IsOfAnswer, IsAnswered, IsCutShort, IsUnlessFailure, Explains}

same_texts : {a b : List (List ℕ)} {found : Option (List (List ℕ))} → found ≡ Some a → found ≡ Some b → a ≡ b
same_texts is other = cc

no_texts : {P : Type 0} {a : List (List ℕ)} {found : Option (List (List ℕ))} → found ≡ None → found ≡ Some a → P
no_texts none some = absurd cc

same_command : {a b : Command} {read : Option Command} → read ≡ Some a → read ≡ Some b → a ≡ b
same_command is other = cc

-- ---- texts come to one answer

same_net : {E : Type 0} {a b : Net} {given : Result Net E} → given ≡ Ok a → given ≡ Ok b → a ≡ b
same_net is other = cc

compiles_once : (texts : List (List ℕ)) (one other : Answer) → CompilesTo texts one → CompilesTo texts other → one ≡ other
compiles_once (text ∷ []) (Refuses refusal) (Refuses another) first second = ap (λ (r : Refusal). Refuses r) (first.1 ∙ sym second.1)
compiles_once (text ∷ []) (Refuses refusal) (Makes completion bytes) first second = absurd (first.0 second.0 second.1)
compiles_once (text ∷ []) (Makes completion bytes) (Refuses refusal) first second = absurd (second.0 first.0 first.1)
compiles_once (text ∷ []) (Makes completion bytes) (Makes another others) first second =
    let same : first.0 ≡ second.0 = same_net first.1.gives second.1.gives in
    let bytes_same : bytes ≡ others = first.3 ∙ ap (λ (n : Net). save_text (compiled n)) same ∙ sym second.3 in
    ap (λ (c : Completion). Makes c bytes) (first.2 ∙ sym second.2) ∙ ap (λ (b : List ℕ). Makes another b) bytes_same
compiles_once [] one other first second = absurd first
compiles_once (text ∷ more ∷ texts) one other first second = absurd first

-- what follows from what a specification gives is one answer
follows_once : (spec : List ℕ) (seed : ℕ) (next : Result Puzzle SpecRefusal → Answer) (one other : Answer) → Follows spec seed next one → Follows spec seed next other → one ≡ other
follows_once spec seed next one other (a, p, is) (b, q, also) = is ∙ ap next (each_gives_one spec seed a b p q) ∙ sym also

clocks_once : (seed cycles : ℕ) (texts : List (List ℕ)) (one other : Answer) → RunsTo seed cycles texts one → RunsTo seed cycles texts other → one ≡ other
clocks_once seed cycles [] one other first second = absurd first
clocks_once seed cycles (save ∷ []) one other first second = absurd first
clocks_once seed cycles (save ∷ spec ∷ []) one other first second = follows_once spec seed (λ given. run_answer save given cycles) one other first second
clocks_once seed cycles (save ∷ spec ∷ more ∷ texts) one other first second = absurd first

orders_once : (seed order_seed limit : ℕ) (texts : List (List ℕ)) (one other : Answer) → OrdersTo seed order_seed limit texts one → OrdersTo seed order_seed limit texts other → one ≡ other
orders_once seed order_seed limit [] one other first second = absurd first
orders_once seed order_seed limit (save ∷ []) one other first second = absurd first
orders_once seed order_seed limit (save ∷ spec ∷ []) one other first second = follows_once spec seed (λ given. order_answer save given order_seed limit) one other first second
orders_once seed order_seed limit (save ∷ spec ∷ more ∷ texts) one other first second = absurd first

replays_once : (seed : ℕ) (texts : List (List ℕ)) (one other : Answer) → ReplaysTo seed texts one → ReplaysTo seed texts other → one ≡ other
replays_once seed [] one other first second = absurd first
replays_once seed (save ∷ []) one other first second = absurd first
replays_once seed (save ∷ spec ∷ []) one other first second = absurd first
replays_once seed (save ∷ spec ∷ events ∷ []) one other first second = follows_once spec seed (λ given. replay_answer save given events) one other first second
replays_once seed (save ∷ spec ∷ events ∷ more ∷ texts) one other first second = absurd first

grades_once : (limit : ℕ) (seeds : List ℕ) (texts : List (List ℕ)) (one other : Answer) → GradesTo limit seeds texts one → GradesTo limit seeds texts other → one ≡ other
grades_once limit seeds [] one other first second = absurd first
grades_once limit seeds (save ∷ []) one other first second = absurd first
grades_once limit seeds (save ∷ spec ∷ []) one other (a, p, is) (b, q, also) =
    is ∙ ap (λ (given : ℕ → Result Puzzle SpecRefusal). grade_answer save given limit seeds) (fun_ext (λ seed. each_gives_one spec seed (a seed) (b seed) (p seed) (q seed))) ∙ sym also
grades_once limit seeds (save ∷ spec ∷ more ∷ texts) one other first second = absurd first

debugs_once : (seed : ℕ) (texts : List (List ℕ)) (one other : Answer) → DebugsTo seed texts one → DebugsTo seed texts other → one ≡ other
debugs_once seed [] one other first second = absurd first
debugs_once seed (save ∷ []) one other first second = absurd first
debugs_once seed (save ∷ spec ∷ []) one other first second = absurd first
debugs_once seed (save ∷ spec ∷ script ∷ []) one other first second = follows_once spec seed (λ given. debug_answer save given script) one other first second
debugs_once seed (save ∷ spec ∷ script ∷ more ∷ texts) one other first second = absurd first

nets_once : (texts : List (List ℕ)) (one other : Answer) → NetComesTo texts one → NetComesTo texts other → one ≡ other
nets_once [] one other first second = absurd first
nets_once (net ∷ []) one other first second = absurd first
nets_once (net ∷ grid ∷ []) one other first second = first ∙ sym second
nets_once (net ∷ grid ∷ more ∷ texts) one other first second = absurd first

pub answers_are_one : AnswersAreOne
answers_are_one (Compile net save) texts one other first second = compiles_once texts one other first second
answers_are_one (Network net grid) texts one other first second = nets_once texts one other first second
answers_are_one (Run save spec seed cycles) texts one other first second = clocks_once seed cycles texts one other first second
answers_are_one (Order save spec seed order_seed limit) texts one other first second = orders_once seed order_seed limit texts one other first second
answers_are_one (Replay save spec seed events) texts one other first second = replays_once seed texts one other first second
answers_are_one (Grade save spec limit seeds) texts one other first second = grades_once limit seeds texts one other first second
answers_are_one (Debug save spec seed script) texts one other first second = debugs_once seed texts one other first second

-- ---- the clauses

-- what is explained of the command that was done is explained of the one that the words are
pub explained_at : (words : List (List ℕ)) (told : Option Texts) (written : Option (List ℕ)) (status : Status) (after : World) (done command : Command) (texts : Texts) →
    command_of words ≡ Some done → IsCalled words told command texts → Explains done told written status after → Explains command told written status after
explained_at words told written status after done command texts is called explains =
    subst (λ (c : Command). Explains c told written status after) (same_command is called.command_is) explains

-- a command is never answered that its words are none
pub never_words : (command : Command) (told : Option Texts) (written : Option (List ℕ)) (status : Status) (after : World) → Explains command told written status after → status ≡ Words → ⊥
never_words command told written status after explains is = subst (λ (s : Status). Explains command told written s after) is explains

-- words that are a command
pub some_command : {P : Type 0} {command : Command} {read : Option Command} → read ≡ None → read ≡ Some command → P
some_command none some = absurd cc

-- a sink fails under a command that puts a report
pub sink_fault_only : (command : Command) (told : Option Texts) (written : Option (List ℕ)) (status : Status) (after : World) → Explains command told written status after → status ≡ SinkFault → destination_of command ≡ Put
sink_fault_only command told written status after explains failed = (subst (λ (s : Status). Explains command told written s after) failed explains).0

-- no sink fails under a command that keeps what it makes
pub never_put : (net save : List ℕ) (told : Option Texts) (written : Option (List ℕ)) (status : Status) (after : World) → Explains (Compile net save) told written status after → status ≡ SinkFault → ⊥
never_put net save told written status after explains failed = let never : Kept save ≡ Put = sink_fault_only (Compile net save) told written status after explains failed in absurd cc

pub cut_short : (command : Command) (told : Option Texts) (written : Option (List ℕ)) (status : Status) (after : World) (texts : Texts) → told ≡ Some texts → Explains command told written status after → status ≡ SinkFault → IsCutShort command texts written after.written
cut_short command told written status after texts is explains failed = (subst (λ (s : Status). Explains command told written s after) failed explains).1 texts is

pub missing_only : (command : Command) (told : Option Texts) (written : Option (List ℕ)) (status : Status) (after : World) (texts : Texts) → told ≡ Some texts → Explains command told written status after →
    status ≡ Missing → texts_under texts (fetched command) ≡ None
missing_only command told written status after texts is explains missing = subst (λ (s : Status). Explains command told written s after) missing explains texts is

-- which statuses are those of answers
no_answer : (status : Status) (never : (answer : Answer) → status ≡ answer_status answer → ⊥) → IsOfAnswer status → ⊥
no_answer status never of = never of.0 of.1

missing_is_none : (answer : Answer) → Missing ≡ answer_status answer → ⊥
missing_is_none (Refuses refusal) is = cc
missing_is_none (Makes AllDone bytes) is = cc
missing_is_none (Makes (Limited done) bytes) is = cc
missing_is_none (Makes (Stopped index) bytes) is = cc
missing_is_none (Makes (Failed seed verdict) bytes) is = cc

store_fault_is_none : (answer : Answer) → StoreFault ≡ answer_status answer → ⊥
store_fault_is_none (Refuses refusal) is = cc
store_fault_is_none (Makes AllDone bytes) is = cc
store_fault_is_none (Makes (Limited done) bytes) is = cc
store_fault_is_none (Makes (Stopped index) bytes) is = cc
store_fault_is_none (Makes (Failed seed verdict) bytes) is = cc

sink_fault_is_none : (answer : Answer) → SinkFault ≡ answer_status answer → ⊥
sink_fault_is_none (Refuses refusal) is = cc
sink_fault_is_none (Makes AllDone bytes) is = cc
sink_fault_is_none (Makes (Limited done) bytes) is = cc
sink_fault_is_none (Makes (Stopped index) bytes) is = cc
sink_fault_is_none (Makes (Failed seed verdict) bytes) is = cc

no_memory_is_none : (answer : Answer) → NoMemory ≡ answer_status answer → ⊥
no_memory_is_none (Refuses refusal) is = cc
no_memory_is_none (Makes AllDone bytes) is = cc
no_memory_is_none (Makes (Limited done) bytes) is = cc
no_memory_is_none (Makes (Stopped index) bytes) is = cc
no_memory_is_none (Makes (Failed seed verdict) bytes) is = cc

pub answered : (command : Command) (told : Option Texts) (written : Option (List ℕ)) (status : Status) (after : World) (texts : Texts) → told ≡ Some texts → Explains command told written status after →
    IsOfAnswer status → IsAnswered command texts written status after
answered command told written Done after texts is explains of = explains texts is
answered command told written (Refused refusal) after texts is explains of = explains texts is
answered command told written Words after texts is explains of = absurd explains
answered command told written SinkFault after texts is explains of = absurd (no_answer SinkFault sink_fault_is_none of)
answered command told written (Limit done) after texts is explains of = explains texts is
answered command told written (NotPassed seed verdict) after texts is explains of = explains texts is
answered command told written Missing after texts is explains of = absurd (no_answer Missing missing_is_none of)
answered command told written StoreFault after texts is explains of = absurd (no_answer StoreFault store_fault_is_none of)
answered command told written NoMemory after texts is explains of = absurd (no_answer NoMemory no_memory_is_none of)

pub missing_where : (command : Command) (told : Option Texts) (written : Option (List ℕ)) (status : Status) (after : World) (texts : Texts) → told ≡ Some texts → Explains command told written status after →
    texts_under texts (fetched command) ≡ None → IsUnlessFailure ⊥ status Missing
missing_where command told written Done after texts is explains none = no_texts none (explains texts is).stand
missing_where command told written (Refused refusal) after texts is explains none = no_texts none (explains texts is).stand
missing_where command told written Missing after texts is explains none = inl refl
missing_where command told written StoreFault after texts is explains none = inr tt
missing_where command told written NoMemory after texts is explains none = inr tt
missing_where command told written SinkFault after texts is explains none = no_texts none (explains.1 texts is).stand
missing_where command told written (Limit done) after texts is explains none = no_texts none (explains texts is).stand
missing_where command told written (NotPassed seed verdict) after texts is explains none = no_texts none (explains texts is).stand
missing_where command told written Words after texts is explains none = absurd explains

-- the answer that was given is the one that the texts come to
same_status : (command : Command) (texts : Texts) (written : Option (List ℕ)) (status : Status) (after : World) (found : List (List ℕ)) (answer : Answer) →
    IsAnswered command texts written status after → texts_under texts (fetched command) ≡ Some found → ComesTo command found answer → status ≡ answer_status answer
same_status command texts written status after found answer is stand comes =
    is.status_is ∙ ap answer_status (answers_are_one command found is.answer answer (subst (λ (f : List (List ℕ)). ComesTo command f is.answer) (same_texts is.stand stand) is.comes) comes)

pub complete : (command : Command) (told : Option Texts) (written : Option (List ℕ)) (status : Status) (after : World) (texts : Texts) (found : List (List ℕ)) (answer : Answer) → told ≡ Some texts → Explains command told written status after →
    texts_under texts (fetched command) ≡ Some found → ComesTo command found answer → IsUnlessFailure (PutsBytes (destination_of command) answer) status (answer_status answer)
complete command told written Done after texts found answer is explains stand comes = inl (same_status command texts written Done after found answer (explains texts is) stand comes)
complete command told written (Refused refusal) after texts found answer is explains stand comes = inl (same_status command texts written (Refused refusal) after found answer (explains texts is) stand comes)
complete command told written Missing after texts found answer is explains stand comes = no_texts (explains texts is) stand
complete command told written StoreFault after texts found answer is explains stand comes = inr tt
complete command told written NoMemory after texts found answer is explains stand comes = inr tt
complete command told written (Limit done) after texts found answer is explains stand comes = inl (same_status command texts written (Limit done) after found answer (explains texts is) stand comes)
complete command told written (NotPassed seed verdict) after texts found answer is explains stand comes = inl (same_status command texts written (NotPassed seed verdict) after found answer (explains texts is) stand comes)
complete command told written SinkFault after texts found answer is explains stand comes =
    let cut = explains.1 texts is in
    let same : Makes cut.completion cut.report ≡ answer = answers_are_one command found (Makes cut.completion cut.report) answer (subst (λ (f : List (List ℕ)). ComesTo command f (Makes cut.completion cut.report)) (same_texts cut.stand stand) cut.comes) comes in
    inr (subst (λ (a : Answer). PutsBytes (destination_of command) a) same (subst (λ (d : Destination). PutsBytes d (Makes cut.completion cut.report)) (sym explains.0) tt))
complete command told written Words after texts found answer is explains stand comes = absurd explains
