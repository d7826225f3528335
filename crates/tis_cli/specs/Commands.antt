-- What each command is: its words, what it fetches, where what it makes goes, what it comes to, and what is promised of that. A new command is a row in each of these definitions.
use Rattle.std.specs.Prelude.{◌≡◌, ℕ, List, [], ◌∷◌, ◌&&◌, length, filter_map, Option, Some, None, option_map, option_and_then, Result, Ok, codes, nat_lt, nat_le, if◌then◌else◌}
use Rattle.std.specs.Option.{option_or}
use Rattle.std.specs.Str.{bytes_eq}
use Rattle.tis_cli.specs.declared.command.Command as held
use Rattle.tis_cli.specs.declared.command.Command.TheVariants as held_as
use Rattle.tis_cli.specs.declared.status.Refusal.TheVariants.{NotThisForm}
use Rattle.tis_cli.specs.Answers.{Answer, Refuses, Makes, AllDone, Destination, Kept, Put}
use Rattle.tis_words.specs.Numerals.{number_of}
use Rattle.tis_cli.specs.Nets.{net_answer}
use Rattle.tis_cli.specs.Runs.{run_answer, order_answer, replay_answer, grade_answer, debug_answer}
use Rattle.tis_grid.specs.Puzzle.{Puzzle}
use Rattle.tis_spec.specs.Specification.{Refusal as SpecRefusal, Specifies}
use Rattle.net_tree.specs.Tree.{Net}
use Rattle.net_rules.specs.Numbers.{numbered}
use Rattle.net_column.specs.Form.{HasForm}
use Rattle.net_column.specs.Compiled.{compiled}
use Rattle.net_column.specs.Carries.{Carries}
use Rattle.tis_save.specs.Writing.{save_text}
use Rattle.tis_save.specs.Reading.{save_of}

-- a command with its words
pub data Command : Type 0 where
  -- compiles the network under one name, and keeps its save under another
  Compile : (net : List ℕ) → (save : List ℕ) → Command
  -- finds the streams of the network under one name over the inputs of the grid text under another
  Network : (net : List ℕ) → (grid : List ℕ) → Command
  -- runs a save over a specification cycle by cycle, up to so many
  Run : (save : List ℕ) → (spec : List ℕ) → (seed : ℕ) → (cycles : ℕ) → Command
  -- runs a save over a specification, in an order that is drawn with a seed, up to so many events; the first seed is the specification's
  Order : (save : List ℕ) → (spec : List ℕ) → (seed : ℕ) → (order_seed : ℕ) → (limit : ℕ) → Command
  -- runs a save over a specification by the events of a text
  Replay : (save : List ℕ) → (spec : List ℕ) → (seed : ℕ) → (events : List ℕ) → Command
  -- grades a save over a specification for each of some seeds, up to so many cycles
  Grade : (save : List ℕ) → (spec : List ℕ) → (limit : ℕ) → (seeds : List ℕ) → Command
  -- debugs a save over a specification by the commands of a script
  Debug : (save : List ℕ) → (spec : List ℕ) → (seed : ℕ) → (script : List ℕ) → Command

-- a word that is a seed: a number below 2^64
abbrev pub seed_of : List ℕ → Option ℕ
seed_of word = number_of 18446744073709551615 word

-- a word that says how many events may happen, or how many cycles may be done
abbrev pub limit_of : List ℕ → Option ℕ
limit_of word = number_of 10000000 word

-- a run of these numbers, where both are there
abbrev pub run_with : List ℕ → List ℕ → Option ℕ → Option ℕ → Option Command
run_with save spec seed cycles = option_and_then (λ s. option_map (λ n. Run save spec s n) cycles) seed

-- an order of these numbers, where all of them are there
abbrev pub order_with : List ℕ → List ℕ → Option ℕ → Option ℕ → Option ℕ → Option Command
order_with save spec seed order_seed limit = option_and_then (λ s. option_and_then (λ o. option_map (λ l. Order save spec s o l) limit) order_seed) seed

abbrev pub replay_with : List ℕ → List ℕ → Option ℕ → List ℕ → Option Command
replay_with save spec seed events = option_map (λ s. Replay save spec s events) seed

-- the numbers of words that are seeds, where all of them are
abbrev pub all_seeds : List (List ℕ) → Option (List ℕ)
all_seeds [] = Some []
all_seeds (word ∷ words) = option_and_then (λ seed. option_map (λ seeds. seed ∷ seeds) (all_seeds words)) (seed_of word)

-- one to eight seeds
abbrev pub seeds_of : List (List ℕ) → Option (List ℕ)
seeds_of words = if nat_lt 0 (length words) && nat_le (length words) 8 then all_seeds words else None

abbrev pub grade_with : List ℕ → List ℕ → Option ℕ → Option (List ℕ) → Option Command
grade_with save spec limit seeds = option_and_then (λ l. option_map (λ all. Grade save spec l all) seeds) limit

-- the command `grade` of these words, where they are one
abbrev pub grade_of : List (List ℕ) → Option Command
grade_of (word ∷ save ∷ spec ∷ limit ∷ seeds) = if bytes_eq word (codes "grade") then grade_with save spec (limit_of limit) (seeds_of seeds) else None
grade_of _ = None

abbrev pub debug_with : List ℕ → List ℕ → Option ℕ → List ℕ → Option Command
debug_with save spec seed script = option_map (λ s. Debug save spec s script) seed

-- the command of so many words that these words are: that of every command but `grade`, which takes any number of seeds
abbrev pub fixed_of : List (List ℕ) → Option Command
fixed_of (word ∷ first ∷ second ∷ []) =
    if bytes_eq word (codes "compile") then Some (Compile first second)
    else (if bytes_eq word (codes "net") then Some (Network first second)
    else None)
fixed_of (word ∷ save ∷ spec ∷ seed ∷ last ∷ []) =
    if bytes_eq word (codes "run") then run_with save spec (seed_of seed) (limit_of last)
    else (if bytes_eq word (codes "replay") then replay_with save spec (seed_of seed) last
    else (if bytes_eq word (codes "debug") then debug_with save spec (seed_of seed) last
    else None))
fixed_of (word ∷ save ∷ spec ∷ seed ∷ order_seed ∷ limit ∷ []) = if bytes_eq word (codes "order") then order_with save spec (seed_of seed) (seed_of order_seed) (limit_of limit) else None
fixed_of _ = None

-- the command that these words are
abbrev pub command_of : List (List ℕ) → Option Command
command_of words = option_or (fixed_of words) (grade_of words)

-- the seeds that the program holds
abbrev pub kept_seeds : List (Option ℕ) → List ℕ
kept_seeds kept = filter_map (λ seed. seed) kept

-- what contracts see of a command that the program holds
abbrev pub command_view : held.Command → Command
command_view (held_as.Compile net save) = Compile net.now save.now
command_view (held_as.Net net grid) = Network net.now grid.now
command_view (held_as.Run save spec seed cycles) = Run save.now spec.now seed cycles
command_view (held_as.Order save spec seed order_seed limit) = Order save.now spec.now seed order_seed limit
command_view (held_as.Replay save spec seed events) = Replay save.now spec.now seed events.now
command_view (held_as.Grade save spec limit seeds) = Grade save.now spec.now limit (kept_seeds seeds)
command_view (held_as.Debug save spec seed script) = Debug save.now spec.now seed script.now

-- ---- compile

-- the text of a network of the form that is taken so far is compiled to the canonical save of its programs; any other text is refused as one that isn't of the form
abbrev pub CompilesTo : List (List ℕ) → Answer → Type 0
CompilesTo (text ∷ []) (Refuses refusal) = ((net : Net) → HasForm text net → ⊥) × (refusal ≡ NotThisForm)
CompilesTo (text ∷ []) (Makes completion bytes) = (net : Net) × HasForm text net × (completion ≡ AllDone) × (bytes ≡ save_text (compiled net))
-- one text is fetched
CompilesTo [] answer = ⊥
CompilesTo (text ∷ other ∷ texts) answer = ⊥

-- the text is that of a network of the form, which keeps each rule, and these bytes are the canonical save of its programs; the save is read as these programs, and on every grid of a puzzle that fits they follow the network in every order
pub record IsCompiled (texts : List (List ℕ)) (bytes : List ℕ) : Type 0 where
  pub text : List ℕ
  pub net : Net
  pub is_text : texts ≡ text ∷ []
  pub is_net : HasForm text net
  pub saved : bytes ≡ save_text (compiled net)
  pub reads_back : save_of bytes net.tiles ≡ Ok (compiled net)
  pub carries : Carries (compiled net) (numbered net)

-- ---- net

-- two texts are fetched
abbrev pub NetComesTo : List (List ℕ) → Answer → Type 0
NetComesTo (net ∷ grid ∷ []) answer = answer ≡ net_answer net grid
NetComesTo [] answer = ⊥
NetComesTo (text ∷ []) answer = ⊥
NetComesTo (net ∷ grid ∷ other ∷ texts) answer = ⊥

-- ---- run, order, replay, debug and grade

-- this follows from what a specification gives with a seed
abbrev pub Follows : List ℕ → ℕ → (Result Puzzle SpecRefusal → Answer) → Answer → Type 0
Follows spec seed next answer = (given : Result Puzzle SpecRefusal) × Specifies spec seed given × (answer ≡ next given)

-- this follows from what a specification gives with each seed
abbrev pub FollowsFromAll : List ℕ → ((ℕ → Result Puzzle SpecRefusal) → Answer) → Answer → Type 0
FollowsFromAll spec next answer = (given : ℕ → Result Puzzle SpecRefusal) × ((seed : ℕ) → Specifies spec seed (given seed)) × (answer ≡ next given)

-- two texts are fetched
abbrev pub RunsTo : ℕ → ℕ → List (List ℕ) → Answer → Type 0
RunsTo seed cycles (save ∷ spec ∷ []) answer = Follows spec seed (λ given. run_answer save given cycles) answer
RunsTo seed cycles [] answer = ⊥
RunsTo seed cycles (text ∷ []) answer = ⊥
RunsTo seed cycles (save ∷ spec ∷ other ∷ texts) answer = ⊥

-- two texts are fetched
abbrev pub OrdersTo : ℕ → ℕ → ℕ → List (List ℕ) → Answer → Type 0
OrdersTo seed order_seed limit (save ∷ spec ∷ []) answer = Follows spec seed (λ given. order_answer save given order_seed limit) answer
OrdersTo seed order_seed limit [] answer = ⊥
OrdersTo seed order_seed limit (text ∷ []) answer = ⊥
OrdersTo seed order_seed limit (save ∷ spec ∷ other ∷ texts) answer = ⊥

-- three texts are fetched
abbrev pub ReplaysTo : ℕ → List (List ℕ) → Answer → Type 0
ReplaysTo seed (save ∷ spec ∷ events ∷ []) answer = Follows spec seed (λ given. replay_answer save given events) answer
ReplaysTo seed [] answer = ⊥
ReplaysTo seed (text ∷ []) answer = ⊥
ReplaysTo seed (save ∷ spec ∷ []) answer = ⊥
ReplaysTo seed (save ∷ spec ∷ events ∷ other ∷ texts) answer = ⊥

-- two texts are fetched
abbrev pub GradesTo : ℕ → List ℕ → List (List ℕ) → Answer → Type 0
GradesTo limit seeds (save ∷ spec ∷ []) answer = FollowsFromAll spec (λ given. grade_answer save given limit seeds) answer
GradesTo limit seeds [] answer = ⊥
GradesTo limit seeds (text ∷ []) answer = ⊥
GradesTo limit seeds (save ∷ spec ∷ other ∷ texts) answer = ⊥

-- three texts are fetched
abbrev pub DebugsTo : ℕ → List (List ℕ) → Answer → Type 0
DebugsTo seed (save ∷ spec ∷ script ∷ []) answer = Follows spec seed (λ given. debug_answer save given script) answer
DebugsTo seed [] answer = ⊥
DebugsTo seed (text ∷ []) answer = ⊥
DebugsTo seed (save ∷ spec ∷ []) answer = ⊥
DebugsTo seed (save ∷ spec ∷ script ∷ other ∷ texts) answer = ⊥

-- ---- every command

-- the names under which it fetches texts, in order
abbrev pub fetched : Command → List (List ℕ)
fetched (Compile net save) = net ∷ []
fetched (Network net grid) = net ∷ grid ∷ []
fetched (Run save spec seed cycles) = save ∷ spec ∷ []
fetched (Order save spec seed order_seed limit) = save ∷ spec ∷ []
fetched (Replay save spec seed events) = save ∷ spec ∷ events ∷ []
fetched (Grade save spec limit seeds) = save ∷ spec ∷ []
fetched (Debug save spec seed script) = save ∷ spec ∷ script ∷ []

-- where what it makes goes
abbrev pub destination_of : Command → Destination
destination_of (Compile net save) = Kept save
destination_of (Network net grid) = Put
destination_of (Run save spec seed cycles) = Put
destination_of (Order save spec seed order_seed limit) = Put
destination_of (Replay save spec seed events) = Put
destination_of (Grade save spec limit seeds) = Put
destination_of (Debug save spec seed script) = Put

-- what it comes to over the texts that it fetched, where nothing fails: the first refusal that the texts and then the work meet, or how the work ends and what it makes
abbrev pub ComesTo : Command → List (List ℕ) → Answer → Type 0
ComesTo (Compile net save) texts answer = CompilesTo texts answer
ComesTo (Network net grid) texts answer = NetComesTo texts answer
ComesTo (Run save spec seed cycles) texts answer = RunsTo seed cycles texts answer
ComesTo (Order save spec seed order_seed limit) texts answer = OrdersTo seed order_seed limit texts answer
ComesTo (Replay save spec seed events) texts answer = ReplaysTo seed texts answer
ComesTo (Grade save spec limit seeds) texts answer = GradesTo limit seeds texts answer
ComesTo (Debug save spec seed script) texts answer = DebugsTo seed texts answer

-- what is promised of the bytes that it made, where all is done; of a report nothing more than what it comes to
abbrev pub IsPromised : Command → List (List ℕ) → List ℕ → Type 0
IsPromised (Compile net save) texts bytes = IsCompiled texts bytes
IsPromised (Network net grid) texts bytes = Unit {0}
IsPromised (Run save spec seed cycles) texts bytes = Unit {0}
IsPromised (Order save spec seed order_seed limit) texts bytes = Unit {0}
IsPromised (Replay save spec seed events) texts bytes = Unit {0}
IsPromised (Grade save spec limit seeds) texts bytes = Unit {0}
IsPromised (Debug save spec seed script) texts bytes = Unit {0}

-- ---- laws

-- texts come to one answer
abbrev pub AnswersAreOne : Type 0
AnswersAreOne = (command : Command) (texts : List (List ℕ)) (one other : Answer) → ComesTo command texts one → ComesTo command texts other → one ≡ other

-- each command that puts a report comes to an answer, whatever the texts are that it fetched
abbrev pub ReportsAnswer : Type 0
ReportsAnswer = (command : Command) (texts : List (List ℕ)) → destination_of command ≡ Put → length texts ≡ length (fetched command) → (answer : Answer) × ComesTo command texts answer
