-- What a specification gives is one puzzle.
use Rattle.std.proofs.Common.{◌≡◌, ℕ, suc, ◌<◌, true, false, cond, List, [], ◌∷◌, length, Option, Some, None, Result, Ok, Err, refl, sym, ap, ◌∙◌, subst, inl, inr, IsTrue}
use Rattle.std.specs.Prelude.{All, is_some, ◌==◌}
use Rattle.std.proofs.lemmas.Bool.{eqb-true}
use Rattle.tis_base.specs.declared.tiles.TileKind.{TileKind}
use Rattle.tis_grid.specs.Puzzle.{Puzzle, IsPuzzle, Input, Output, bare}
use Rattle.lua_machine.specs.Tree.{ItemNode}
use Rattle.lua_machine.specs.Value.{Fault}
use Rattle.lua_machine.specs.Answer.{PlainValue, Answers}
use Rattle.lua_machine.specs.Functions.{Function, function_of}
use Rattle.lua_machine.proofs.OneAnswer.{yields_once}
use Rattle.lua_machine.proofs.Settling.{calls_come_to_something}
use Rattle.lua_plain.specs.Plain.{list_in}
use Rattle.tis_puzzle.specs.declared.error.Wanted.{Wanted}
use Rattle.tis_puzzle.specs.declared.error.Wanted.TheVariants.{Name, Description, Streams, Layout}
use Rattle.tis_puzzle.specs.Entries as entries
use Rattle.tis_puzzle.specs.Entries.{ports_of, ports_of_list}
use Rattle.tis_puzzle.specs.Layout.{kind_in, with_kind, kinds_of, kinds_of_list, layout_of}
use Rattle.tis_puzzle.specs.LuaPuzzle.{called, first_missing, EachHasAPuzzleOrNone, NoFunction, Outcome, Given, Faulted, Spent, ComesTo, Refusal, missing, ports_or, ports_from, on_tiles, on_layout, WithPorts, WithFunctions, OnePuzzle, SpecificationsGivePuzzles}
use Rattle.tis_puzzle.proofs.EntryPuzzles.{ports_make_puzzle}

-- ---- one puzzle at most

-- the outcome of an answer
outcome_of : Result PlainValue Fault → Outcome
outcome_of (Ok value) = Given value
outcome_of (Err why) = Faulted why

one_answer : (chunk : List ItemNode) (seed : ℕ) (wanted : Wanted) (one other : Result PlainValue Fault) (cost more : ℕ) → Answers chunk (called wanted) seed one cost → Answers chunk (called wanted) seed other more → outcome_of one ≡ outcome_of other
one_answer chunk seed wanted one other cost more p q = ap outcome_of (yields_once chunk (called wanted) seed one other cost more p.0 q.0).0

one_outcome : (chunk : List ItemNode) (seed : ℕ) (wanted : Wanted) (one other : Outcome) → ComesTo chunk seed wanted one → ComesTo chunk seed wanted other → one ≡ other
unfolding outcome_of
one_outcome chunk seed wanted (Given a) (Given b) p q = one_answer chunk seed wanted (Ok a) (Ok b) p.0 q.0 p.1 q.1
one_outcome chunk seed wanted (Given a) (Faulted b) p q = one_answer chunk seed wanted (Ok a) (Err b) p.0 q.0 p.1 q.1
one_outcome chunk seed wanted (Given a) Spent p q = absurd (q (Ok a) p.0 p.1)
one_outcome chunk seed wanted (Faulted a) (Given b) p q = one_answer chunk seed wanted (Err a) (Ok b) p.0 q.0 p.1 q.1
one_outcome chunk seed wanted (Faulted a) (Faulted b) p q = one_answer chunk seed wanted (Err a) (Err b) p.0 q.0 p.1 q.1
one_outcome chunk seed wanted (Faulted a) Spent p q = absurd (q (Err a) p.0 p.1)
one_outcome chunk seed wanted Spent (Given b) p q = absurd (p (Ok b) q.0 q.1)
one_outcome chunk seed wanted Spent (Faulted b) p q = absurd (p (Err b) q.0 q.1)
one_outcome chunk seed wanted Spent Spent p q = refl

one_with_ports : (chunk : List ItemNode) (seed : ℕ) (ports : Result Puzzle Refusal) (one other : Result Puzzle Refusal) → WithPorts chunk seed ports one → WithPorts chunk seed ports other → one ≡ other
one_with_ports chunk seed (Ok ports) one other (a, p, is) (b, q, also) = is ∙ ap (on_layout ports) (one_outcome chunk seed Layout a b p q) ∙ sym also
one_with_ports chunk seed (Err why) one other is also = is ∙ sym also

one_with_functions : (chunk : List ItemNode) (seed : ℕ) (gap : Option Wanted) (one other : Result Puzzle Refusal) → WithFunctions chunk seed gap one → WithFunctions chunk seed gap other → one ≡ other
one_with_functions chunk seed (Some wanted) one other is also = is ∙ sym also
one_with_functions chunk seed None one other (a, p, is) (b, q, also) =
    one_with_ports chunk seed (ports_from b) one other (subst (λ (ports : Result Puzzle Refusal). WithPorts chunk seed ports one) (ap ports_from (one_outcome chunk seed Streams a b p q)) is) also

pub one_puzzle : OnePuzzle
one_puzzle chunk seed one other p q = one_with_functions chunk seed (missing chunk) one other p q

-- ---- it is a puzzle

-- there are so many kinds, where none is refused
HasLength : ℕ → Result (List TileKind) ℕ → Type 0
HasLength count (Ok kinds) = length kinds ≡ count
HasLength count (Err index) = Unit {0}

with_kind_length : (index count : ℕ) (kind : Option TileKind) (others : Result (List TileKind) ℕ) → HasLength count others → HasLength (suc count) (with_kind index kind others)
unfolding HasLength
with_kind_length index count None others are = tt
with_kind_length index count (Some kind) (Ok kinds) are = ap suc are
with_kind_length index count (Some kind) (Err other) are = tt

kinds_length : (values : List PlainValue) (index : ℕ) → HasLength (length values) (kinds_of index values)
unfolding HasLength
kinds_length [] index = refl
kinds_length (value ∷ values) index = with_kind_length index (length values) (kind_in value) (kinds_of (suc index) values) (kinds_length values (suc index))

list_length : (list : Option (List PlainValue)) → HasLength 12 (kinds_of_list list)
unfolding HasLength
list_length None = tt
list_length (Some values) =
    elim (length values == 12) as (λ b. length values == 12 ≡ b → HasLength 12 (cond b (kinds_of 1 values) (Err 0))) [
      | true ↦ λ is. subst (λ (count : ℕ). HasLength count (kinds_of 1 values)) (eqb-true (length values) 12 is) (kinds_length values 1)
      | false ↦ λ is. tt
    ] refl

-- ports on other tiles of as many columns
moved : (ports : Puzzle) (kinds : List TileKind) → IsPuzzle ports → length kinds ≡ 12 → IsPuzzle (record ports { tiles = (bare kinds).tiles })
moved ports kinds is count =
    record {
      tiles = record { allowed = (refl, refl); filled = count };
      inputs_below = subst (λ (columns : ℕ). All (λ (i : Input). i.position < columns) ports.inputs) is.tiles.allowed.0 is.inputs_below;
      outputs_below = subst (λ (columns : ℕ). All (λ (o : Output). o.position < columns) ports.outputs) is.tiles.allowed.0 is.outputs_below;
      inputs_distinct = is.inputs_distinct;
      outputs_distinct = is.outputs_distinct;
      values = is.values;
    }

-- what is answered is a puzzle, unless it is a refusal
Makes : {R : Type 0} → Result Puzzle R → Type 0
Makes (Ok puzzle) = IsPuzzle puzzle
Makes (Err why) = Unit {0}

tiles_make : (ports : Puzzle) (read : Result (List TileKind) ℕ) → IsPuzzle ports → HasLength 12 read → Makes (on_tiles ports read)
unfolding Makes HasLength
tiles_make ports (Ok kinds) is count = moved ports kinds is count
tiles_make ports (Err index) is count = tt

layout_makes : (ports : Puzzle) (layout : Outcome) → IsPuzzle ports → Makes (on_layout ports layout)
unfolding Makes
layout_makes ports (Given value) is = tiles_make ports (layout_of value) is (list_length (list_in value))
layout_makes ports (Faulted why) is = tt
layout_makes ports Spent is = tt

entries_make : (list : List PlainValue) (read : Result Puzzle entries.Refusal) → entries.with_entries entries.unknown 1 list ≡ read → Makes (ports_or read)
unfolding Makes
entries_make list (Ok puzzle) is = ports_make_puzzle list puzzle is
entries_make list (Err why) is = tt

list_makes : (list : Option (List PlainValue)) → Makes (ports_or (ports_of_list list))
unfolding Makes
list_makes None = tt
list_makes (Some list) = entries_make list (entries.with_entries entries.unknown 1 list) refl

streams_make : (streams : Outcome) → Makes (ports_from streams)
unfolding Makes
streams_make (Given value) = list_makes (list_in value)
streams_make (Faulted why) = tt
streams_make Spent = tt

with_ports_makes : (chunk : List ItemNode) (seed : ℕ) (ports answer : Result Puzzle Refusal) → Makes ports → WithPorts chunk seed ports answer → Makes answer
unfolding Makes
with_ports_makes chunk seed (Ok ports) answer is (layout, comes, same) = subst Makes (sym same) (layout_makes ports layout is)
with_ports_makes chunk seed (Err why) answer is same = subst Makes (sym same) tt

with_functions_makes : (chunk : List ItemNode) (seed : ℕ) (gap : Option Wanted) (answer : Result Puzzle Refusal) → WithFunctions chunk seed gap answer → Makes answer
unfolding Makes
with_functions_makes chunk seed (Some wanted) answer same = subst Makes (sym same) tt
with_functions_makes chunk seed None answer (streams, comes, rest) = with_ports_makes chunk seed (ports_from streams) answer (streams_make streams) rest

pub specifications_give_puzzles : SpecificationsGivePuzzles
unfolding Makes
specifications_give_puzzles chunk seed puzzle gives = with_functions_makes chunk seed (missing chunk) (Ok puzzle) gives

-- ---- there is an answer

-- a function that isn't missing is defined
not_missing : (chunk : List ItemNode) (wanted : Wanted) (others : List Wanted) → first_missing chunk (wanted ∷ others) ≡ None → IsTrue (is_some (function_of chunk (called wanted))) × (first_missing chunk others ≡ None)
not_missing chunk wanted others =
    elim (is_some (function_of chunk (called wanted))) as (λ b. cond b (first_missing chunk others) (Some wanted) ≡ None → IsTrue b × (first_missing chunk others ≡ None)) [
      | true ↦ λ is. (refl, is)
      | false ↦ λ is. absurd cc
    ]

both_there : (chunk : List ItemNode) → missing chunk ≡ None → IsTrue (is_some (function_of chunk (called Streams))) × IsTrue (is_some (function_of chunk (called Layout)))
both_there chunk is =
    let named = not_missing chunk Name (Description ∷ Streams ∷ Layout ∷ []) is in
    let described = not_missing chunk Description (Streams ∷ Layout ∷ []) named.1 in
    let streaming = not_missing chunk Streams (Layout ∷ []) described.1 in
    (streaming.0, (not_missing chunk Layout [] streaming.1).0)

-- where none is missing, those that are called are there
pub streams_there : (chunk : List ItemNode) → missing chunk ≡ None → IsTrue (is_some (function_of chunk (called Streams)))
streams_there chunk is = (both_there chunk is).0

pub layout_there : (chunk : List ItemNode) → missing chunk ≡ None → IsTrue (is_some (function_of chunk (called Layout)))
layout_there chunk is = (both_there chunk is).1

outcome_by : (chunk : List ItemNode) (seed : ℕ) (wanted : Wanted) (function : Option Function) → function_of chunk (called wanted) ≡ function → IsTrue (is_some function) → (outcome : Outcome) × ComesTo chunk seed wanted outcome
outcome_by chunk seed wanted None is there = absurd cc
outcome_by chunk seed wanted (Some main) is there =
    elim (calls_come_to_something chunk (called wanted) seed main is) [
      | inl (Ok value, cost, answers) ↦ (Given value, (cost, answers))
      | inl (Err why, cost, answers) ↦ (Faulted why, (cost, answers))
      | inr out ↦ (Spent, out)
    ]

-- a call of a function that is defined comes to something
outcome_there : (chunk : List ItemNode) (seed : ℕ) (wanted : Wanted) → IsTrue (is_some (function_of chunk (called wanted))) → (outcome : Outcome) × ComesTo chunk seed wanted outcome
outcome_there chunk seed wanted there = outcome_by chunk seed wanted (function_of chunk (called wanted)) refl there

answer_with_ports : (chunk : List ItemNode) (seed : ℕ) (ports : Result Puzzle Refusal) → IsTrue (is_some (function_of chunk (called Layout))) → (answer : Result Puzzle Refusal) × WithPorts chunk seed ports answer
answer_with_ports chunk seed (Ok ports) there = let layout = outcome_there chunk seed Layout there in (on_layout ports layout.0, (layout.0, layout.1, refl))
answer_with_ports chunk seed (Err why) there = (Err why, refl)

answer_with_functions : (chunk : List ItemNode) (seed : ℕ) (gap : Option Wanted) → missing chunk ≡ gap → (answer : Result Puzzle Refusal) × WithFunctions chunk seed gap answer
answer_with_functions chunk seed (Some wanted) is = (Err (NoFunction wanted), refl)
answer_with_functions chunk seed None is =
    let streams = outcome_there chunk seed Streams (streams_there chunk is) in
    let answer = answer_with_ports chunk seed (ports_from streams.0) (layout_there chunk is) in
    (answer.0, (streams.0, streams.1, answer.1))

pub each_has_a_puzzle_or_none : EachHasAPuzzleOrNone
each_has_a_puzzle_or_none chunk seed = answer_with_functions chunk seed (missing chunk) refl
