-- The puzzle of a specification: the functions that it has to define, what a call of each comes to, and what is made of that.
use Rattle.std.specs.Prelude.{◌≡◌, ℕ, List, [], ◌∷◌, Option, Some, None, is_some, Result, Ok, Err, codes, if◌then◌else◌}
use Rattle.tis_base.specs.declared.tiles.TileKind.{TileKind}
use Rattle.tis_grid.specs.Puzzle.{Puzzle, IsPuzzle, bare}
use Rattle.lua_machine.specs.Tree.{ItemNode}
use Rattle.lua_machine.specs.Value.{Fault}
use Rattle.lua_machine.specs.Functions.{function_of}
use Rattle.lua_machine.specs.Answer.{PlainValue, Answers, RunsOut}
use Rattle.tis_puzzle.specs.declared.error.Wanted.{Wanted}
use Rattle.tis_puzzle.specs.declared.error.Wanted.TheVariants.{Name, Description, Streams, Layout}
use Rattle.tis_puzzle.specs.Entries as entries
use Rattle.tis_puzzle.specs.Entries.{ports_of}
use Rattle.tis_puzzle.specs.Layout.{layout_of}

-- the names of the functions that a specification has to define
abbrev pub called : Wanted → List ℕ
called Name = codes "get_name"
called Description = codes "get_description"
called Streams = codes "get_streams"
called Layout = codes "get_layout"

-- ---- what a call comes to

-- a value, a fault, or nothing within the units that may be paid
pub data Outcome : Type 0 where
  Given : PlainValue → Outcome
  Faulted : Fault → Outcome
  Spent : Outcome

-- a call of a function with a seed comes to this
abbrev pub ComesTo : List ItemNode → ℕ → Wanted → Outcome → Type 0
ComesTo chunk seed wanted (Given value) = (cost : ℕ) × Answers chunk (called wanted) seed (Ok value) cost
ComesTo chunk seed wanted (Faulted why) = (cost : ℕ) × Answers chunk (called wanted) seed (Err why) cost
ComesTo chunk seed wanted Spent = RunsOut chunk (called wanted) seed

-- ---- why a specification has no puzzle

pub data Refusal : Type 0 where
  -- the function isn't defined
  NoFunction : Wanted → Refusal
  -- a call of the function is a fault, or runs out of units
  Fails : Wanted → Fault → Refusal
  RunsOutOfUnits : Wanted → Refusal
  -- what `get_streams` gives isn't what it has to be
  BadEntry : entries.Refusal → Refusal
  -- the value of `get_layout` with this number isn't a tile; 0 where there is no list of twelve
  BadLayout : (index : ℕ) → Refusal

-- the first of these functions that isn't defined
abbrev pub first_missing : List ItemNode → List Wanted → Option Wanted
first_missing chunk [] = None
first_missing chunk (wanted ∷ others) = if is_some (function_of chunk (called wanted)) then first_missing chunk others else Some wanted

abbrev pub missing : List ItemNode → Option Wanted
missing chunk = first_missing chunk (Name ∷ Description ∷ Streams ∷ Layout ∷ [])

-- ---- the puzzle

abbrev pub ports_or : Result Puzzle entries.Refusal → Result Puzzle Refusal
ports_or (Ok ports) = Ok ports
ports_or (Err why) = Err (BadEntry why)

-- the ports of what `get_streams` comes to
abbrev pub ports_from : Outcome → Result Puzzle Refusal
ports_from (Given value) = ports_or (ports_of value)
ports_from (Faulted why) = Err (Fails Streams why)
ports_from Spent = Err (RunsOutOfUnits Streams)

-- the ports on tiles of these kinds
abbrev pub on_tiles : Puzzle → Result (List TileKind) ℕ → Result Puzzle Refusal
on_tiles ports (Ok kinds) = Ok (record ports { tiles = (bare kinds).tiles })
on_tiles ports (Err index) = Err (BadLayout index)

-- the ports on what `get_layout` comes to
abbrev pub on_layout : Puzzle → Outcome → Result Puzzle Refusal
on_layout ports (Given value) = on_tiles ports (layout_of value)
on_layout ports (Faulted why) = Err (Fails Layout why)
on_layout ports Spent = Err (RunsOutOfUnits Layout)

-- `get_layout` is called only where the ports are there
abbrev pub WithPorts : List ItemNode → ℕ → Result Puzzle Refusal → Result Puzzle Refusal → Type 0
WithPorts chunk seed (Ok ports) answer = (layout : Outcome) × ComesTo chunk seed Layout layout × (answer ≡ on_layout ports layout)
WithPorts chunk seed (Err why) answer = answer ≡ Err why

-- the functions are called only where none is missing; the name and the description aren't called
abbrev pub WithFunctions : List ItemNode → ℕ → Option Wanted → Result Puzzle Refusal → Type 0
WithFunctions chunk seed (Some wanted) answer = answer ≡ Err (NoFunction wanted)
WithFunctions chunk seed None answer = (streams : Outcome) × ComesTo chunk seed Streams streams × WithPorts chunk seed (ports_from streams) answer

-- the puzzle of a chunk and a seed, or why it has none
abbrev pub LuaPuzzle : List ItemNode → ℕ → Result Puzzle Refusal → Type 0
LuaPuzzle chunk seed answer = WithFunctions chunk seed (missing chunk) answer

-- ---- laws

-- a chunk and a seed have one puzzle at most, or one reason why there is none
abbrev pub OnePuzzle : Type 0
OnePuzzle = (chunk : List ItemNode) (seed : ℕ) (one other : Result Puzzle Refusal) → LuaPuzzle chunk seed one → LuaPuzzle chunk seed other → one ≡ other

-- what a specification gives is a puzzle: a grid can be made of it
abbrev pub SpecificationsGivePuzzles : Type 0
SpecificationsGivePuzzles = (chunk : List ItemNode) (seed : ℕ) (puzzle : Puzzle) → LuaPuzzle chunk seed (Ok puzzle) → IsPuzzle puzzle

-- each chunk has a puzzle with each seed, or a reason why it has none
abbrev pub EachHasAPuzzleOrNone : Type 0
EachHasAPuzzleOrNone = (chunk : List ItemNode) (seed : ℕ) → (answer : Result Puzzle Refusal) × LuaPuzzle chunk seed answer
