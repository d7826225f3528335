-- What calls of the functions come to is what the specification gives.
use Rattle.std.proofs.Common.{◌≡◌, ℕ, List, Option, None, Result, Ok, Err, refl, sym, subst}
use Rattle.std.specs.Prelude.{IfOk}
use Rattle.tis_grid.specs.Puzzle.{Puzzle, IsPuzzle, puzzle_of}
use Rattle.tis_grid.specs.declared.puzzle.Puzzle as held
use Rattle.lua_machine.specs.Tree.{ItemNode}
use Rattle.lua_machine.specs.Value as lua
use Rattle.lua_machine.specs.declared.error.LuaError.{LuaError}
use Rattle.lua_machine.specs.declared.error.LuaError.TheVariants as fault
use Rattle.lua_machine.specs.Answer.{PlainValue, Answers}
use Rattle.lua_call.specs.Calls.{Fails}
use Rattle.tis_puzzle.specs.declared.error.Wanted.{Wanted}
use Rattle.tis_puzzle.specs.declared.error.Wanted.TheVariants.{Streams, Layout}
use Rattle.tis_puzzle.specs.declared.error.PuzzleError.{PuzzleError}
use Rattle.tis_puzzle.specs.declared.error.PuzzleError.TheVariants as error
use Rattle.tis_puzzle.specs.Entries as entries
use Rattle.tis_puzzle.specs.Answering.{RefusesEntry}
use Rattle.tis_puzzle.specs.LuaPuzzle.{called, Given, Faulted, Spent, ComesTo, Refusal, BadEntry, ports_or, ports_from, on_layout, WithPorts, WithFunctions, LuaPuzzle, missing}
use Rattle.tis_puzzle.proofs.LuaPuzzles.{specifications_give_puzzles}
use Rattle.tis_puzzle.specs.Calling.{FaultComes, call_error, RefusesCall, FaultRefuses, RefusesPuzzle, AnswersPuzzle}

-- ---- one answer in place of another

fault_stays : (P Q : Result Puzzle Refusal → Type 0) → ((answer : Result Puzzle Refusal) → P answer → Q answer) → (which : Wanted) (why : LuaError) → FaultRefuses which why P → FaultRefuses which why Q
fault_stays P Q goes which (fault.TypeFault line) is = goes _ is
fault_stays P Q goes which (fault.UnknownName line) is = goes _ is
fault_stays P Q goes which (fault.Inexact line) is = goes _ is
fault_stays P Q goes which (fault.OutOfRange line) is = goes _ is
fault_stays P Q goes which (fault.LongString line) is = goes _ is
fault_stays P Q goes which (fault.TooDeepCalls line) is = goes _ is
fault_stays P Q goes which fault.Budget is = goes _ is
fault_stays P Q goes which fault.NoMemory is = is

pub refusal_stays : (P Q : Result Puzzle Refusal → Type 0) → ((answer : Result Puzzle Refusal) → P answer → Q answer) → (why : PuzzleError) → RefusesPuzzle why P → RefusesPuzzle why Q
refusal_stays P Q goes (error.NoFunction which) is = goes _ is
refusal_stays P Q goes (error.Lua which why) is = fault_stays P Q goes which why is
refusal_stays P Q goes (error.BadStreams index) is = goes _ is
refusal_stays P Q goes (error.SamePlace index) is = goes _ is
refusal_stays P Q goes (error.BadLayout index) is = goes _ is
refusal_stays P Q goes error.NoMemory is = tt

-- what answers the one answers the other
answer_stays : (P Q : Result Puzzle Refusal → Type 0) → ((answer : Result Puzzle Refusal) → P answer → Q answer) → (result : Result held.Puzzle PuzzleError) → AnswersPuzzle result P → AnswersPuzzle result Q
answer_stays P Q goes (Ok made) is = goes _ is
answer_stays P Q goes (Err why) is = refusal_stays P Q goes why is

module _ (chunk : List ItemNode) (seed : ℕ) where
  -- ---- a call

  -- the value that a call gives
  pub value_comes : (wanted : Wanted) (name : List ℕ) (value : PlainValue) (cost : ℕ) → name ≡ called wanted → Answers chunk name seed (Ok value) cost → ComesTo chunk seed wanted (Given value)
  value_comes wanted name value cost is answers = (cost, subst (λ (n : List ℕ). Answers chunk n seed (Ok value) cost) is answers)

  fault_comes : (wanted : Wanted) (why : LuaError) → Fails why chunk (called wanted) seed → RefusesCall (call_error wanted why) wanted (ComesTo chunk seed wanted)
  fault_comes wanted (fault.TypeFault line) fails = (refl, fails)
  fault_comes wanted (fault.UnknownName line) fails = (refl, fails)
  fault_comes wanted (fault.Inexact line) fails = (refl, fails)
  fault_comes wanted (fault.OutOfRange line) fails = (refl, fails)
  fault_comes wanted (fault.LongString line) fails = (refl, fails)
  fault_comes wanted (fault.TooDeepCalls line) fails = (refl, fails)
  fault_comes wanted fault.Budget fails = (refl, fails)
  fault_comes wanted fault.NoMemory fails = tt

  -- and its fault
  pub call_refused : (wanted : Wanted) (name : List ℕ) (why : LuaError) (held : PuzzleError) → name ≡ called wanted → held ≡ call_error wanted why → Fails why chunk name seed → RefusesCall held wanted (ComesTo chunk seed wanted)
  call_refused wanted name why held is held_is fails =
      subst (λ (h : PuzzleError). RefusesCall h wanted (ComesTo chunk seed wanted)) (sym held_is) (fault_comes wanted why (subst (λ (n : List ℕ). Fails why chunk n seed) is fails))

  -- ---- get_layout

  layout_faults : (ports : Puzzle) (why : LuaError) → FaultComes why (ComesTo chunk seed Layout) → FaultRefuses Layout why (WithPorts chunk seed (Ok ports))
  layout_faults ports (fault.TypeFault line) comes = (Faulted (lua.TypeFault line), comes, refl)
  layout_faults ports (fault.UnknownName line) comes = (Faulted (lua.UnknownName line), comes, refl)
  layout_faults ports (fault.Inexact line) comes = (Faulted (lua.Inexact line), comes, refl)
  layout_faults ports (fault.OutOfRange line) comes = (Faulted (lua.OutOfRange line), comes, refl)
  layout_faults ports (fault.LongString line) comes = (Faulted (lua.LongString line), comes, refl)
  layout_faults ports (fault.TooDeepCalls line) comes = (Faulted (lua.TooDeepCalls line), comes, refl)
  layout_faults ports fault.Budget comes = (Spent, comes, refl)
  layout_faults ports fault.NoMemory comes = comes

  pub layout_refused : (ports : Puzzle) (why : PuzzleError) → RefusesCall why Layout (ComesTo chunk seed Layout) → RefusesPuzzle why (WithPorts chunk seed (Ok ports))
  layout_refused ports (error.Lua which why) is = subst (λ (n : Wanted). FaultRefuses n why (WithPorts chunk seed (Ok ports))) (sym is.0) (layout_faults ports why is.1)
  layout_refused ports error.NoMemory is = tt
  layout_refused ports (error.NoFunction which) is = absurd is
  layout_refused ports (error.BadStreams index) is = absurd is
  layout_refused ports (error.SamePlace index) is = absurd is
  layout_refused ports (error.BadLayout index) is = absurd is

  pub layout_given : (ports : Puzzle) (value : PlainValue) (result : Result held.Puzzle PuzzleError) → ComesTo chunk seed Layout (Given value) → AnswersPuzzle result (λ answer. answer ≡ on_layout ports (Given value)) →
      AnswersPuzzle result (WithPorts chunk seed (Ok ports))
  layout_given ports value result comes is = answer_stays (λ answer. answer ≡ on_layout ports (Given value)) (WithPorts chunk seed (Ok ports)) (λ answer same. (Given value, comes, same)) result is

  -- ---- get_streams

  -- the first wrong entry
  pub entry_refused : (why : PuzzleError) (ports : Result Puzzle entries.Refusal) → RefusesEntry why ports → RefusesPuzzle why (WithPorts chunk seed (ports_or ports))
  entry_refused (error.BadStreams index) ports is = subst (λ (p : Result Puzzle entries.Refusal). WithPorts chunk seed (ports_or p) (Err (BadEntry (entries.BadStreams index)))) (sym is) refl
  entry_refused (error.SamePlace index) ports is = subst (λ (p : Result Puzzle entries.Refusal). WithPorts chunk seed (ports_or p) (Err (BadEntry (entries.SamePlace index)))) (sym is) refl
  entry_refused error.NoMemory ports is = tt
  entry_refused (error.NoFunction which) ports is = absurd is
  entry_refused (error.Lua which why) ports is = absurd is
  entry_refused (error.BadLayout index) ports is = absurd is

  streams_fault : (why : LuaError) → FaultComes why (ComesTo chunk seed Streams) → FaultRefuses Streams why (WithFunctions chunk seed None)
  streams_fault (fault.TypeFault line) comes = (Faulted (lua.TypeFault line), comes, refl)
  streams_fault (fault.UnknownName line) comes = (Faulted (lua.UnknownName line), comes, refl)
  streams_fault (fault.Inexact line) comes = (Faulted (lua.Inexact line), comes, refl)
  streams_fault (fault.OutOfRange line) comes = (Faulted (lua.OutOfRange line), comes, refl)
  streams_fault (fault.LongString line) comes = (Faulted (lua.LongString line), comes, refl)
  streams_fault (fault.TooDeepCalls line) comes = (Faulted (lua.TooDeepCalls line), comes, refl)
  streams_fault fault.Budget comes = (Spent, comes, refl)
  streams_fault fault.NoMemory comes = comes

  pub streams_refused : (why : PuzzleError) → RefusesCall why Streams (ComesTo chunk seed Streams) → RefusesPuzzle why (WithFunctions chunk seed None)
  streams_refused (error.Lua which why) is = subst (λ (n : Wanted). FaultRefuses n why (WithFunctions chunk seed None)) (sym is.0) (streams_fault why is.1)
  streams_refused error.NoMemory is = tt
  streams_refused (error.NoFunction which) is = absurd is
  streams_refused (error.BadStreams index) is = absurd is
  streams_refused (error.SamePlace index) is = absurd is
  streams_refused (error.BadLayout index) is = absurd is

  pub streams_given : (value : PlainValue) (result : Result held.Puzzle PuzzleError) → ComesTo chunk seed Streams (Given value) → AnswersPuzzle result (WithPorts chunk seed (ports_from (Given value))) →
      AnswersPuzzle result (WithFunctions chunk seed None)
  streams_given value result comes is = answer_stays (WithPorts chunk seed (ports_from (Given value))) (WithFunctions chunk seed None) (λ answer with_ports. (Given value, comes, with_ports)) result is

  -- ---- the whole

  -- what is given where no function is missing is what the specification gives
  pub whole_given : (gap : Option Wanted) → gap ≡ missing chunk → (result : Result held.Puzzle PuzzleError) → AnswersPuzzle result (WithFunctions chunk seed gap) → AnswersPuzzle result (LuaPuzzle chunk seed)
  whole_given gap is result answers = subst (λ (g : Option Wanted). AnswersPuzzle result (WithFunctions chunk seed g)) is answers

  pub is_puzzle : (result : Result held.Puzzle PuzzleError) → AnswersPuzzle result (LuaPuzzle chunk seed) → IfOk result (λ made. IsPuzzle (puzzle_of made))
  is_puzzle (Ok made) answers = specifications_give_puzzles chunk seed (puzzle_of made) answers
  is_puzzle (Err why) answers = tt
