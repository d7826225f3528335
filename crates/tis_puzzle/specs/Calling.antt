-- What is answered where the functions of a specification are called.
use Rattle.std.specs.Prelude.{◌≡◌, Result, Ok, Err}
use Rattle.tis_grid.specs.Puzzle.{Puzzle, puzzle_of}
use Rattle.tis_grid.specs.declared.puzzle.Puzzle as held
use Rattle.lua_machine.specs.Value as lua
use Rattle.lua_machine.specs.declared.error.LuaError.{LuaError}
use Rattle.lua_machine.specs.declared.error.LuaError.TheVariants as fault
use Rattle.lua_plain.specs.declared.plain.Plain.{Plain}
use Rattle.lua_plain.specs.Plain.{plain_view}
use Rattle.tis_puzzle.specs.declared.error.Wanted.{Wanted}
use Rattle.tis_puzzle.specs.declared.error.PuzzleError.{PuzzleError}
use Rattle.tis_puzzle.specs.declared.error.PuzzleError.TheVariants as error
use Rattle.tis_puzzle.specs.Entries as entries
use Rattle.tis_puzzle.specs.LuaPuzzle.{Outcome, Given, Faulted, Spent, Refusal, NoFunction, Fails, RunsOutOfUnits, BadEntry, BadLayout}

-- ---- one call

-- a call comes to this fault, or to no more units
abbrev pub FaultComes : LuaError → (Outcome → Type 0) → Type 0
FaultComes (fault.TypeFault line) Comes = Comes (Faulted (lua.TypeFault line))
FaultComes (fault.UnknownName line) Comes = Comes (Faulted (lua.UnknownName line))
FaultComes (fault.Inexact line) Comes = Comes (Faulted (lua.Inexact line))
FaultComes (fault.OutOfRange line) Comes = Comes (Faulted (lua.OutOfRange line))
FaultComes (fault.LongString line) Comes = Comes (Faulted (lua.LongString line))
FaultComes (fault.TooDeepCalls line) Comes = Comes (Faulted (lua.TooDeepCalls line))
FaultComes fault.Budget Comes = Comes Spent
FaultComes fault.NoMemory Comes = ⊥

-- how a fault of a call of this function is held
abbrev pub call_error : Wanted → LuaError → PuzzleError
call_error wanted (fault.TypeFault line) = error.Lua wanted (fault.TypeFault line)
call_error wanted (fault.UnknownName line) = error.Lua wanted (fault.UnknownName line)
call_error wanted (fault.Inexact line) = error.Lua wanted (fault.Inexact line)
call_error wanted (fault.OutOfRange line) = error.Lua wanted (fault.OutOfRange line)
call_error wanted (fault.LongString line) = error.Lua wanted (fault.LongString line)
call_error wanted (fault.TooDeepCalls line) = error.Lua wanted (fault.TooDeepCalls line)
call_error wanted fault.Budget = error.Lua wanted fault.Budget
call_error wanted fault.NoMemory = error.NoMemory

-- a call of this function is refused by what it comes to; want of memory says nothing
abbrev pub RefusesCall : PuzzleError → Wanted → (Outcome → Type 0) → Type 0
RefusesCall (error.Lua which why) wanted Comes = (which ≡ wanted) × FaultComes why Comes
RefusesCall error.NoMemory wanted Comes = Unit {0}
RefusesCall (error.NoFunction which) wanted Comes = ⊥
RefusesCall (error.BadStreams index) wanted Comes = ⊥
RefusesCall (error.SamePlace index) wanted Comes = ⊥
RefusesCall (error.BadLayout index) wanted Comes = ⊥

-- the value that a call of this function comes to, or its fault
abbrev pub AnswersCall : Result Plain PuzzleError → Wanted → (Outcome → Type 0) → Type 0
AnswersCall (Ok value) wanted Comes = Comes (Given (plain_view value))
AnswersCall (Err why) wanted Comes = RefusesCall why wanted Comes

-- ---- the puzzle

-- there is no puzzle, since a call of the function comes to this fault, or to no more units
abbrev pub FaultRefuses : Wanted → LuaError → (Result Puzzle Refusal → Type 0) → Type 0
FaultRefuses which (fault.TypeFault line) Gives = Gives (Err (Fails which (lua.TypeFault line)))
FaultRefuses which (fault.UnknownName line) Gives = Gives (Err (Fails which (lua.UnknownName line)))
FaultRefuses which (fault.Inexact line) Gives = Gives (Err (Fails which (lua.Inexact line)))
FaultRefuses which (fault.OutOfRange line) Gives = Gives (Err (Fails which (lua.OutOfRange line)))
FaultRefuses which (fault.LongString line) Gives = Gives (Err (Fails which (lua.LongString line)))
FaultRefuses which (fault.TooDeepCalls line) Gives = Gives (Err (Fails which (lua.TooDeepCalls line)))
FaultRefuses which fault.Budget Gives = Gives (Err (RunsOutOfUnits which))
FaultRefuses which fault.NoMemory Gives = ⊥

-- why there is no puzzle; want of memory says nothing
abbrev pub RefusesPuzzle : PuzzleError → (Result Puzzle Refusal → Type 0) → Type 0
RefusesPuzzle (error.NoFunction which) Gives = Gives (Err (NoFunction which))
RefusesPuzzle (error.Lua which why) Gives = FaultRefuses which why Gives
RefusesPuzzle (error.BadStreams index) Gives = Gives (Err (BadEntry (entries.BadStreams index)))
RefusesPuzzle (error.SamePlace index) Gives = Gives (Err (BadEntry (entries.SamePlace index)))
RefusesPuzzle (error.BadLayout index) Gives = Gives (Err (BadLayout index))
RefusesPuzzle error.NoMemory Gives = Unit {0}

-- the puzzle that is given, or why there is none
abbrev pub AnswersPuzzle : Result held.Puzzle PuzzleError → (Result Puzzle Refusal → Type 0) → Type 0
AnswersPuzzle (Ok made) Gives = Gives (Ok (puzzle_of made))
AnswersPuzzle (Err why) Gives = RefusesPuzzle why Gives
