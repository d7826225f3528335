-- A specification that gives no puzzle stops the command.
use Rattle.std.proofs.Common.{◌≡◌, ℕ, List, Result, Ok, Err, ap}
use Rattle.lua_syntax.specs.Refusal as chunk
use Rattle.lua_syntax.specs.declared.error.LuaSyntax.TheVariants as held_chunk
use Rattle.lua_machine.specs.Value as fault
use Rattle.lua_machine.specs.declared.error.LuaError.{LuaError}
use Rattle.lua_machine.specs.declared.error.LuaError.TheVariants as held_fault
use Rattle.tis_grid.specs.Puzzle.{Puzzle}
use Rattle.tis_grid_text.specs.GridText as text
use Rattle.tis_grid_text.specs.declared.error.GridTextError.TheVariants as held_grid
use Rattle.tis_puzzle.specs.declared.error.Wanted.{Wanted}
use Rattle.tis_puzzle.specs.declared.error.PuzzleError.{PuzzleError}
use Rattle.tis_puzzle.specs.declared.error.PuzzleError.TheVariants as held_puzzle
use Rattle.tis_puzzle.specs.Entries as entry
use Rattle.tis_puzzle.specs.LuaPuzzle as puzzle
use Rattle.tis_puzzle.specs.Calling.{FaultRefuses, RefusesPuzzle}
use Rattle.tis_spec.specs.declared.error.SpecError.{SpecError}
use Rattle.tis_spec.specs.declared.error.SpecError.TheVariants as held_spec
use Rattle.tis_spec.specs.Specification.{Refusal, NoGrid, NoChunk, NoPuzzle, refused_by, Specifies}
use Rattle.tis_spec.specs.Answering.{RefusesSpec}
use Rattle.tis_spec.proofs.Given.{each_gives_one}
use Rattle.tis_cli.specs.Answers.{Answer}
use Rattle.tis_cli.specs.Runs.{over_given}
use Rattle.tis_cli.specs.Ends.{Stops}
use Rattle.tis_cli.specs.Statuses.{puzzle_status, spec_status}

module _ (bytes : List ℕ) (seed : ℕ) (given : Result Puzzle Refusal) (gives : Specifies bytes seed given) (next : Puzzle → Answer) where
  -- what is given is what the specification gives
  pub is_given : (other : Result Puzzle Refusal) → Specifies bytes seed other → over_given given next ≡ over_given other next
  is_given other also = ap (λ (g : Result Puzzle Refusal). over_given g next) (each_gives_one bytes seed given other gives also)

  fault_stops : (which : Wanted) (why : LuaError) → FaultRefuses which why (λ read. Specifies bytes seed (refused_by NoPuzzle read)) → Stops (puzzle_status (held_puzzle.Lua which why)) (over_given given next)
  fault_stops which (held_fault.TypeFault line) is = is_given (Err (NoPuzzle (puzzle.Fails which (fault.TypeFault line)))) is
  fault_stops which (held_fault.UnknownName line) is = is_given (Err (NoPuzzle (puzzle.Fails which (fault.UnknownName line)))) is
  fault_stops which (held_fault.Inexact line) is = is_given (Err (NoPuzzle (puzzle.Fails which (fault.Inexact line)))) is
  fault_stops which (held_fault.OutOfRange line) is = is_given (Err (NoPuzzle (puzzle.Fails which (fault.OutOfRange line)))) is
  fault_stops which (held_fault.LongString line) is = is_given (Err (NoPuzzle (puzzle.Fails which (fault.LongString line)))) is
  fault_stops which (held_fault.TooDeepCalls line) is = is_given (Err (NoPuzzle (puzzle.Fails which (fault.TooDeepCalls line)))) is
  fault_stops which held_fault.Budget is = is_given (Err (NoPuzzle (puzzle.RunsOutOfUnits which))) is
  fault_stops which held_fault.NoMemory is = absurd is

  puzzle_stops : (why : PuzzleError) → RefusesPuzzle why (λ read. Specifies bytes seed (refused_by NoPuzzle read)) → Stops (puzzle_status why) (over_given given next)
  puzzle_stops (held_puzzle.NoFunction which) is = is_given (Err (NoPuzzle (puzzle.NoFunction which))) is
  puzzle_stops (held_puzzle.Lua which why) is = fault_stops which why is
  puzzle_stops (held_puzzle.BadStreams index) is = is_given (Err (NoPuzzle (puzzle.BadEntry (entry.BadStreams index)))) is
  puzzle_stops (held_puzzle.SamePlace index) is = is_given (Err (NoPuzzle (puzzle.BadEntry (entry.SamePlace index)))) is
  puzzle_stops (held_puzzle.BadLayout index) is = is_given (Err (NoPuzzle (puzzle.BadLayout index))) is
  puzzle_stops held_puzzle.NoMemory is = tt

  pub spec_stops : (why : SpecError) → RefusesSpec why (Specifies bytes seed) → Stops (spec_status why) (over_given given next)
  spec_stops (held_spec.Grid (held_grid.BadLine line)) is = is_given (Err (NoGrid (text.BadLine line))) is
  spec_stops (held_spec.Grid (held_grid.SamePlace line)) is = is_given (Err (NoGrid (text.SamePlace line))) is
  spec_stops (held_spec.Grid held_grid.NoMemory) is = tt
  spec_stops (held_spec.Syntax (held_chunk.Syntax line)) is = is_given (Err (NoChunk (chunk.Syntax line))) is
  spec_stops (held_spec.Syntax (held_chunk.TooDeep line)) is = is_given (Err (NoChunk (chunk.TooDeep line))) is
  spec_stops (held_spec.Syntax held_chunk.NoMemory) is = tt
  spec_stops (held_spec.Puzzle why) is = puzzle_stops why is
