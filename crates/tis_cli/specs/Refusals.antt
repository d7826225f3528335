-- Refusals of saves, grid texts and specifications, as they are held.
use Rattle.tis_asm.specs.declared.error.AsmError.{AsmError}
use Rattle.tis_asm.specs.declared.error.AsmError.TheVariants as code
use Rattle.tis_asm.specs.Assembling as asm
use Rattle.tis_save.specs.declared.error.SaveError.{SaveError}
use Rattle.tis_save.specs.declared.error.SaveError.TheVariants as held_save
use Rattle.tis_save.specs.Reading as save
use Rattle.tis_grid_text.specs.declared.error.GridTextError.{GridTextError}
use Rattle.tis_grid_text.specs.declared.error.GridTextError.TheVariants as held_grid
use Rattle.tis_grid_text.specs.GridText as text
use Rattle.lua_syntax.specs.declared.error.LuaSyntax.{LuaSyntax}
use Rattle.lua_syntax.specs.declared.error.LuaSyntax.TheVariants as held_chunk
use Rattle.lua_syntax.specs.Refusal as chunk
use Rattle.lua_machine.specs.declared.error.LuaError.{LuaError}
use Rattle.lua_machine.specs.declared.error.LuaError.TheVariants as held_fault
use Rattle.lua_machine.specs.Value as fault
use Rattle.tis_puzzle.specs.declared.error.PuzzleError.{PuzzleError}
use Rattle.tis_puzzle.specs.declared.error.PuzzleError.TheVariants as held_puzzle
use Rattle.tis_puzzle.specs.Entries as entry
use Rattle.tis_puzzle.specs.LuaPuzzle as puzzle
use Rattle.tis_spec.specs.Specification as spec
use Rattle.tis_cli.specs.declared.status.Refusal.{Refusal}
use Rattle.tis_cli.specs.declared.status.Refusal.TheVariants.{Grid, Syntax, Puzzle}

abbrev pub asm_error : asm.AsmRefusal → AsmError
asm_error asm.TooManyLines = code.TooManyLines
asm_error (asm.LongLine line) = code.LongLine line
asm_error (asm.BadLine line) = code.BadLine line
asm_error (asm.RepeatedLabel line) = code.RepeatedLabel line
asm_error (asm.UnknownLabel line) = code.UnknownLabel line

abbrev pub save_error : save.SaveRefusal → SaveError
save_error (save.BadHead line) = held_save.BadHead line
save_error (save.UnknownBlock line) = held_save.UnknownBlock line
save_error (save.RepeatedBlock line) = held_save.RepeatedBlock line
save_error (save.StrayCode line) = held_save.StrayCode line
save_error (save.Asm block refusal) = held_save.Asm block (asm_error refusal)

abbrev pub grid_error : text.Refusal → GridTextError
grid_error (text.BadLine line) = held_grid.BadLine line
grid_error (text.SamePlace line) = held_grid.SamePlace line

abbrev pub chunk_error : chunk.LuaRefusal → LuaSyntax
chunk_error (chunk.Syntax line) = held_chunk.Syntax line
chunk_error (chunk.TooDeep line) = held_chunk.TooDeep line

abbrev pub fault_error : fault.Fault → LuaError
fault_error (fault.TypeFault line) = held_fault.TypeFault line
fault_error (fault.UnknownName line) = held_fault.UnknownName line
fault_error (fault.Inexact line) = held_fault.Inexact line
fault_error (fault.OutOfRange line) = held_fault.OutOfRange line
fault_error (fault.LongString line) = held_fault.LongString line
fault_error (fault.TooDeepCalls line) = held_fault.TooDeepCalls line

abbrev pub entry_error : entry.Refusal → PuzzleError
entry_error (entry.BadStreams index) = held_puzzle.BadStreams index
entry_error (entry.SamePlace index) = held_puzzle.SamePlace index

abbrev pub puzzle_error : puzzle.Refusal → PuzzleError
puzzle_error (puzzle.NoFunction which) = held_puzzle.NoFunction which
puzzle_error (puzzle.Fails which why) = held_puzzle.Lua which (fault_error why)
puzzle_error (puzzle.RunsOutOfUnits which) = held_puzzle.Lua which held_fault.Budget
puzzle_error (puzzle.BadEntry why) = entry_error why
puzzle_error (puzzle.BadLayout index) = held_puzzle.BadLayout index

-- why a specification has no puzzle: what begins as a grid text is none, the text is no chunk, or the chunk gives no puzzle
abbrev pub spec_refusal : spec.Refusal → Refusal
spec_refusal (spec.NoGrid why) = Grid (grid_error why)
spec_refusal (spec.NoChunk why) = Syntax (chunk_error why)
spec_refusal (spec.NoPuzzle why) = Puzzle (puzzle_error why)
