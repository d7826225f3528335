-- Blocks are read one after the other.
use Rattle.std.specs.Prelude.{ℕ, List, [], ◌∷◌, ◌++◌, map, Option, Some, None, Result, Ok, Err}
use Rattle.tis_asm.specs.declared.program.MarkedInstr.{MarkedInstr}
use Rattle.tis_asm.specs.Assembling.{AsmRefusal}
use Rattle.tis_asm.specs.declared.error.AsmError.{AsmError}
use Rattle.tis_asm.specs.declared.error.AsmError.TheVariants as code
use Rattle.tis_save.specs.declared.block.ReadBlock.{ReadBlock}
use Rattle.tis_save.specs.declared.error.SaveError.{SaveError}
use Rattle.tis_save.specs.declared.error.SaveError.TheVariants as cause
use Rattle.tis_save.specs.Reading.{SaveRefusal, Asm, BlockProgram, with_block}

-- what is seen of a block that was read
abbrev pub block_view : ReadBlock → BlockProgram
block_view block = record { number = block.number; program = block.program }

abbrev pub blocks_view : List ReadBlock → List BlockProgram
blocks_view blocks = map block_view blocks

-- the error of a save whose block has an error in its code; want of memory isn't the block's
abbrev pub error_of_block : ℕ → AsmError → SaveError
error_of_block block code.TooManyLines = cause.Asm block code.TooManyLines
error_of_block block (code.BadLine line) = cause.Asm block (code.BadLine line)
error_of_block block (code.LongLine line) = cause.Asm block (code.LongLine line)
error_of_block block (code.RepeatedLabel line) = cause.Asm block (code.RepeatedLabel line)
error_of_block block (code.UnknownLabel line) = cause.Asm block (code.UnknownLabel line)
error_of_block block code.NoMemory = cause.NoMemory

-- one more block at the end, with what its lines spell; nothing where no block has begun
abbrev pub closed_with : List BlockProgram → ℕ → Result (List MarkedInstr) AsmRefusal → Result (List BlockProgram) SaveRefusal
closed_with blocks number (Err refusal) = Err (Asm number refusal)
closed_with blocks number (Ok program) = Ok (blocks ++ record { number = number; program = program } ∷ [])

abbrev pub closed : List BlockProgram → Option ℕ → Result (List MarkedInstr) AsmRefusal → Result (List BlockProgram) SaveRefusal
closed blocks None read = Ok blocks
closed blocks (Some number) read = closed_with blocks number read

-- these blocks in front of others
abbrev pub in_front : List BlockProgram → Result (List BlockProgram) SaveRefusal → Result (List BlockProgram) SaveRefusal
in_front blocks (Err refusal) = Err refusal
in_front blocks (Ok rest) = Ok (blocks ++ rest)

-- these blocks, one that has begun with what its lines spell, and others
abbrev pub open_blocks : List BlockProgram → Option ℕ → Result (List MarkedInstr) AsmRefusal → Result (List BlockProgram) SaveRefusal → Result (List BlockProgram) SaveRefusal
open_blocks blocks None read rest = in_front blocks rest
open_blocks blocks (Some number) read rest = in_front blocks (with_block number read rest)
