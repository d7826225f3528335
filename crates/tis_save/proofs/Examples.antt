-- Small saves, read or refused.
use Rattle.std.proofs.Common.{◌≡◌, List, [], ◌∷◌, replicate, false, refl}
use Rattle.std.specs.Prelude.{codes, Ok, Err}
use Rattle.tis_base.specs.Tiles.{Tiles}
use Rattle.tis_base.specs.declared.tiles.TileKind.TheVariants.{Compute, Memory}
use Rattle.tis_asm.specs.declared.instr.Instr.{Instr}
use Rattle.tis_asm.specs.declared.instr.Instr.TheVariants.{Nop, Swp}
use Rattle.tis_asm.specs.declared.program.MarkedInstr.{MarkedInstr}
use Rattle.tis_asm.specs.Assembling.{BadLine}
use Rattle.tis_save.specs.Reading.{BadHead, UnknownBlock, RepeatedBlock, StrayCode, Asm, save_of}

-- two columns and two rows would not be allowed, but show what is read: a stack at the second place
abbrev tiles : Tiles
tiles = record { shape = record { columns = 4; rows = 3 }; kinds = Compute ∷ Memory ∷ replicate 10 Compute }

abbrev one : Instr → List MarkedInstr
one instr = record { instr = instr; mark = false } ∷ []

-- blocks in any order, with blanks behind the digits, code spaced in another way, and no block for some tiles: numbers count compute tiles alone
read_loosely : save_of (codes "\n@001 \t\r\nnop\n@0\n\n  SWP # exchanged\n\n") tiles ≡ Ok (record { tiles = tiles; programs = one Swp ∷ [] ∷ one Nop ∷ replicate 9 [] })
unfolding save_of
read_loosely = refl

-- code on the line of the head
bad_head : save_of (codes "@1NOP\n") tiles ≡ Err (BadHead 1)
unfolding save_of
bad_head = refl

-- four digits, or none
long_head : save_of (codes "@1\n@0002\n") tiles ≡ Err (BadHead 2)
unfolding save_of
long_head = refl

no_number : save_of (codes "@ 1\n") tiles ≡ Err (BadHead 1)
unfolding save_of
no_number = refl

-- eleven tiles compute
unknown_block : save_of (codes "@10\n@11\n") tiles ≡ Err (UnknownBlock 2)
unfolding save_of
unknown_block = refl

-- a head that stands twice, spelled in another way
repeated_block : save_of (codes "@1\nNOP\n\n@01\n") tiles ≡ Err (RepeatedBlock 4)
unfolding save_of
repeated_block = refl

-- code before the first head; a comment isn't blank
stray_code : save_of (codes "\n# x\n@1\n") tiles ≡ Err (StrayCode 2)
unfolding save_of
stray_code = refl

-- lines of a block are counted from its head on, and lines come before code
bad_code : save_of (codes "@2\nFOO\n@1\nNOP\nJUMP\n") tiles ≡ Err (Asm 2 (BadLine 1))
unfolding save_of
bad_code = refl

head_before_code : save_of (codes "@2\nFOO\n@99\n") tiles ≡ Err (UnknownBlock 3)
unfolding save_of
head_before_code = refl
