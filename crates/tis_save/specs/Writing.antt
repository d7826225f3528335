-- The canonical save of programs: a block for each compute tile with instructions, in reading order.
use Rattle.std.specs.Prelude.{ℕ, List, [], ◌∷◌, ◌++◌, length, flat_map, decimal}
use Rattle.std.specs.List.{range_with_len}
use Rattle.tis_base.specs.Tiles.{Tiles, block_of}
use Rattle.tis_asm.specs.declared.program.MarkedInstr.{MarkedInstr}
use Rattle.tis_asm.specs.Programs.{Programs, program_at}
use Rattle.tis_asm.specs.Code.{code_text}

-- the line before the block of a tile: `@` and how many compute tiles stand before it
abbrev pub head_of : Tiles → ℕ → List ℕ
head_of tiles tile = 64 ∷ decimal (block_of tiles tile)

-- the block of a tile: its head, its code and an empty line; nothing for the empty program
abbrev pub block_text : List ℕ → List MarkedInstr → List ℕ
block_text head [] = []
block_text head (line ∷ program) = head ++ 10 ∷ (code_text (line ∷ program) ++ 10 ∷ [])

abbrev pub tile_text : Programs → ℕ → List ℕ
tile_text programs tile = block_text (head_of programs.tiles tile) (program_at programs.programs tile)

-- the blocks of all tiles in reading order
abbrev pub save_text : Programs → List ℕ
save_text programs = flat_map (tile_text programs) (range_with_len 0 (length programs.tiles.kinds))
