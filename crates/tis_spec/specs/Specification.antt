-- What a specification gives with a seed.
use Rattle.std.specs.Prelude.{◌≡◌, ℕ, List, Result, Ok, Err, MatchBool}
use Rattle.lua_tree.specs.declared.tree.Item.{Item}
use Rattle.lua_machine.specs.Tree.{items_of}
use Rattle.lua_syntax.specs.Refusal.{LuaRefusal}
use Rattle.lua_syntax.specs.Reading.{tree_of}
use Rattle.tis_grid.specs.Puzzle.{Puzzle}
use Rattle.tis_grid_text.specs.GridText as text
use Rattle.tis_grid_text.specs.GridText.{is_grid_text, grid_of}
use Rattle.tis_puzzle.specs.LuaPuzzle as lua
use Rattle.tis_puzzle.specs.LuaPuzzle.{LuaPuzzle}

-- why a specification has no puzzle: a line of a grid text is wrong, or a token of a chunk; or one of the chunk's functions isn't there, faults, or gives what it mustn't
pub data Refusal : Type 0 where
  NoGrid : text.Refusal → Refusal
  NoChunk : LuaRefusal → Refusal
  NoPuzzle : lua.Refusal → Refusal

-- a puzzle, or why there is none, told as of a specification
abbrev pub refused_by : {R : Type 0} → (R → Refusal) → Result Puzzle R → Result Puzzle Refusal
refused_by cause (Ok puzzle) = Ok puzzle
refused_by cause (Err why) = Err (cause why)

-- what the chunk of a text gives with a seed, or why the text is none
abbrev pub ChunkGives : Result (List Item) LuaRefusal → ℕ → Result Puzzle Refusal → Type 0
ChunkGives (Ok items) seed given = (puzzle : Result Puzzle lua.Refusal) × LuaPuzzle (items_of items) seed puzzle × (given ≡ refused_by NoPuzzle puzzle)
ChunkGives (Err why) seed given = given ≡ Err (NoChunk why)

-- a specification gives this with a seed: a grid text its grid, whatever the seed is, and any other text what its chunk gives
abbrev pub Specifies : List ℕ → ℕ → Result Puzzle Refusal → Type 0
Specifies text seed given = MatchBool (is_grid_text text) (given ≡ refused_by NoGrid (grid_of text)) (ChunkGives (tree_of text) seed given)
