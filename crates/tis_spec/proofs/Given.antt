-- What specifications give.
use Rattle.std.proofs.Common.{◌≡◌, ℕ, Bool, true, false, List, Result, Ok, Err, refl, sym, ap, ◌∙◌, subst, IsTrue}
use Rattle.std.specs.Prelude.{MatchBool}
use Rattle.lua_tree.specs.declared.tree.Item.{Item}
use Rattle.lua_machine.specs.Tree.{items_of}
use Rattle.lua_syntax.specs.Refusal.{LuaRefusal}
use Rattle.lua_syntax.specs.Reading.{tree_of}
use Rattle.tis_grid.specs.Puzzle.{Puzzle, IsPuzzle}
use Rattle.tis_grid_text.specs.GridText as text
use Rattle.tis_grid_text.specs.GridText.{is_grid_text, grid_of}
use Rattle.tis_grid_text.proofs.Puzzles.{grids_are_puzzles}
use Rattle.tis_grid_text.proofs.Heads.{grids_have_heads}
use Rattle.tis_puzzle.specs.LuaPuzzle as lua
use Rattle.tis_puzzle.proofs.LuaPuzzles.{each_has_a_puzzle_or_none, one_puzzle, specifications_give_puzzles}
use Rattle.tis_spec.specs.Specification.{Refusal, NoGrid, NoChunk, NoPuzzle, refused_by, ChunkGives, Specifies}
use Rattle.tis_spec.specs.Laws.{EachGives, EachGivesOne, GivenArePuzzles, GridsAreGiven}

-- ---- there is an answer

chunk_gives : (tree : Result (List Item) LuaRefusal) (seed : ℕ) → (given : Result Puzzle Refusal) × ChunkGives tree seed given
chunk_gives (Ok items) seed = let puzzle = each_has_a_puzzle_or_none (items_of items) seed in (refused_by NoPuzzle puzzle.0, (puzzle.0, puzzle.1, refl))
chunk_gives (Err why) seed = (Err (NoChunk why), refl)

by_kind : (grid : Bool) (read : Result Puzzle text.Refusal) (tree : Result (List Item) LuaRefusal) (seed : ℕ) → (given : Result Puzzle Refusal) × MatchBool grid (given ≡ refused_by NoGrid read) (ChunkGives tree seed given)
by_kind true read tree seed = (refused_by NoGrid read, refl)
by_kind false read tree seed = chunk_gives tree seed

pub each_gives : EachGives
each_gives text seed = by_kind (is_grid_text text) (grid_of text) (tree_of text) seed

-- ---- and one alone

chunk_gives_one : (tree : Result (List Item) LuaRefusal) (seed : ℕ) (one other : Result Puzzle Refusal) → ChunkGives tree seed one → ChunkGives tree seed other → one ≡ other
chunk_gives_one (Ok items) seed one other (a, p, is) (b, q, also) = is ∙ ap (refused_by NoPuzzle) (one_puzzle (items_of items) seed a b p q) ∙ sym also
chunk_gives_one (Err why) seed one other is also = is ∙ sym also

one_by_kind : (grid : Bool) (read : Result Puzzle text.Refusal) (tree : Result (List Item) LuaRefusal) (seed : ℕ) (one other : Result Puzzle Refusal) →
    MatchBool grid (one ≡ refused_by NoGrid read) (ChunkGives tree seed one) → MatchBool grid (other ≡ refused_by NoGrid read) (ChunkGives tree seed other) → one ≡ other
one_by_kind true read tree seed one other is also = is ∙ sym also
one_by_kind false read tree seed one other is also = chunk_gives_one tree seed one other is also

pub each_gives_one : EachGivesOne
each_gives_one text seed one other is also = one_by_kind (is_grid_text text) (grid_of text) (tree_of text) seed one other is also

-- ---- it is a puzzle

-- what is told as of a specification was given
given_by : {R : Type 0} (cause : R → Refusal) (read : Result Puzzle R) (puzzle : Puzzle) → Ok puzzle ≡ refused_by cause read → read ≡ Ok puzzle
given_by cause (Ok other) puzzle is = cc
given_by cause (Err why) puzzle is = absurd cc

chunk_makes : (tree : Result (List Item) LuaRefusal) (seed : ℕ) (puzzle : Puzzle) → ChunkGives tree seed (Ok puzzle) → IsPuzzle puzzle
chunk_makes (Ok items) seed puzzle (read, gives, is) = specifications_give_puzzles (items_of items) seed puzzle (subst (λ (r : Result Puzzle lua.Refusal). lua.LuaPuzzle (items_of items) seed r) (given_by NoPuzzle read puzzle is) gives)
chunk_makes (Err why) seed puzzle is = absurd cc

makes_by_kind : (grid : Bool) (text : List ℕ) (seed : ℕ) (puzzle : Puzzle) → MatchBool grid (Ok puzzle ≡ refused_by NoGrid (grid_of text)) (ChunkGives (tree_of text) seed (Ok puzzle)) → IsPuzzle puzzle
makes_by_kind true text seed puzzle is = grids_are_puzzles text puzzle (given_by NoGrid (grid_of text) puzzle is)
makes_by_kind false text seed puzzle is = chunk_makes (tree_of text) seed puzzle is

pub given_are_puzzles : GivenArePuzzles
given_are_puzzles text seed puzzle is = makes_by_kind (is_grid_text text) text seed puzzle is

-- ---- a grid text gives its grid

as_grid : (grid : Bool) (given : Result Puzzle Refusal) (read : Result Puzzle text.Refusal) (Other : Type 0) → IsTrue grid → given ≡ refused_by NoGrid read → MatchBool grid (given ≡ refused_by NoGrid read) Other
as_grid true given read Other so is = is
as_grid false given read Other so is = absurd cc

pub grids_are_given : GridsAreGiven
grids_are_given text seed puzzle is =
    as_grid (is_grid_text text) (Ok puzzle) (grid_of text) (ChunkGives (tree_of text) seed (Ok puzzle)) (grids_have_heads text puzzle is) (sym (ap (refused_by NoGrid) is))
