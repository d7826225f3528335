-- What the readers below answer is what the specification gives.
use Rattle.std.proofs.Common.{◌≡◌, ℕ, Bool, true, false, List, Result, Ok, Err, refl, sym, ap, subst, IsTrue}
use Rattle.std.specs.Prelude.{IfOk, MatchBool}
use Rattle.lua_tree.specs.declared.tree.Item.{Item}
use Rattle.lua_machine.specs.Tree.{items_of}
use Rattle.lua_syntax.specs.Refusal as chunk
use Rattle.lua_syntax.specs.declared.error.LuaSyntax.{LuaSyntax}
use Rattle.lua_syntax.specs.declared.error.LuaSyntax.TheVariants as held_chunk
use Rattle.lua_syntax.specs.Reading.{tree_of}
use Rattle.tis_grid.specs.Puzzle.{Puzzle, IsPuzzle, puzzle_of}
use Rattle.tis_grid.specs.declared.puzzle.Puzzle as held
use Rattle.tis_grid_text.specs.GridText as text
use Rattle.tis_grid_text.specs.GridText.{is_grid_text, grid_of}
use Rattle.tis_grid_text.specs.Answering.{RefusesGrid}
use Rattle.tis_grid_text.specs.declared.error.GridTextError.{GridTextError}
use Rattle.tis_grid_text.specs.declared.error.GridTextError.TheVariants as held_text
use Rattle.tis_puzzle.specs.declared.error.PuzzleError.{PuzzleError}
use Rattle.tis_puzzle.specs.LuaPuzzle as lua
use Rattle.tis_puzzle.specs.Calling.{RefusesPuzzle}
use Rattle.tis_puzzle.proofs.Called.{refusal_stays}
use Rattle.tis_spec.specs.declared.error.SpecError.{SpecError}
use Rattle.tis_spec.specs.declared.error.SpecError.TheVariants as error
use Rattle.tis_spec.specs.Specification.{Refusal, NoGrid, NoChunk, NoPuzzle, refused_by, ChunkGives, Specifies}
use Rattle.tis_spec.specs.Answering.{RefusesSpec, AnswersSpec}
use Rattle.tis_spec.proofs.Given.{given_are_puzzles}

-- ---- a grid text

pub grid_given : (read : Result Puzzle text.Refusal) (puzzle : Puzzle) → read ≡ Ok puzzle → Ok puzzle ≡ refused_by NoGrid read
grid_given read puzzle is = sym (ap (refused_by NoGrid) is)

pub grid_refused : (why : GridTextError) (read : Result Puzzle text.Refusal) → RefusesGrid why read → RefusesSpec (error.Grid why) (λ given. given ≡ refused_by NoGrid read)
grid_refused (held_text.BadLine line) read is = sym (ap (refused_by NoGrid) is)
grid_refused (held_text.SamePlace line) read is = sym (ap (refused_by NoGrid) is)
grid_refused held_text.NoMemory read is = tt

-- ---- a chunk

pub chunk_refused : (why : LuaSyntax) (tree : Result (List Item) chunk.LuaRefusal) (seed : ℕ) → chunk.IsRefused why tree → RefusesSpec (error.Syntax why) (ChunkGives tree seed)
chunk_refused (held_chunk.Syntax line) tree seed is = subst (λ (t : Result (List Item) chunk.LuaRefusal). ChunkGives t seed (Err (NoChunk (chunk.Syntax line)))) (sym is) refl
chunk_refused (held_chunk.TooDeep line) tree seed is = subst (λ (t : Result (List Item) chunk.LuaRefusal). ChunkGives t seed (Err (NoChunk (chunk.TooDeep line)))) (sym is) refl
chunk_refused held_chunk.NoMemory tree seed is = tt

pub puzzle_given : (items : List Item) (seed : ℕ) (puzzle : Puzzle) → lua.LuaPuzzle (items_of items) seed (Ok puzzle) → ChunkGives (Ok items) seed (Ok puzzle)
puzzle_given items seed puzzle gives = (Ok puzzle, gives, refl)

pub puzzle_refused : (items : List Item) (seed : ℕ) (why : PuzzleError) → RefusesPuzzle why (lua.LuaPuzzle (items_of items) seed) → RefusesSpec (error.Puzzle why) (ChunkGives (Ok items) seed)
puzzle_refused items seed why is = refusal_stays (lua.LuaPuzzle (items_of items) seed) (λ puzzle. ChunkGives (Ok items) seed (refused_by NoPuzzle puzzle)) (λ puzzle gives. (puzzle, gives, refl)) why is

-- what a chunk that was read answers
pub chunk_answers : (tree : Result (List Item) chunk.LuaRefusal) (items : List Item) (seed : ℕ) (result : Result held.Puzzle SpecError) → tree ≡ Ok items → AnswersSpec result (ChunkGives (Ok items) seed) → AnswersSpec result (ChunkGives tree seed)
chunk_answers tree items seed result is answers = subst (λ (t : Result (List Item) chunk.LuaRefusal). AnswersSpec result (ChunkGives t seed)) (sym is) answers

-- ---- either

-- what answers the one answers the other
other_stays : (P Q : Result Puzzle Refusal → Type 0) → ((given : Result Puzzle Refusal) → P given → Q given) → (why : SpecError) → RefusesSpec why P → RefusesSpec why Q
other_stays P Q goes (error.Grid (held_text.BadLine line)) is = goes _ is
other_stays P Q goes (error.Grid (held_text.SamePlace line)) is = goes _ is
other_stays P Q goes (error.Grid held_text.NoMemory) is = tt
other_stays P Q goes (error.Syntax (held_chunk.Syntax line)) is = goes _ is
other_stays P Q goes (error.Syntax (held_chunk.TooDeep line)) is = goes _ is
other_stays P Q goes (error.Syntax held_chunk.NoMemory) is = tt
other_stays P Q goes (error.Puzzle why) is = refusal_stays (λ puzzle. P (refused_by NoPuzzle puzzle)) (λ puzzle. Q (refused_by NoPuzzle puzzle)) (λ puzzle. goes (refused_by NoPuzzle puzzle)) why is

answer_stays : (P Q : Result Puzzle Refusal → Type 0) → ((given : Result Puzzle Refusal) → P given → Q given) → (result : Result held.Puzzle SpecError) → AnswersSpec result P → AnswersSpec result Q
answer_stays P Q goes (Ok made) is = goes _ is
answer_stays P Q goes (Err why) is = other_stays P Q goes why is

first_of_two : (b : Bool) (P Q : Type 0) → IsTrue b → P → MatchBool b P Q
first_of_two true P Q so is = is
first_of_two false P Q so is = absurd cc

second_of_two : (b : Bool) (P Q : Type 0) → b ≡ false → Q → MatchBool b P Q
second_of_two true P Q so is = absurd cc
second_of_two false P Q so is = is

pub as_text : (bytes : List ℕ) (seed : ℕ) (result : Result held.Puzzle SpecError) → IsTrue (is_grid_text bytes) → AnswersSpec result (λ given. given ≡ refused_by NoGrid (grid_of bytes)) → AnswersSpec result (Specifies bytes seed)
as_text bytes seed result so answers =
    answer_stays (λ given. given ≡ refused_by NoGrid (grid_of bytes)) (Specifies bytes seed) (λ given is. first_of_two (is_grid_text bytes) (given ≡ refused_by NoGrid (grid_of bytes)) (ChunkGives (tree_of bytes) seed given) so is) result answers

pub as_chunk : (bytes : List ℕ) (seed : ℕ) (result : Result held.Puzzle SpecError) → is_grid_text bytes ≡ false → AnswersSpec result (ChunkGives (tree_of bytes) seed) → AnswersSpec result (Specifies bytes seed)
as_chunk bytes seed result so answers =
    answer_stays (ChunkGives (tree_of bytes) seed) (Specifies bytes seed) (λ given is. second_of_two (is_grid_text bytes) (given ≡ refused_by NoGrid (grid_of bytes)) (ChunkGives (tree_of bytes) seed given) so is) result answers

pub is_puzzle : (bytes : List ℕ) (seed : ℕ) (result : Result held.Puzzle SpecError) → AnswersSpec result (Specifies bytes seed) → IfOk result (λ made. IsPuzzle (puzzle_of made))
is_puzzle bytes seed (Ok made) answers = given_are_puzzles bytes seed (puzzle_of made) answers
is_puzzle bytes seed (Err why) answers = tt
