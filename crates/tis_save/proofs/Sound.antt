-- What a save gives are programs, each of which is sound.
use Rattle.std.proofs.Common.{◌≡◌, ℕ, zero, suc, ◌<◌, ◌≤◌, true, false, inl, inr, List, [], ◌∷◌, map, length, get_or, refl, sym, subst, arith}
use Rattle.std.specs.Prelude.{Option, Some, None, Result, Ok, Err, slice_get, nat_lt, ◌==◌}
use Rattle.std.specs.List.{range_with_len}
use Rattle.std.proofs.lemmas.List.{get_or_past}
use Rattle.std.proofs.lemmas.List.FromFn.{length-map-range_with_len, get_or-map-range_with_len}
use Rattle.std.proofs.lemmas.Bool.{cond_both, cases_Bool}
use Rattle.std.proofs.lemmas.Bool.Decides.{nat_tests}
use Rattle.tis_base.specs.declared.tiles.TileKind.{TileKind}
use Rattle.tis_base.specs.declared.tiles.TileKind.TheVariants.{Compute, Memory, Damaged}
use Rattle.tis_base.specs.Lines.{text_lines}
use Rattle.tis_base.specs.Tiles.{Tiles, is_compute, block_of}
use Rattle.tis_asm.specs.declared.program.MarkedInstr.{MarkedInstr}
use Rattle.tis_asm.specs.Programs.{Programs, program_at}
use Rattle.tis_asm.specs.Assembling.{AsmRefusal, assembled_lines}
use Rattle.tis_asm.specs.Soundness.{IsWhole}
use Rattle.tis_asm.proofs.Soundness.{assembled_are_whole}
use Rattle.tis_save.specs.Reading.{SaveRefusal, Block, BlockProgram, with_block, block_programs, blocks_of, program_in, computes, compute_count, first_fault, program_on, programs_where, save_of}
use Rattle.tis_save.specs.Soundness.{AreSound, SavesAreSound}

abbrev AllWhole : List BlockProgram → Type 0
AllWhole [] = Unit {0}
AllWhole (block ∷ blocks) = IsWhole block.program × AllWhole blocks

abbrev Gets : {X : Type 0} → (X → Type 0) → Result X SaveRefusal → Type 0
Gets P (Err refusal) = Unit {0}
Gets P (Ok x) = P x

with_whole : (number : ℕ) (read : Result (List MarkedInstr) AsmRefusal) (rest : Result (List BlockProgram) SaveRefusal) → ((program : List MarkedInstr) → read ≡ Ok program → IsWhole program) → Gets AllWhole rest → Gets AllWhole (with_block number read rest)
with_whole number (Err refusal) rest whole are = tt
with_whole number (Ok program) (Err refusal) whole are = tt
with_whole number (Ok program) (Ok blocks) whole are = (whole program refl, are)

-- each block has a program
blocks_whole : (blocks : List Block) → Gets AllWhole (block_programs blocks)
blocks_whole [] = tt
blocks_whole (block ∷ blocks) = with_whole block.number (assembled_lines block.lines) (block_programs blocks) (assembled_are_whole block.lines) (blocks_whole blocks)

empty_whole : IsWhole []
empty_whole = record { short = omega arith; values = tt; sound = tt }

in_whole : (blocks : List BlockProgram) (number : ℕ) → AllWhole blocks → IsWhole (program_in blocks number)
in_whole [] number are = empty_whole
in_whole (block ∷ blocks) number are = cond_both (block.number == number) block.program (program_in blocks number) (λ (p : List MarkedInstr). IsWhole p) (λ is. are.0) (λ is. in_whole blocks number are.1)

on_whole : (tiles : Tiles) (blocks : List BlockProgram) (tile : ℕ) → AllWhole blocks → IsWhole (program_on tiles blocks tile)
on_whole tiles blocks tile are = cond_both (computes tiles tile) (program_in blocks (block_of tiles tile)) [] (λ (p : List MarkedInstr). IsWhole p) (λ is. in_whole blocks (block_of tiles tile) are) (λ is. empty_whole)

-- a tile that computes is a compute tile
compute_there : (kinds : List TileKind) (tile : ℕ) → is_compute (get_or kinds tile Damaged) ≡ true → slice_get kinds tile ≡ Some Compute
compute_there [] tile is = absurd cc
compute_there (Compute ∷ kinds) zero is = refl
compute_there (Memory ∷ kinds) zero is = absurd cc
compute_there (Damaged ∷ kinds) zero is = absurd cc
compute_there (kind ∷ kinds) (suc tile) is = compute_there kinds tile is

-- what holds of the empty program and of that of a tile holds of what stands at it
at_tile : (f : ℕ → List MarkedInstr) (count tile : ℕ) (P : List MarkedInstr → Type 0) → P [] → P (f tile) → P (program_at (map f (range_with_len 0 count)) tile)
at_tile f count tile P none some =
    elim (cases_Bool (nat_lt tile count)) [
      | inl inside ↦ subst P (sym (get_or-map-range_with_len f 0 count tile tile [] (below tile count inside) (omega arith))) some
      | inr past ↦ subst P (sym (get_or_past (map f (range_with_len 0 count)) tile [] (over tile count past))) none
    ]
  where
    below : (a b : ℕ) → nat_lt a b ≡ true → a < b
    below a b is = grind (arith, nat_tests)

    above : (a b : ℕ) → nat_lt a b ≡ false → b ≤ a
    above a b is = grind (arith, nat_tests)

    over : (a b : ℕ) → nat_lt a b ≡ false → length (map f (range_with_len 0 b)) ≤ a
    over a b is = subst (λ (n : ℕ). n ≤ a) (sym (length-map-range_with_len f 0 b)) (above a b is)

given_sound : (tiles : Tiles) (blocks : List BlockProgram) → AllWhole blocks → AreSound tiles (record { tiles = tiles; programs = map (program_on tiles blocks) (range_with_len 0 (length tiles.kinds)) })
given_sound tiles blocks are = record {
  tiles_are = refl;
  are = record {
    one_each = length-map-range_with_len (program_on tiles blocks) 0 (length tiles.kinds);
    short = λ tile. (whole tile).short;
    values = λ tile. (whole tile).values;
    elsewhere = λ tile other. at_tile (program_on tiles blocks) (length tiles.kinds) tile (λ p. p ≡ []) refl (cond_both (computes tiles tile) (program_in blocks (block_of tiles tile)) [] (λ (p : List MarkedInstr). p ≡ []) (λ is. absurd (other (compute_there tiles.kinds tile is))) (λ is. refl));
  };
  sound = λ tile. (whole tile).sound;
}
  where
    whole : (tile : ℕ) → IsWhole (program_at (map (program_on tiles blocks) (range_with_len 0 (length tiles.kinds))) tile)
    whole tile = at_tile (program_on tiles blocks) (length tiles.kinds) tile (λ p. IsWhole p) empty_whole (on_whole tiles blocks tile are)

where_sound : (tiles : Tiles) (fault : Option SaveRefusal) (blocks : Result (List BlockProgram) SaveRefusal) → Gets AllWhole blocks → Gets (AreSound tiles) (programs_where tiles fault blocks)
where_sound tiles (Some fault) blocks are = tt
where_sound tiles None (Err refusal) are = tt
where_sound tiles None (Ok blocks) are = given_sound tiles blocks are

pub saves_are_sound : SavesAreSound
unfolding save_of
saves_are_sound text tiles programs is = subst (λ (r : Result Programs SaveRefusal). Gets (AreSound tiles) r) is (where_sound tiles (first_fault (compute_count tiles) [] 1 (text_lines text)) (block_programs (blocks_of (text_lines text))) (blocks_whole (blocks_of (text_lines text))))
