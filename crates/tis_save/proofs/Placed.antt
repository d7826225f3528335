-- Each tile gets the program of its block, one after the other.
use Rattle.std.proofs.Common.{◌≡◌, ℕ, ◌+◌, ◌<◌, ◌≤◌, Bool, true, false, cond, inl, inr, List, [], length, map, set, refl, sym, ap, subst, ◌∙◌, arith}
use Rattle.std.specs.Prelude.{nat_lt}
use Rattle.std.specs.List.{range_with_len}
use Rattle.std.proofs.lemmas.Bool.{cases_Bool, cases_eq}
use Rattle.std.proofs.lemmas.Bool.Decides.{nat_tests}
use Rattle.std.proofs.lemmas.List.{length-set, get_or-set_same, get_or-set_other, ext_get_or}
use Rattle.std.proofs.lemmas.List.FromFn.{length-map-range_with_len, get_or-map-range_with_len}
use Rattle.tis_base.specs.Tiles.{Tiles, block_of}
use Rattle.tis_asm.specs.declared.program.MarkedInstr.{MarkedInstr}
use Rattle.tis_asm.specs.Programs.{Programs, program_at}
use Rattle.tis_save.specs.Reading.{BlockProgram, computes, program_in, program_on}

-- the tiles before this one have the programs of their blocks, and the others none
abbrev pub ArePlaced : Tiles → List BlockProgram → ℕ → List (List MarkedInstr) → Type 0
ArePlaced tiles blocks number programs = (tile : ℕ) → program_at programs tile ≡ cond (nat_lt tile number) (program_on tiles blocks tile) []

-- the programs with that of one more tile
abbrev pub with_block_at : Tiles → ℕ → List MarkedInstr → List (List MarkedInstr) → List (List MarkedInstr)
with_block_at tiles number program programs = cond (computes tiles number) (set programs number program) programs

pub length-with_block_at : (tiles : Tiles) (number : ℕ) (program : List MarkedInstr) (programs : List (List MarkedInstr)) → length (with_block_at tiles number program programs) ≡ length programs
length-with_block_at tiles number program programs = by_test (computes tiles number)
  where
    by_test : (b : Bool) → length (cond b (set programs number program) programs) ≡ length programs
    by_test true = length-set programs number program
    by_test false = refl

not_yet : (n : ℕ) → nat_lt n n ≡ false
not_yet n = grind (arith, nat_tests)

now : (n : ℕ) → nat_lt n (n + 1) ≡ true
now n = grind (arith, nat_tests)

as_before : (tile n : ℕ) → (tile ≡ n → ⊥) → nat_lt tile n ≡ nat_lt tile (n + 1)
as_before tile n apart = elim (cases_Bool (nat_lt tile n)) [
  | inl before ↦ before ∙ sym (still tile n before)
  | inr behind ↦ behind ∙ sym (not_still tile n apart behind)
]
  where
    still : (a b : ℕ) → nat_lt a b ≡ true → nat_lt a (b + 1) ≡ true
    still a b is = grind (arith, nat_tests)

    not_still : (a b : ℕ) → (a ≡ b → ⊥) → nat_lt a b ≡ false → nat_lt a (b + 1) ≡ false
    not_still a b apart is = grind (arith, nat_tests)

-- one tile more
pub placed_more : (tiles : Tiles) (blocks : List BlockProgram) (number block : ℕ) (programs : List (List MarkedInstr)) → number < length programs → block ≡ block_of tiles number → ArePlaced tiles blocks number programs → ArePlaced tiles blocks (number + 1) (with_block_at tiles number (program_in blocks block) programs)
placed_more tiles blocks number block programs inside block_is are tile = elim (cases_eq tile number) [
  | inl same ↦ subst (λ (t : ℕ). program_at (with_block_at tiles number (program_in blocks block) programs) t ≡ cond (nat_lt t (number + 1)) (program_on tiles blocks t) []) (sym same) (here (computes tiles number) ∙ sym (ap (λ (b : Bool). cond b (program_on tiles blocks number) []) (now number)))
  | inr apart ↦ elsewhere (computes tiles number) apart ∙ are tile ∙ ap (λ (b : Bool). cond b (program_on tiles blocks tile) []) (as_before tile number apart)
]
  where
    here : (b : Bool) → program_at (cond b (set programs number (program_in blocks block)) programs) number ≡ cond b (program_in blocks (block_of tiles number)) []
    here true = get_or-set_same programs number (program_in blocks block) [] inside ∙ ap (program_in blocks) block_is
    here false = are number ∙ ap (λ (b : Bool). cond b (program_on tiles blocks number) []) (not_yet number)

    elsewhere : (b : Bool) → (tile ≡ number → ⊥) → program_at (cond b (set programs number (program_in blocks block)) programs) tile ≡ program_at programs tile
    elsewhere true apart = get_or-set_other programs number tile (program_in blocks block) [] apart
    elsewhere false apart = refl

-- all tiles
pub placed_all : (tiles : Tiles) (blocks : List BlockProgram) (number : ℕ) (programs : Programs) → programs.tiles ≡ tiles → length programs.programs ≡ length tiles.kinds → length tiles.kinds ≤ number → ArePlaced tiles blocks number programs.programs → programs ≡ record { tiles = tiles; programs = map (program_on tiles blocks) (range_with_len 0 (length tiles.kinds)) }
placed_all tiles blocks number programs tiles_is one_each all are =
    let same : programs.programs ≡ map (program_on tiles blocks) (range_with_len 0 (length tiles.kinds)) =
    ext_get_or [] programs.programs (map (program_on tiles blocks) (range_with_len 0 (length tiles.kinds))) (one_each ∙ sym (length-map-range_with_len (program_on tiles blocks) 0 (length tiles.kinds)))
    (λ tile inside. are tile ∙ ap (λ (b : Bool). cond b (program_on tiles blocks tile) []) (below tile number (omega (arith, inside, one_each, all))) ∙ sym (get_or-map-range_with_len (program_on tiles blocks) 0 (length tiles.kinds) tile tile [] (omega (arith, inside, one_each)) (omega arith))) in
    ap (λ (t : Tiles). record { tiles = t; programs = programs.programs }) tiles_is ∙ ap (λ (l : List (List MarkedInstr)). record { tiles = tiles; programs = l }) same
  where
    below : (a b : ℕ) → a < b → nat_lt a b ≡ true
    below a b lt = grind (arith, nat_tests)
