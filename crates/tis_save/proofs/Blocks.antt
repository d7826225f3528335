-- The blocks of a save, tile by tile.
use Rattle.std.proofs.Common.{◌≡◌, ℕ, zero, suc, ◌+◌, ◌<◌, ◌≤◌, Bool, true, false, cond, List, [], ◌∷◌, ◌++◌, length, take, get_or, count_by, Some, sym, ap, ◌∙◌, arith, add-one}
use Rattle.std.specs.Prelude.{flat_map, slice_get, decimal}
use Rattle.std.specs.List.{range_with_len}
use Rattle.std.proofs.lemmas.Grind.{flat_map-append}
use Rattle.std.proofs.lemmas.List.{append-nil}
use Rattle.std.proofs.lemmas.List.Sums.{count_by_more_no, count_by_more_yes}
use Rattle.std.proofs.lemmas.Option.{slice_get_within, get_or_from_slice_get}
use Rattle.tis_base.specs.declared.tiles.TileKind.{TileKind}
use Rattle.tis_base.specs.declared.tiles.TileKind.TheVariants.{Damaged}
use Rattle.tis_base.specs.Tiles.{Tiles, is_compute, block_of}
use Rattle.tis_asm.specs.declared.program.MarkedInstr.{MarkedInstr}
use Rattle.tis_asm.specs.Programs.{Programs}
use Rattle.tis_save.specs.Writing.{block_text, tile_text}

range_push : (a n : ℕ) → range_with_len a (suc n) ≡ range_with_len a n ++ (a + n) ∷ []
range_push a zero = ap (λ (x : ℕ). x ∷ []) (omega arith)
range_push a (suc n) =
    ap (λ (xs : List ℕ). a ∷ xs) (range_push (a + 1) n) ∙ ap (λ (x : ℕ). a ∷ (range_with_len (a + 1) n ++ x ∷ [])) (omega arith)

-- what each of one more number gives
pub flat_map-range_more : (f : ℕ → List ℕ) (n : ℕ) → flat_map f (range_with_len 0 (n + 1)) ≡ flat_map f (range_with_len 0 n) ++ f n
flat_map-range_more f n =
    ap (flat_map f) (ap (range_with_len 0) (add-one n) ∙ range_push 0 n ∙ ap (λ (x : ℕ). range_with_len 0 n ++ x ∷ []) (omega arith))
    ∙ flat_map-append f (range_with_len 0 n) (n ∷ [])
    ∙ ap (λ (xs : List ℕ). flat_map f (range_with_len 0 n) ++ xs) (append-nil (f n))

one_more : (test : Bool) (kinds : List TileKind) (tile : ℕ) → tile < length kinds → is_compute (get_or kinds tile Damaged) ≡ test → count_by is_compute (take (tile + 1) kinds) ≡ count_by is_compute (take tile kinds) + cond test 1 0
one_more true kinds tile lt is = count_by_more_yes is_compute kinds tile Damaged lt is
one_more false kinds tile lt is = count_by_more_no is_compute kinds tile Damaged lt is ∙ omega arith

-- the number of the block behind a tile
pub block_of-next : (board : Tiles) (tile : ℕ) (kind : TileKind) → slice_get board.kinds tile ≡ Some kind → block_of board (tile + 1) ≡ block_of board tile + cond (is_compute kind) 1 0
block_of-next board tile kind found =
    one_more (is_compute kind) board.kinds tile (slice_get_within board.kinds tile kind found) (ap is_compute (get_or_from_slice_get board.kinds tile kind Damaged found))

-- the block that was written is that of the tile
pub written_block : (programs : Programs) (tile block : ℕ) (program : List MarkedInstr) → slice_get programs.programs tile ≡ Some program → block ≡ block_of programs.tiles tile → block_text (64 ∷ decimal block) program ≡ tile_text programs tile
written_block programs tile block program found is =
    ap (λ (b : ℕ). block_text (64 ∷ decimal b) program) is
    ∙ ap (block_text (64 ∷ decimal (block_of programs.tiles tile))) (sym (get_or_from_slice_get programs.programs tile program [] found))

-- a block's number is at most its tile's
pub at_most_one_more : (test : Bool) (after before bound : ℕ) → after ≡ before + cond test 1 0 → before ≤ bound → after ≤ bound + 1
at_most_one_more true after before bound is le = omega arith
at_most_one_more false after before bound is le = omega arith
