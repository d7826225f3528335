-- What is tested and read of a text is what its save is.
use Rattle.std.proofs.Common.{◌≡◌, ℕ, List, [], None, Ok, ap, sym, ◌∙◌}
use Rattle.std.specs.Prelude.{Option}
use Rattle.tis_base.specs.Lines.{text_lines}
use Rattle.tis_base.specs.Tiles.{Tiles}
use Rattle.tis_asm.specs.Programs.{Programs}
use Rattle.tis_save.specs.declared.error.SaveError.{SaveError}
use Rattle.tis_save.specs.Reading.{SaveRefusal, BlockProgram, first_fault, blocks_of, block_programs, compute_count, programs_where, save_of}
use Rattle.tis_save.specs.Refusing.{Refuses, refusal_of}
use Rattle.tis_save.proofs.HeadLines.{fault_same}
use Rattle.tis_save.proofs.ReadBlocks.{same_refusal}

-- a fault of the lines
pub lines_refused : (error : SaveError) (text : List ℕ) (tiles : Tiles) (count : ℕ) → count ≡ compute_count tiles → Refuses error (first_fault count [] 1 (text_lines text)) → Refuses error (refusal_of (save_of text tiles))
unfolding save_of
lines_refused error text tiles count count_is =
    fault_same error (first_fault count [] 1 (text_lines text)) (refusal_of (save_of text tiles))
    (λ fault is. ap (λ (f : Option SaveRefusal). refusal_of (programs_where tiles f (block_programs (blocks_of (text_lines text))))) (sym (ap (λ (n : ℕ). first_fault n [] 1 (text_lines text)) count_is) ∙ is))

right : (text : List ℕ) (tiles : Tiles) (count : ℕ) → count ≡ compute_count tiles → first_fault count [] 1 (text_lines text) ≡ None → save_of text tiles ≡ programs_where tiles None (block_programs (blocks_of (text_lines text)))
unfolding save_of
right text tiles count count_is is = ap (λ (f : Option SaveRefusal). programs_where tiles f (block_programs (blocks_of (text_lines text)))) (sym (ap (λ (n : ℕ). first_fault n [] 1 (text_lines text)) count_is) ∙ is)

-- a refusal of a block
pub blocks_refused : (error : SaveError) (text : List ℕ) (tiles : Tiles) (count : ℕ) → count ≡ compute_count tiles → first_fault count [] 1 (text_lines text) ≡ None → Refuses error (refusal_of (block_programs (blocks_of (text_lines text)))) → Refuses error (refusal_of (save_of text tiles))
blocks_refused error text tiles count count_is is =
    same_refusal error (block_programs (blocks_of (text_lines text))) (save_of text tiles) (λ refusal found. right text tiles count count_is is ∙ ap (programs_where tiles None) found)

-- the programs of the blocks
pub blocks_placed : (text : List ℕ) (tiles : Tiles) (count : ℕ) (blocks : List BlockProgram) (programs : Programs) → count ≡ compute_count tiles → first_fault count [] 1 (text_lines text) ≡ None → block_programs (blocks_of (text_lines text)) ≡ Ok blocks → Ok programs ≡ programs_where tiles None (Ok blocks) → save_of text tiles ≡ Ok programs
blocks_placed text tiles count blocks programs count_is is read placed = right text tiles count count_is is ∙ ap (programs_where tiles None) read ∙ sym placed
