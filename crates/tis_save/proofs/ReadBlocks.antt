-- Blocks that are read one after the other are those of all lines.
use Rattle.std.proofs.Common.{◌≡◌, ℕ, Bool, true, false, cond, List, [], ◌∷◌, ◌++◌, refl, sym, ap, subst, ◌∙◌, append_assoc, append-nil}
use Rattle.std.specs.Prelude.{Option, Some, None, unwrap_or, not, Result, Ok, Err}
use Rattle.std.specs.List.{take_while}
use Rattle.std.proofs.lemmas.List.Sums.{take_while-cons}
use Rattle.tis_asm.specs.declared.error.AsmError.{AsmError}
use Rattle.tis_asm.specs.declared.error.AsmError.TheVariants as code
use Rattle.tis_asm.specs.declared.program.MarkedInstr.{MarkedInstr}
use Rattle.tis_asm.specs.Assembling.{AsmRefusal, assembled_lines}
use Rattle.tis_save.specs.declared.error.SaveError.{SaveError}
use Rattle.tis_save.specs.declared.error.SaveError.TheVariants as cause
use Rattle.tis_save.specs.Reading.{SaveRefusal, BlockProgram, is_head, is_code, number_of_head, with_block, block_programs, blocks_of}
use Rattle.tis_save.specs.Heads.{block_number}
use Rattle.tis_save.specs.Refusing.{RefusesBlock, Refuses, refusal_of}
use Rattle.tis_asm.specs.Held.{Refuses as RefusesCode}
use Rattle.tis_save.specs.Blocks.{error_of_block, closed_with, closed, in_front, open_blocks}

-- what is read of the blocks so far, of one that has begun, and of those in the lines that are left
abbrev pub blocks_read : List BlockProgram → Option ℕ → Result (List MarkedInstr) AsmRefusal → List (List ℕ) → Result (List BlockProgram) SaveRefusal
blocks_read blocks begun read lines = open_blocks blocks begun read (block_programs (blocks_of lines))

in_front_more : (blocks : List BlockProgram) (block : BlockProgram) (rest : Result (List BlockProgram) SaveRefusal) (number : ℕ) (program : List MarkedInstr) → block ≡ record { number = number; program = program } → in_front blocks (with_block number (Ok program) rest) ≡ in_front (blocks ++ block ∷ []) rest
in_front_more blocks block (Err refusal) number program is = refl
in_front_more blocks block (Ok rest) number program is =
    ap (λ (l : List BlockProgram). Ok l) (ap (λ (b : BlockProgram). blocks ++ b ∷ rest) (sym is) ∙ sym (append_assoc blocks (block ∷ []) rest))

-- what a closed block leaves
pub closed_ok : (blocks after : List BlockProgram) (begun : Option ℕ) (read : Result (List MarkedInstr) AsmRefusal) (rest : Result (List BlockProgram) SaveRefusal) → closed blocks begun read ≡ Ok after → open_blocks blocks begun read rest ≡ in_front after rest
closed_ok blocks after None read rest is = let same : blocks ≡ after = cc in ap (λ (l : List BlockProgram). in_front l rest) same
closed_ok blocks after (Some number) (Err refusal) rest is = absurd cc
closed_ok blocks after (Some number) (Ok program) rest is =
    let same : blocks ++ record { number = number; program = program } ∷ [] ≡ after = cc in
    in_front_more blocks (record { number = number; program = program }) rest number program refl ∙ ap (λ (l : List BlockProgram). in_front l rest) same

pub closed_err : (blocks : List BlockProgram) (begun : Option ℕ) (read : Result (List MarkedInstr) AsmRefusal) (rest : Result (List BlockProgram) SaveRefusal) (refusal : SaveRefusal) → closed blocks begun read ≡ Err refusal → open_blocks blocks begun read rest ≡ Err refusal
closed_err blocks None read rest refusal is = absurd cc
closed_err blocks (Some number) (Err first) rest refusal is = is
closed_err blocks (Some number) (Ok program) rest refusal is = absurd cc

pub same_refusal : {Y Z : Type 0} (error : SaveError) (first : Result Y SaveRefusal) (second : Result Z SaveRefusal) → ((refusal : SaveRefusal) → first ≡ Err refusal → second ≡ Err refusal) → Refuses error (refusal_of first) → Refuses error (refusal_of second)
same_refusal error (Err refusal) second same is = subst (λ r. Refuses error (refusal_of r)) (sym (same refusal refl)) is
same_refusal error (Ok y) second same is = none error is
  where
    none_of_block : (block : ℕ) (e : AsmError) → RefusesBlock block e None → RefusesBlock block e (refusal_of second)
    none_of_block block code.TooManyLines is = absurd cc
    none_of_block block (code.BadLine line) is = absurd cc
    none_of_block block (code.LongLine line) is = absurd cc
    none_of_block block (code.RepeatedLabel line) is = absurd cc
    none_of_block block (code.UnknownLabel line) is = absurd cc
    none_of_block block code.NoMemory is = absurd is

    none : (e : SaveError) → Refuses e None → Refuses e (refusal_of second)
    none (cause.BadHead line) is = absurd cc
    none (cause.UnknownBlock line) is = absurd cc
    none (cause.RepeatedBlock line) is = absurd cc
    none (cause.StrayCode line) is = absurd cc
    none (cause.Asm block e) is = none_of_block block e is
    none cause.NoMemory is = tt

-- a block whose code is refused
pub close_refused : (blocks : List BlockProgram) (number : ℕ) (error : AsmError) (read : Result (List MarkedInstr) AsmRefusal) → RefusesCode error read → Refuses (error_of_block number error) (refusal_of (closed_with blocks number read))
close_refused blocks number code.TooManyLines read is = ap (λ (r : Result (List MarkedInstr) AsmRefusal). refusal_of (closed_with blocks number r)) is
close_refused blocks number (code.BadLine line) read is = ap (λ (r : Result (List MarkedInstr) AsmRefusal). refusal_of (closed_with blocks number r)) is
close_refused blocks number (code.LongLine line) read is = ap (λ (r : Result (List MarkedInstr) AsmRefusal). refusal_of (closed_with blocks number r)) is
close_refused blocks number (code.RepeatedLabel line) read is = ap (λ (r : Result (List MarkedInstr) AsmRefusal). refusal_of (closed_with blocks number r)) is
close_refused blocks number (code.UnknownLabel line) read is = ap (λ (r : Result (List MarkedInstr) AsmRefusal). refusal_of (closed_with blocks number r)) is
close_refused blocks number code.NoMemory read is = tt

-- ---- a line more

head_line : (line : List ℕ) (lines : List (List ℕ)) → is_head line ≡ true → block_programs (blocks_of (line ∷ lines)) ≡ with_block (block_number line) (assembled_lines (take_while is_code lines)) (block_programs (blocks_of lines))
head_line line lines head = ap (λ (b : Bool). block_programs (cond b (record { number = unwrap_or (number_of_head line) 0; lines = take_while is_code lines } ∷ blocks_of lines) (blocks_of lines))) head

no_lines : (line : List ℕ) (lines : List (List ℕ)) → is_head line ≡ true → take_while is_code (line ∷ lines) ≡ []
no_lines line lines head = take_while-cons is_code line lines ∙ ap (λ (b : Bool). cond (not b) (line ∷ take_while is_code lines) []) head

code_line : (line : List ℕ) (lines : List (List ℕ)) → is_head line ≡ false → blocks_of (line ∷ lines) ≡ blocks_of lines
code_line line lines code = ap (λ (b : Bool). cond b (record { number = unwrap_or (number_of_head line) 0; lines = take_while is_code lines } ∷ blocks_of lines) (blocks_of lines)) code

one_line : (line : List ℕ) (lines : List (List ℕ)) → is_head line ≡ false → take_while is_code (line ∷ lines) ≡ line ∷ take_while is_code lines
one_line line lines code = take_while-cons is_code line lines ∙ ap (λ (b : Bool). cond (not b) (line ∷ take_while is_code lines) []) code

-- a head ends the block above it, and begins one
pub at_head : (blocks after : List BlockProgram) (begun : Option ℕ) (spelled fresh : List (List ℕ) → Result (List MarkedInstr) AsmRefusal) (line : List ℕ) (lines whole : List (List ℕ)) (number : ℕ) (all : Result (List BlockProgram) SaveRefusal) → whole ≡ line ∷ lines → is_head line ≡ true → number ≡ block_number line → ((l : List (List ℕ)) → fresh l ≡ assembled_lines l) → closed blocks begun (spelled []) ≡ Ok after → blocks_read blocks begun (spelled (take_while is_code whole)) whole ≡ all → blocks_read after (Some number) (fresh (take_while is_code lines)) lines ≡ all
at_head blocks after begun spelled fresh line lines whole number all whole_is head number_is fresh_is closed_is before =
    let rest = block_programs (blocks_of lines) in
    ap (λ (n : ℕ). in_front after (with_block n (fresh (take_while is_code lines)) rest)) number_is
    ∙ ap (λ (r : Result (List MarkedInstr) AsmRefusal). in_front after (with_block (block_number line) r rest)) (fresh_is (take_while is_code lines))
    ∙ sym (closed_ok blocks after begun (spelled []) (with_block (block_number line) (assembled_lines (take_while is_code lines)) rest) closed_is)
    ∙ ap (λ (r : Result (List BlockProgram) SaveRefusal). open_blocks blocks begun (spelled []) r) (sym (head_line line lines head))
    ∙ ap (λ (l : List (List ℕ)). open_blocks blocks begun (spelled l) (block_programs (blocks_of (line ∷ lines)))) (sym (no_lines line lines head))
    ∙ ap (λ (l : List (List ℕ)). blocks_read blocks begun (spelled (take_while is_code l)) l) (sym whole_is)
    ∙ before

-- where the block above can't be closed, all is refused
pub head_refused : (blocks : List BlockProgram) (begun : Option ℕ) (spelled : List (List ℕ) → Result (List MarkedInstr) AsmRefusal) (line : List ℕ) (lines whole : List (List ℕ)) (all : Result (List BlockProgram) SaveRefusal) (error : SaveError) → whole ≡ line ∷ lines → is_head line ≡ true → blocks_read blocks begun (spelled (take_while is_code whole)) whole ≡ all → Refuses error (refusal_of (closed blocks begun (spelled []))) → Refuses error (refusal_of all)
head_refused blocks begun spelled line lines whole all error whole_is head before =
    same_refusal error (closed blocks begun (spelled [])) all
    (λ refusal is.
    sym before
    ∙ ap (λ (l : List (List ℕ)). blocks_read blocks begun (spelled (take_while is_code l)) l) whole_is
    ∙ ap (λ (l : List (List ℕ)). open_blocks blocks begun (spelled l) (block_programs (blocks_of (line ∷ lines)))) (no_lines line lines head)
    ∙ closed_err blocks begun (spelled []) (block_programs (blocks_of (line ∷ lines))) refusal is)

-- another line belongs to the block that has begun
pub at_code : (blocks : List BlockProgram) (begun : Option ℕ) (spelled after : List (List ℕ) → Result (List MarkedInstr) AsmRefusal) (line : List ℕ) (lines whole : List (List ℕ)) (all : Result (List BlockProgram) SaveRefusal) → whole ≡ line ∷ lines → is_head line ≡ false → ((l : List (List ℕ)) → after l ≡ spelled (line ∷ l)) → blocks_read blocks begun (spelled (take_while is_code whole)) whole ≡ all → blocks_read blocks begun (after (take_while is_code lines)) lines ≡ all
at_code blocks begun spelled after line lines whole all whole_is code after_is before =
    ap (λ (r : Result (List MarkedInstr) AsmRefusal). blocks_read blocks begun r lines) (after_is (take_while is_code lines) ∙ ap spelled (sym (one_line line lines code)))
    ∙ ap (λ (l : _). open_blocks blocks begun (spelled (take_while is_code (line ∷ lines))) (block_programs l)) (sym (code_line line lines code))
    ∙ ap (λ (l : List (List ℕ)). blocks_read blocks begun (spelled (take_while is_code l)) l) (sym whole_is)
    ∙ before

-- behind the last line
pub at_end : (blocks after : List BlockProgram) (begun : Option ℕ) (spelled : List (List ℕ) → Result (List MarkedInstr) AsmRefusal) (whole : List (List ℕ)) (all : Result (List BlockProgram) SaveRefusal) → whole ≡ [] → closed blocks begun (spelled []) ≡ Ok after → blocks_read blocks begun (spelled (take_while is_code whole)) whole ≡ all → all ≡ Ok after
at_end blocks after begun spelled whole all none closed_is before =
    sym before ∙ ap (λ (l : List (List ℕ)). blocks_read blocks begun (spelled (take_while is_code l)) l) none ∙ closed_ok blocks after begun (spelled []) (Ok []) closed_is ∙ ap (λ (l : List BlockProgram). Ok l) (append-nil after)

pub end_refused : (blocks : List BlockProgram) (begun : Option ℕ) (spelled : List (List ℕ) → Result (List MarkedInstr) AsmRefusal) (whole : List (List ℕ)) (all : Result (List BlockProgram) SaveRefusal) (error : SaveError) → whole ≡ [] → blocks_read blocks begun (spelled (take_while is_code whole)) whole ≡ all → Refuses error (refusal_of (closed blocks begun (spelled []))) → Refuses error (refusal_of all)
end_refused blocks begun spelled whole all error none before =
    same_refusal error (closed blocks begun (spelled [])) all (λ refusal is. sym before ∙ ap (λ (l : List (List ℕ)). blocks_read blocks begun (spelled (take_while is_code l)) l) none ∙ closed_err blocks begun (spelled []) (Ok []) refusal is)
