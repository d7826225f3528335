-- Lines are read, and jumps set, one after the other, as all of them are.
use Rattle.std.proofs.Common.{◌≡◌, ℕ, suc, ◌+◌, ◌<◌, List, [], ◌∷◌, map, length, drop, get_or, drop-cons, refl, sym, ap, ◌∙◌, arith}
use Rattle.std.specs.Prelude.{Result, Ok, Err}
use Rattle.tis_asm.specs.declared.source_line.SourceLine.{SourceLine as HeldSource}
use Rattle.tis_asm.specs.declared.reading.NamedJump.{NamedJump as HeldJump}
use Rattle.tis_asm.specs.declared.program.MarkedInstr.{MarkedInstr}
use Rattle.tis_asm.specs.declared.error.AsmError.{AsmError}
use Rattle.tis_asm.specs.declared.error.AsmError.TheVariants as cause
use Rattle.tis_asm.specs.Assembling.{AsmRefusal}
use Rattle.tis_asm.specs.Held.{Refuses}
use Rattle.tis_asm.specs.LineView.{Source, source_view, source_read}
use Rattle.tis_asm.specs.ReadCode.{ReadCode, NamedJump, Labels, line_added, code_read, number_in, jump_set, jumps_set}
use Rattle.tis_asm.specs.ReadingView.{jump_view}

-- what refuses one reading refuses another that has its refusal
pub same_refusal : {X Y : Type 0} (error : AsmError) (first : Result X AsmRefusal) (second : Result Y AsmRefusal) → ((refusal : AsmRefusal) → first ≡ Err refusal → second ≡ Err refusal) → Refuses error first → Refuses error second
same_refusal cause.TooManyLines first second same is = same _ is
same_refusal (cause.BadLine line) first second same is = same _ is
same_refusal (cause.LongLine line) first second same is = same _ is
same_refusal (cause.RepeatedLabel line) first second same is = same _ is
same_refusal (cause.UnknownLabel line) first second same is = same _ is
same_refusal cause.NoMemory first second same is = tt

-- nothing is read behind a refusal
pub refused_code : (number : ℕ) (refusal : AsmRefusal) (sources : List Source) → code_read number (Err refusal) sources ≡ Err refusal
refused_code number refusal [] = refl
refused_code number refusal (source ∷ sources) = refl

pub refused_jumps : (labels : Labels) (refusal : AsmRefusal) (jumps : List NamedJump) → jumps_set labels (Err refusal) jumps ≡ Err refusal
refused_jumps labels refusal [] = refl
refused_jumps labels refusal (jump ∷ jumps) = refl

-- one line more is read
pub line_more : (sources : List HeldSource) (i : ℕ) (source : HeldSource) (code : ReadCode) (whole : Result ReadCode AsmRefusal) → i < length sources → source ≡ get_or sources i source → whole ≡ code_read (i + 1) (Ok code) (map source_view (drop i sources)) → whole ≡ code_read (i + 1 + 1) (line_added (i + 1) code (source_read (i + 1) (source_view source))) (map source_view (drop (i + 1) sources))
line_more sources i source code whole there is same =
    let one : suc i ≡ i + 1 = omega arith in
    let next : drop i sources ≡ source ∷ drop (suc i) sources = drop-cons sources i source there ∙ ap (λ (s : HeldSource). s ∷ drop (suc i) sources) (sym is) in
    same ∙ ap (λ (l : List HeldSource). code_read (i + 1) (Ok code) (map source_view l)) next ∙ ap (λ (n : ℕ). code_read (i + 1 + 1) (line_added (i + 1) code (source_read (i + 1) (source_view source))) (map source_view (drop n sources))) one

pub line_refused : (sources : List HeldSource) (i : ℕ) (source : HeldSource) (code : ReadCode) (whole : Result ReadCode AsmRefusal) (error : AsmError) → i < length sources → source ≡ get_or sources i source → whole ≡ code_read (i + 1) (Ok code) (map source_view (drop i sources)) → Refuses error (line_added (i + 1) code (source_read (i + 1) (source_view source))) → Refuses error whole
line_refused sources i source code whole error there is same refuses =
    same_refusal error (line_added (i + 1) code (source_read (i + 1) (source_view source))) whole
    (λ refusal found. line_more sources i source code whole there is same ∙ ap (λ (r : Result ReadCode AsmRefusal). code_read (i + 1 + 1) r (map source_view (drop (i + 1) sources))) found ∙ refused_code (i + 1 + 1) refusal (map source_view (drop (i + 1) sources)))
    refuses

-- a jump without its label refuses the program
pub jump_refused : (labels : Labels) (jumps held : List HeldJump) (i : ℕ) (d : HeldJump) (program : List MarkedInstr) (whole : Result (List MarkedInstr) AsmRefusal) (error : AsmError) → held ≡ jumps → i < length jumps → whole ≡ jumps_set labels (Ok program) (map jump_view (drop i jumps)) → Refuses error (jump_set (jump_view (get_or held i d)) program (number_in labels (length program) (get_or held i d).label.now)) → Refuses error whole
jump_refused labels jumps held i d program whole error is there same refuses =
    same_refusal error (jump_set (jump_view (get_or held i d)) program (number_in labels (length program) (get_or held i d).label.now)) whole
    (λ refusal found. same ∙ ap (λ (l : List HeldJump). jumps_set labels (Ok program) (map jump_view l)) (drop-cons jumps i d there)
    ∙ ap (λ (l : List HeldJump). jumps_set labels (jump_set (jump_view (get_or l i d)) program (number_in labels (length program) (get_or l i d).label.now)) (map jump_view (drop (suc i) jumps))) (sym is)
    ∙ ap (λ (r : Result (List MarkedInstr) AsmRefusal). jumps_set labels r (map jump_view (drop (suc i) jumps))) found ∙ refused_jumps labels refusal (map jump_view (drop (suc i) jumps)))
    refuses
