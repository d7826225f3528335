-- What a call on a save answers, beside what is read of its text.
use Rattle.std.specs.Prelude.{◌≡◌, ℕ, Option, Some, None, Result, Ok, Err}
use Rattle.tis_asm.specs.declared.error.AsmError.{AsmError}
use Rattle.tis_asm.specs.declared.error.AsmError.TheVariants as code
use Rattle.tis_asm.specs.Assembling.{TooManyLines, LongLine, BadLine, RepeatedLabel, UnknownLabel}
use Rattle.tis_save.specs.declared.error.SaveError.{SaveError}
use Rattle.tis_save.specs.declared.error.SaveError.TheVariants as cause
use Rattle.tis_save.specs.Reading.{SaveRefusal, BadHead, UnknownBlock, RepeatedBlock, StrayCode, Asm}

-- an error in the code of a block is this refusal; want of memory is none
abbrev pub RefusesBlock : ℕ → AsmError → Option SaveRefusal → Type 0
RefusesBlock block code.TooManyLines refusal = refusal ≡ Some (Asm block TooManyLines)
RefusesBlock block (code.BadLine line) refusal = refusal ≡ Some (Asm block (BadLine line))
RefusesBlock block (code.LongLine line) refusal = refusal ≡ Some (Asm block (LongLine line))
RefusesBlock block (code.RepeatedLabel line) refusal = refusal ≡ Some (Asm block (RepeatedLabel line))
RefusesBlock block (code.UnknownLabel line) refusal = refusal ≡ Some (Asm block (UnknownLabel line))
RefusesBlock block code.NoMemory refusal = ⊥

-- an error is this refusal, unless memory ran out
abbrev pub Refuses : SaveError → Option SaveRefusal → Type 0
Refuses (cause.BadHead line) refusal = refusal ≡ Some (BadHead line)
Refuses (cause.UnknownBlock line) refusal = refusal ≡ Some (UnknownBlock line)
Refuses (cause.RepeatedBlock line) refusal = refusal ≡ Some (RepeatedBlock line)
Refuses (cause.StrayCode line) refusal = refusal ≡ Some (StrayCode line)
Refuses (cause.Asm block error) refusal = RefusesBlock block error refusal
Refuses cause.NoMemory refusal = Unit {0}

-- a test passes where nothing is wrong, and refuses what is wrong
abbrev pub Tests : {X : Type 0} → Result X SaveError → Option SaveRefusal → Type 0
Tests (Ok x) fault = fault ≡ None
Tests (Err error) fault = Refuses error fault

-- the refusal of a reading
abbrev pub refusal_of : {Y : Type 0} → Result Y SaveRefusal → Option SaveRefusal
refusal_of (Ok y) = None
refusal_of (Err refusal) = Some refusal

-- a call answers what this reading answers, by what is seen of it, unless memory ran out
abbrev pub Answers : {X Y : Type 0} → (X → Y) → Result X SaveError → Result Y SaveRefusal → Type 0
Answers view (Ok x) reading = reading ≡ Ok (view x)
Answers view (Err error) reading = Refuses error (refusal_of reading)
