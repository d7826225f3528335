-- What is held of a text while it is read, and what a reader answers.
use Rattle.std.specs.Prelude.{◌≡◌, ℕ, ◌-◌, Option, Some, None, Result, Ok, Err, if◌then◌else◌}
use Rattle.tis_asm.specs.declared.error.AsmError.{AsmError}
use Rattle.tis_asm.specs.declared.error.AsmError.TheVariants as cause
use Rattle.tis_asm.specs.Assembling.{AsmRefusal, TooManyLines, BadLine, LongLine, RepeatedLabel, UnknownLabel, is_digit}

-- a call gave what this reading gives, by what is seen of it
abbrev pub Found : {X Y : Type 0} → (X → Y) → Option X → Option Y → Type 0
Found view None reading = reading ≡ None
Found view (Some x) reading = reading ≡ Some (view x)

-- what a digit stands for
abbrev pub digit_of : ℕ → Option ℕ
digit_of byte = if is_digit byte then Some (byte - 48) else None

-- a call refuses what this reading refuses, for the same reason, unless memory ran out
abbrev pub Refuses : {Y : Type 0} → AsmError → Result Y AsmRefusal → Type 0
Refuses cause.TooManyLines reading = reading ≡ Err TooManyLines
Refuses (cause.BadLine line) reading = reading ≡ Err (BadLine line)
Refuses (cause.LongLine line) reading = reading ≡ Err (LongLine line)
Refuses (cause.RepeatedLabel line) reading = reading ≡ Err (RepeatedLabel line)
Refuses (cause.UnknownLabel line) reading = reading ≡ Err (UnknownLabel line)
Refuses cause.NoMemory reading = Unit {0}

-- a call answers what this reading answers, by what is seen of it, unless memory ran out
abbrev pub Answers : {X Y : Type 0} → (X → Y) → Result X AsmError → Result Y AsmRefusal → Type 0
Answers view (Ok x) reading = reading ≡ Ok (view x)
Answers view (Err error) reading = Refuses error reading
