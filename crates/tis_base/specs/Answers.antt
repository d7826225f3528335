-- Answers of calls that take memory.
use Rattle.std.specs.Prelude.{◌≡◌, Result, Ok, Err}
use Rattle.tis_base.specs.declared.memory.NoMemory.{NoMemory}

-- the call gives what is wanted, by what contracts see of it, unless memory ran out
abbrev pub Gives : {X Y : Type 0} → (X → Y) → Result X NoMemory → Y → Type 0
Gives view (Ok x) wanted = view x ≡ wanted
Gives view (Err e) wanted = Unit {0}
