-- The lines of a save are looked at in order, with one flag for each number that a head above may have.
use Rattle.std.specs.Prelude.{◌≡◌, ℕ, ◌+◌, ◌<◌, true, false, ◌||◌, List, [], ◌∷◌, Option, Some, None, unwrap_or, nat_le, slice_index_or, slice_set, if◌then◌else◌}
use Rattle.std.specs.Option.{option_or}
use Rattle.tis_asm.specs.Assembling.{is_blank}
use Rattle.tis_save.specs.declared.heads.Heads.{Heads}
use Rattle.tis_save.specs.Reading.{SaveRefusal, BadHead, UnknownBlock, RepeatedBlock, StrayCode, is_head, number_of_head}

-- what is wrong with a head of this number below these
abbrev pub flag_fault : ℕ → Heads → ℕ → ℕ → Option SaveRefusal
flag_fault count heads at number =
    if nat_le count number then Some (UnknownBlock at) else
    (if slice_index_or heads.seen number false then Some (RepeatedBlock at) else None)

-- what is wrong with a line that begins with `@`
abbrev pub flagged_head_fault : ℕ → Heads → ℕ → Option ℕ → Option SaveRefusal
flagged_head_fault count heads at None = Some (BadHead at)
flagged_head_fault count heads at (Some number) = flag_fault count heads at number

-- what is wrong with another line
abbrev pub flagged_code_fault : Heads → ℕ → List ℕ → Option SaveRefusal
flagged_code_fault heads at line = if is_blank line || heads.any then None else Some (StrayCode at)

abbrev pub flagged_fault : ℕ → Heads → ℕ → List ℕ → Option SaveRefusal
flagged_fault count heads at line = if is_head line then flagged_head_fault count heads at (number_of_head line) else flagged_code_fault heads at line

-- the flags below a head
abbrev pub with_flag : Heads → Option ℕ → Heads
with_flag heads None = heads
with_flag heads (Some number) = record { seen = slice_set heads.seen number true; any = true }

-- the flags below a line
abbrev pub flags_below : Heads → List ℕ → Heads
flags_below heads line = if is_head line then with_flag heads (number_of_head line) else heads

-- what is wrong with the first wrong one of these lines
abbrev pub first_flagged_fault : ℕ → Heads → ℕ → List (List ℕ) → Option SaveRefusal
first_flagged_fault count heads at [] = None
first_flagged_fault count heads at (line ∷ lines) = option_or (flagged_fault count heads at line) (first_flagged_fault count (flags_below heads line) (at + 1) lines)

-- the number of the block that a head begins
abbrev pub block_number : List ℕ → ℕ
block_number line = unwrap_or (number_of_head line) 0

-- the number of each head among these lines fits in a byte
abbrev pub HaveSmallHeads : List (List ℕ) → Type 0
HaveSmallHeads [] = Unit {0}
HaveSmallHeads (line ∷ lines) = (is_head line ≡ true → block_number line < 256) × HaveSmallHeads lines
