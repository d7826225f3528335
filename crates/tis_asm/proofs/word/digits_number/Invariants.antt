-- What is left of the digits gives the number that all of them give.
use Rattle.std.proofs.Common.{◌≡◌, ◌≤◌, drop}
use Rattle.std.specs.Prelude.{option_map, min}
use Rattle.tis_asm.specs.Assembling.{digits_number, number_of_digits}
use Rattle.tis_asm.proofs.word.digits_number.Given as goal

abbrev pub invariant-loop-byte : goal.invariant-loop-byte
invariant-loop-byte l = record { low : l.number ≤ 999; same : option_map (min 999) (number_of_digits l.digits) ≡ option_map (min 999) (digits_number l.number (drop l.byte-index l.digits)) }
