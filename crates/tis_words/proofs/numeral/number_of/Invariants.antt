-- What is left of the digits gives the number that all of them give.
use Rattle.std.proofs.Common.{◌≡◌, ◌≤◌, drop}
use Rattle.std.specs.Prelude.{option_and_then}
use Rattle.tis_words.specs.Numerals.{number_of, spelled_behind, at_most}
use Rattle.tis_words.proofs.numeral.number_of.Given as goal

abbrev pub invariant-loop-byte : goal.invariant-loop-byte
invariant-loop-byte l = record { low : l.number ≤ l.most; same : number_of l.most l.word ≡ option_and_then (at_most l.most) (spelled_behind l.number (drop l.byte-index l.word)) }
