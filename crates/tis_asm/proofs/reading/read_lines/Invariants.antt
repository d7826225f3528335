-- What was read, and then the lines that are left, are all lines.
use Rattle.std.proofs.Common.{◌≡◌, ◌≤◌, ◌+◌, map, drop, length}
use Rattle.std.specs.Prelude.{Ok}
use Rattle.tis_asm.specs.LineView.{source_view}
use Rattle.tis_asm.specs.ReadCode.{nothing_read, code_read}
use Rattle.tis_asm.specs.ReadingView.{reading_view}
use Rattle.tis_asm.proofs.reading.read_lines.Given as goal

abbrev pub invariant-loop-index : goal.invariant-loop-index
invariant-loop-index l = record { short : length l.reading.program ≤ l.index; same : code_read 1 (Ok nothing_read) (map source_view l.sources) ≡ code_read (l.index + 1) (Ok (reading_view l.reading)) (map source_view (drop l.index l.sources)) }
