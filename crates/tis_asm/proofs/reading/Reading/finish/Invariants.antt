-- The jumps that are left, once the others go where they go, make the program of all.
use Rattle.std.proofs.Common.{◌≡◌, map, drop}
use Rattle.std.specs.Prelude.{Ok}
use Rattle.tis_asm.specs.ReadCode.{jumps_set, program_read}
use Rattle.tis_asm.specs.ReadingView.{jump_view, labels_view, reading_view}
use Rattle.tis_asm.proofs.reading.Reading.finish.Given as goal

abbrev pub invariant-loop-jump : goal.invariant-loop-jump
invariant-loop-jump l = program_read (reading_view l.self) ≡ jumps_set (labels_view l.self.labels.entries) (Ok l.program) (map jump_view (drop l.jump-index l.self.jumps.items))
