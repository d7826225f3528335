use Rattle.std.proofs.Common.{map, sym, arith}
use Rattle.tis_grid.specs.Puzzle.{output_of}
use Rattle.tis_grade.specs.Verdict.{output_at}
use Rattle.tis_grade.proofs.Following.{no_fault_seen}
use Rattle.tis_grade.proofs.grading.go_on_with.Goals as goal

pub returns-then-seen-len-clause-fault : goal.returns-then-seen-len-clause-fault
returns-then-seen-len-clause-fault c = sym (no_fault_seen (output_at (map output_of c.args.outputs.now) c.args.position) c.args.position c.args.taken.now.items c.args.follow.now c.requires (omega arith))
