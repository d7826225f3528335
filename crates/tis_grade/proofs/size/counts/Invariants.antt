-- The counts of the tiles so far.
use Rattle.std.proofs.Common.{◌≡◌, ◌*◌, ◌≤◌, take}
use Rattle.tis_grade.specs.Counts.{node_count, instruction_count}
use Rattle.tis_grade.proofs.size.counts.Given as goal

abbrev pub invariant-loop-number : goal.invariant-loop-number
invariant-loop-number l =
    record {
      nodes : l.nodes ≡ node_count (take l.number l.programs.programs);
      instructions : l.instructions ≡ instruction_count (take l.number l.programs.programs);
      few : l.nodes ≤ l.number;
      less : l.instructions ≤ 255 * l.number;
    }
