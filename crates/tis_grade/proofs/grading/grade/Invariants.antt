-- None of the states so far decides, and what was looked at of the outputs is kept.
use Rattle.std.proofs.Common.{◌≡◌, ◌-◌}
use Rattle.tis_grid.specs.Orders.{Fits}
use Rattle.tis_grade.specs.Verdict.{verdict_of, verdict_from}
use Rattle.tis_grade.specs.Following.{AreBehind}
use Rattle.tis_grade.proofs.grading.grade.Given as goal

abbrev pub invariant-loop-cycles : goal.invariant-loop-cycles
invariant-loop-cycles l =
    record {
      fits : Fits l.grid l.state.state;
      behind : AreBehind l.grid.puzzle.outputs l.state.state l.follows;
      later : verdict_of l.grid l.limit ≡ verdict_from l.grid l.limit l.state.state l.cycles (l.limit - l.cycles);
    }
