-- At the positions so far nothing is wrong, and their outputs are followed; those behind them are as they were.
use Rattle.std.proofs.Common.{◌≡◌, ℕ, ◌-◌, ◌<◌, ◌≤◌, length, get_or, None}
use Rattle.std.specs.List.{range_with_len}
use Rattle.tis_grade.specs.Verdict.{first_fault, first_fault_at}
use Rattle.tis_grade.specs.Following.{IsFollowedAt, IsBehindAt}
use Rattle.tis_grade.proofs.grading.first_fault.Given as goal

abbrev pub invariant-loop-position : goal.invariant-loop-position
invariant-loop-position l =
    record {
      four : length l.follows ≡ 4;
      followed : (k : ℕ) → k < l.position → IsFollowedAt l.grid.puzzle.outputs l.state.state k (get_or l.follows k None);
      behind : (k : ℕ) → l.position ≤ k → k < 4 → IsBehindAt l.grid.puzzle.outputs l.state.state k (get_or l.follows k None);
      rest : first_fault l.grid l.state.state ≡ first_fault_at l.grid.puzzle.outputs l.state.state (range_with_len l.position (4 - l.position));
    }
