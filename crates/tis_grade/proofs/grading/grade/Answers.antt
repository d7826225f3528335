use Rattle.std.proofs.Common.{◌≡◌, ℕ, suc, ◌+◌, ◌-◌, Bool, true, false, List, [], Option, length, map, sym, ap, subst, ◌∙◌, arith}
use Rattle.tis_grid.specs.declared.puzzle.OutputAt.{OutputAt}
use Rattle.tis_grid.specs.Puzzle.{Output, Puzzle, output_of}
use Rattle.tis_grid.specs.State.{State, start}
use Rattle.tis_grid.specs.Choices.{enabled_events}
use Rattle.tis_clock.specs.Cycle.{cycle_events, after_cycle}
use Rattle.tis_clock.proofs.Runs.{rests, works}
use Rattle.tis_grade.specs.declared.verdict.Verdict.TheVariants.{Passed, Stuck, Late}
use Rattle.tis_grade.specs.declared.follow.Follow.{Follow}
use Rattle.tis_grade.specs.Verdict.{output_at, first_fault, are_done, is_none, where_holds, or_later, decided, verdict_from}
use Rattle.tis_grade.specs.Following.{IsFollowed, HoldsAt, AreBehind}
use Rattle.tis_grade.proofs.Verdicts.{start_behind, decided_already, undecided, rest_listed, works_listed, verdict_here, verdict_later, cycle_leaves_behind}
use Rattle.tis_grade.proofs.grading.grade.Goals as goal

pub returns-in-Some : goal.returns-in-Some
returns-in-Some c =
    let grid = c.args.grid.now in
    let state = c.loop-cycles.state.state in
    let cycles = c.loop-cycles.cycles in
    let is = decided_already (first_fault grid state) (where_holds (are_done grid state) (Passed cycles)) (where_holds (is_none (enabled_events grid state)) (Stuck cycles)) c.in-Some.verdict c.in-Some.ensures.verdict in
    sym (c.loop-cycles.invariant.later ∙ verdict_here grid c.args.limit state cycles (c.args.limit - cycles) c.in-Some.verdict is)

pub returns-then-count_cycle-eq0 : goal.returns-then-count_cycle-eq0
returns-then-count_cycle-eq0 c =
    let grid = c.args.grid.now in
    let state = c.loop-cycles.state.state in
    let cycles = c.loop-cycles.cycles in
    let none : length (cycle_events grid c.make_room.new.state.state) ≡ 0 = sym c.count_cycle.ensures.count ∙ c.if-count_cycle-eq0.true in
    let rest = subst (λ (s : State). is_none (enabled_events grid s) ≡ true) c.make_room.ensures.state (rest_listed grid c.make_room.new.state.state c.puzzle.ensures.grid (rests grid c.make_room.new.state.state c.puzzle.ensures.grid none)) in
    let is = undecided (first_fault grid state) (where_holds (are_done grid state) (Passed cycles)) (where_holds (is_none (enabled_events grid state)) (Stuck cycles)) c.in_default.ensures.verdict ∙ ap (λ (b : Bool). where_holds b (Stuck cycles)) rest in
    sym (c.loop-cycles.invariant.later ∙ verdict_here grid c.args.limit state cycles (c.args.limit - cycles) (Stuck cycles) is)

pub loop-cycles-preserved : goal.loop-cycles-preserved
loop-cycles-preserved c =
    let grid = c.args.grid.now in
    let state = c.loop-cycles.state.state in
    let cycles = c.loop-cycles.cycles in
    let limit = c.args.limit in
    let some : length (cycle_events grid c.make_room.new.state.state) ≡ 0 → ⊥ = λ none. c.if-count_cycle-eq0.false (c.count_cycle.ensures.count ∙ none) in
    let goes_on = subst (λ (s : State). is_none (enabled_events grid s) ≡ false) c.make_room.ensures.state (works_listed grid c.make_room.new.state.state c.puzzle.ensures.grid (works grid c.make_room.new.state.state c.puzzle.ensures.grid some)) in
    let undecided_yet = undecided (first_fault grid state) (where_holds (are_done grid state) (Passed cycles)) (where_holds (is_none (enabled_events grid state)) (Stuck cycles)) c.in_default.ensures.verdict ∙ ap (λ (b : Bool). where_holds b (Stuck cycles)) goes_on in
    let next : c.count_cycle.new.state.state ≡ after_cycle grid state = c.count_cycle.ensures.state ∙ ap (λ (s : State). after_cycle grid s) c.make_room.ensures.state in
    let left : limit - cycles ≡ suc (limit - (cycles + 1)) = let below = c.loop-cycles-test.true in omega (arith, below) in
    record {
      fits = c.count_cycle.ensures.fits;
      behind = subst (λ (s : State). AreBehind grid.puzzle.outputs s c.judge.new.follows) (sym next) (cycle_leaves_behind grid state c.judge.new.follows c.puzzle.ensures.grid c.loop-cycles.invariant.fits c.in_default.ensures.followed);
      later =
          c.loop-cycles.invariant.later
          ∙ ap (λ (n : ℕ). verdict_from grid limit state cycles n) left
          ∙ verdict_later grid limit state cycles (limit - (cycles + 1)) undecided_yet
          ∙ ap (λ (s : State). verdict_from grid limit s (cycles + 1) (limit - (cycles + 1))) (sym next);
    }

pub returns : goal.returns
returns c =
    let grid = c.args.grid.now in
    let limit = c.args.limit in
    let state = c.loop-cycles.state.state in
    let all : c.loop-cycles.cycles ≡ limit = let test = c.loop-cycles-test.false in let end = c.loop-cycles.auto.cycles-end in omega (arith, test, end) in
    let none : limit - c.loop-cycles.cycles ≡ 0 = omega (arith, all) in
    c.judge_last.ensures
    ∙ sym (c.loop-cycles.invariant.later ∙ ap (λ (n : ℕ). verdict_from grid limit state c.loop-cycles.cycles n) none ∙ ap (λ (n : ℕ). or_later (decided grid state n) (Late limit)) all)

pub loop-cycles-init : goal.loop-cycles-init
loop-cycles-init c =
    let grid = c.args.grid.now in
    let limit = c.args.limit in
    let state = c.in_ok-state.state.state in
    let first = c.in_ok-state.ensures.state in
    let seen : (held : List OutputAt) → held ≡ c.puzzle.result.now.outputs.items → map output_of held ≡ grid.puzzle.outputs = λ held is. ap (λ (l : List OutputAt). map output_of l) is ∙ ap (λ (p : Puzzle). p.outputs) c.puzzle.ensures.puzzle in
    let kept : (held : List OutputAt) → held ≡ c.puzzle.result.now.outputs.items → (position : ℕ) (follow : Option Follow) → HoldsAt IsFollowed (output_at (map output_of held) position) [] follow → HoldsAt IsFollowed (output_at grid.puzzle.outputs position) [] follow =
    λ held is position follow holds. subst (λ (outputs : List Output). HoldsAt IsFollowed (output_at outputs position) [] follow) (seen held is) holds in
    record {
      fits = c.in_ok-state.ensures.fits;
      behind =
          start_behind grid state grid.puzzle.outputs c.follow_at.result c.follow_at-2.result c.follow_at-3.result c.follow_at-4.result first
          (kept c.deref.result.now c.deref.ensures.value 0 c.follow_at.result c.follow_at.ensures)
          (kept c.deref-2.result.now c.deref-2.ensures.value 1 c.follow_at-2.result c.follow_at-2.ensures)
          (kept c.deref-3.result.now c.deref-3.ensures.value 2 c.follow_at-3.result c.follow_at-3.ensures)
          (kept c.deref-4.result.now c.deref-4.ensures.value 3 c.follow_at-4.result c.follow_at-4.ensures);
      later = sym (ap (λ (s : State). verdict_from grid limit s 0 (limit - 0)) first ∙ ap (λ (n : ℕ). verdict_from grid limit (start grid) 0 n) (omega arith));
    }
