use Rattle.std.proofs.Common.{◌≡◌, ℕ, suc, ◌+◌, ◌-◌, List, map, None, sym, ap, subst, ◌∙◌, arith}
use Rattle.std.specs.List.{range_with_len}
use Rattle.std.proofs.lemmas.List.{length-set}
use Rattle.tis_grid.specs.declared.puzzle.OutputAt.{OutputAt}
use Rattle.tis_grid.specs.Puzzle.{Puzzle, Output, output_of}
use Rattle.tis_grade.specs.Verdict.{fault_at, first_fault_at}
use Rattle.tis_grade.specs.Following.{IsFollowedAt}
use Rattle.tis_grade.proofs.Following.{no_fault_here, followed_more, behind_still}
use Rattle.tis_grade.proofs.grading.first_fault.Goals as goal

pub loop-position-preserved : goal.loop-position-preserved
loop-position-preserved c =
    let outputs = c.args.grid.now.puzzle.outputs in
    let state = c.args.state.now.state in
    let position = c.loop-position.position in
    let new = c.go_on_at.new.follow in
    let below = c.loop-position-test.true in
    let four = c.loop-position.invariant.four in
    let is : map output_of c.deref.result.now ≡ outputs = ap (λ (items : List OutputAt). map output_of items) c.deref.ensures.value ∙ ap (λ (puzzle : Puzzle). puzzle.outputs) c.puzzle-puzzle.ensures.puzzle in
    let none : fault_at outputs state position ≡ None = sym (c.in_default.ensures.fault ∙ ap (λ (all : List Output). fault_at all state position) is) in
    let here : IsFollowedAt outputs state position new = subst (λ (all : List Output). IsFollowedAt all state position new) is c.in_default.ensures.followed in
    let left : 4 - position ≡ suc (4 - (position + 1)) = omega (arith, below) in
    record {
      four = length-set c.loop-position.follows position new ∙ four;
      followed = followed_more outputs state c.loop-position.follows position new (omega (arith, below, four)) here c.loop-position.invariant.followed;
      behind = behind_still outputs state c.loop-position.follows position new c.loop-position.invariant.behind;
      rest = c.loop-position.invariant.rest ∙ ap (λ (n : ℕ). first_fault_at outputs state (range_with_len position n)) left ∙ no_fault_here outputs state position (4 - (position + 1)) none;
    }
