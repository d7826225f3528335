use Rattle.std.proofs.Common.{◌≡◌, ℤ, List, [], map, Option, Some, sym, ap, subst, ◌∙◌, arith}
use Rattle.std.specs.Prelude.{unwrap_or}
use Rattle.tis_grid.specs.Puzzle.{output_of}
use Rattle.tis_grid.specs.State.{outs}
use Rattle.tis_grade.specs.Verdict.{output_at, fault_with}
use Rattle.tis_grade.specs.Following.{IsBehind, HoldsAt}
use Rattle.tis_grade.specs.declared.follow.Follow.{Follow}
use Rattle.tis_grade.proofs.Following.{no_fault_seen}
use Rattle.tis_grade.proofs.grading.go_on_at.Goals as goal

pub returns-in-None-out-clause-fault : goal.returns-in-None-out-clause-fault
returns-in-None-out-clause-fault c =
    let output = output_at (map output_of c.args.outputs.now) c.args.position in
    let none : outs c.args.state.now.state c.args.position ≡ [] = ap (λ (taken : Option (List ℤ)). unwrap_or taken []) (sym c.in-None-out.ensures.values) in
    let kept = subst (λ (f : Option Follow). HoldsAt IsBehind output (outs c.args.state.now.state c.args.position) f) c.in-Some.is c.requires in
    let behind = subst (λ (taken : List ℤ). HoldsAt IsBehind output taken (Some c.in-Some.follow)) none kept in
    sym (no_fault_seen output c.args.position [] c.in-Some.follow behind (omega arith))
    ∙ ap (λ (taken : List ℤ). fault_with (map output_of c.args.outputs.now) c.args.position taken) (sym none)
