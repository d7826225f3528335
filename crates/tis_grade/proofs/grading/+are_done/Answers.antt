use Rattle.std.proofs.Common.{◌≡◌, Bool, List, ◌∷◌, map, sym, ap, subst, ◌∙◌}
use Rattle.std.specs.Prelude.{All, ◌&&◌}
use Rattle.std.specs.List.{list_all}
use Rattle.std.proofs.lemmas.Bool.{and_left}
use Rattle.std.proofs.lemmas.List.Elements.{All-head, All-tail}
use Rattle.tis_grid.specs.declared.puzzle.OutputAt.{OutputAt}
use Rattle.tis_grid.specs.Puzzle.{Output, output_of}
use Rattle.tis_grid.specs.State.{outs}
use Rattle.tis_grade.specs.Verdict.{is_done}
use Rattle.tis_grade.specs.Following.{IsFollowedIn}
use Rattle.tis_grade.proofs.grading.+are_done.Goals as goal

pub returns-then-not-is_done_at : goal.returns-then-not-is_done_at
returns-then-not-is_done_at t c state followed =
    let first = output_of c.in-Some.output.now in
    let rest = map output_of c.in-Some.rest.now in
    let split : map output_of c.args.outputs.now ≡ first ∷ rest = ap (λ (outputs : List OutputAt). map output_of outputs) c.in-Some.ensures.cases.0 in
    let all = subst (λ (outputs : List Output). All (IsFollowedIn state c.args.follows.now) outputs) split followed in
    let here = c.is_done_at.ensures (outs state first.position) (All-head (IsFollowedIn state c.args.follows.now) first rest all) in
    sym (ap (λ (outputs : List Output). list_all (is_done state) outputs) split ∙ and_left (is_done state first) (list_all (is_done state) rest) (sym here ∙ c.if-not-is_done_at.true))

pub returns-else-not-is_done_at : goal.returns-else-not-is_done_at
returns-else-not-is_done_at t c state followed =
    let first = output_of c.in-Some.output.now in
    let rest = map output_of c.in-Some.rest.now in
    let split : map output_of c.args.outputs.now ≡ first ∷ rest = ap (λ (outputs : List OutputAt). map output_of outputs) c.in-Some.ensures.cases.0 in
    let all = subst (λ (outputs : List Output). All (IsFollowedIn state c.args.follows.now) outputs) split followed in
    let here = c.is_done_at.ensures (outs state first.position) (All-head (IsFollowedIn state c.args.follows.now) first rest all) in
    let there = c.are_done.ensures state (All-tail (IsFollowedIn state c.args.follows.now) first rest all) in
    there
    ∙ ap (λ (b : Bool). b && list_all (is_done state) rest) (sym c.if-not-is_done_at.false ∙ here)
    ∙ ap (λ (outputs : List Output). list_all (is_done state) outputs) (sym split)
