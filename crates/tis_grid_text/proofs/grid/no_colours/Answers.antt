use Rattle.std.proofs.Common.{ℤ, List, [], ◌∷◌, ◌++◌, pos, replicate, arith, ap, ◌∙◌}
use Rattle.std.proofs.lemmas.List.{replicate_more}
use Rattle.tis_grid_text.proofs.Readings.{black_is}
use Rattle.tis_grid_text.proofs.grid.no_colours.Goals as goal

pub loop-point-preserved : goal.loop-point-preserved
loop-point-preserved c =
    let pushed = c.in_ok-push.ensures.ok in
    pushed ∙ ap (λ (xs : List ℤ). xs ++ c.clamp.result ∷ []) c.loop-point.invariant ∙ ap (λ (x : ℤ). replicate c.loop-point._point (pos 0) ++ x ∷ []) c.clamp.ensures ∙ replicate_more c.loop-point._point (pos 0)

pub returns : goal.returns
returns c = c.loop-point.invariant ∙ black_is c.loop-point._point (omega arith)
