use Rattle.std.proofs.Common.{ℕ, sym, ap, subst, ◌∙◌}
use Rattle.std.proofs.lemmas.Bool.{ne_eqb}
use Rattle.std.specs.Prelude.{◌==◌}
use Rattle.tis_grid.specs.Puzzle.{output_of}
use Rattle.tis_grade.specs.declared.follow.Follow.{Follow}
use Rattle.tis_grade.specs.Following.{IsFollowed}
use Rattle.tis_grade.proofs.Following.{stream_done, picture_done, picture_not_done}
use Rattle.tis_grade.proofs.follow.Follow.is_done.Goals as goal

pub returns-in-Stream : goal.returns-in-Stream
returns-in-Stream c taken followed =
    ap (λ (n : ℕ). c.in-Stream.seen == n) c.len.ensures.len
    ∙ stream_done (output_of c.args.output.now) taken c.in-Stream.seen (subst (λ (f : Follow). IsFollowed (output_of c.args.output.now) taken f) c.in-Stream.is followed)

pub returns-then-all : goal.returns-then-all
returns-then-all c taken followed =
    picture_done (output_of c.args.output.now) taken c.in-Image.seen c.in-Image.console c.in-Image.differing (subst (λ (f : Follow). IsFollowed (output_of c.args.output.now) taken f) c.in-Image.is followed)
    (sym c.len-in-Image.ensures.len ∙ c.if-all.true ∙ c.from.ensures)

pub returns-else-all : goal.returns-else-all
returns-else-all c taken followed =
    ne_eqb c.len-in-Image.result c.from.result c.if-all.false
    ∙ picture_not_done (output_of c.args.output.now) taken c.in-Image.seen c.in-Image.console c.in-Image.differing (subst (λ (f : Follow). IsFollowed (output_of c.args.output.now) taken f) c.in-Image.is followed)
    (λ all. c.if-all.false (c.len-in-Image.ensures.len ∙ all ∙ sym c.from.ensures))
