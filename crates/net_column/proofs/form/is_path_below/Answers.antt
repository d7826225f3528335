use Rattle.std.proofs.Common.{ℕ, sym, ap, ◌∙◌, arith}
use Rattle.std.specs.Prelude.{◌==◌}
use Rattle.net_column.specs.Column.{are_same}
use Rattle.net_column.proofs.Forms.{none_same, none_below}
use Rattle.net_column.proofs.form.is_path_below.Goals as goal

pub returns : goal.returns
returns c =
    ap (λ (n : ℕ). n == 0) c.len.ensures.len ∙ none_same c.args.path.now
    ∙ ap (are_same c.args.path.now) (sym (none_below c.args.position c.args.count (omega (arith, c.if-count-lt2.false, c.if-count-eq2.false))))
