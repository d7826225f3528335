use Rattle.std.proofs.Common.{ℕ, List, [], Option, sym, ap, ◌∙◌}
use Rattle.std.specs.Prelude.{◌==◌}
use Rattle.net_column.specs.Column.{passes_by}
use Rattle.net_column.proofs.Forms.{none_same}
use Rattle.net_column.proofs.form.is_direct.Goals as goal

pub returns-in-Some : goal.returns-in-Some
returns-in-Some c = ap (λ (n : ℕ). n == 0) c.len.ensures.len ∙ none_same c.in-Some.path ∙ ap (λ (via : Option (List ℕ)). passes_by via []) (sym c.in-Some.is)
