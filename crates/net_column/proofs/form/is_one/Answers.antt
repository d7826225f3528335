use Rattle.std.proofs.Common.{◌∙◌, sym}
use Rattle.net_column.proofs.Forms.{not_one, one_same}
use Rattle.net_column.proofs.form.is_one.Goals as goal

pub returns-then-len-ne1 : goal.returns-then-len-ne1
returns-then-len-ne1 c = not_one c.args.path.now c.args.tile (λ e. c.if-len-ne1.true (c.len.ensures.len ∙ e))

pub returns : goal.returns
returns c = one_same c.args.path.now c.args.tile c.at.result (sym c.len.ensures.len ∙ c.if-len-ne1.false) c.at.ensures
